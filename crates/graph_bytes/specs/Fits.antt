-- What has a spelling: `HasSpelling` says what the types of the numbers don't say already, which is all that whoever
-- writes has to know; `Fits` says the ranges of the numbers too, and that lengths fit their 4 bytes: what is longer is
-- refused as for want of memory where it is to be written.
use Rattle.std.specs.Prelude.{◌≡◌, FitsSigned, ℕ, ℤ, pos, ◌<ℤ◌, ◌<◌, ◌≤◌, ◌^◌, Bool, true, false, List, length, Option, None, Some}
use Rattle.std.specs.Int.{w32, w64}
use Rattle.std.specs.List.{AllByRecursion}
use Rattle.std.specs.Str.{IsUtf8}
use Rattle.graph_bytes.specs.Names.{IsName}
use Rattle.graph_bytes.specs.declared.id_form.IdForm.{IdForm}
use Rattle.graph_bytes.specs.declared.id_form.IdForm.TheVariants.{Bare, Tagged}
use Rattle.graph_model.specs.Edges.{are_edges, edges_in}
use Rattle.graph_model.specs.Types.{AreTypes}
use Rattle.graph_model.specs.declared.call_id.CallId.{CallId}
use Rattle.graph_model.specs.declared.edge_id.EdgeId.{EdgeId}
use Rattle.graph_model.specs.declared.found.Found.{Found}
use Rattle.graph_model.specs.declared.half.Half.{Half}
use Rattle.graph_model.specs.declared.half.Half.TheVariants.{Absent, Here}
use Rattle.graph_model.specs.declared.query.Query.{Query}
use Rattle.graph_model.specs.declared.query.Query.TheVariants as asked
use Rattle.graph_model.specs.declared.val.Val.{Val}
use Rattle.graph_model.specs.declared.val.Val.TheVariants.{Null, Int, Flag, Words}
use Rattle.graph_model.specs.declared.vid.Vid.{Vid}
use Rattle.graph_model.specs.declared.vid.Vid.TheVariants.{Num, Name}

-- the greatest client, and the greatest part
abbrev pub most_small : ℕ
most_small = 64

-- a client, or a part
abbrev pub IsSmall : ℕ → Type 0
IsSmall n = (0 < n) × (n ≤ most_small)

-- ---- what has a spelling, by what the types of the numbers don't say

-- an id: in the bare form a number
abbrev pub HasSpellingVid : IdForm → Vid → Type 0
HasSpellingVid Bare (Num n) = Unit {0}
HasSpellingVid Bare (Name n) = ⊥
HasSpellingVid Tagged (Num n) = Unit {0}
HasSpellingVid Tagged (Name n) = IsName n

-- a value: a text is UTF-8
abbrev pub HasSpellingVal : Val → Type 0
HasSpellingVal Null = Unit {0}
HasSpellingVal (Int z) = Unit {0}
HasSpellingVal (Flag b) = Unit {0}
HasSpellingVal (Words t) = IsUtf8 t

-- a row: not too long
abbrev pub HasSpellingRow : List Val → Type 0
HasSpellingRow vals = (length vals < 2 ^ 16) × AllByRecursion HasSpellingVal vals

-- a half: its row
abbrev pub HasSpellingHalf : Half → Type 0
HasSpellingHalf Absent = Unit {0}
HasSpellingHalf (Here vals) = HasSpellingRow vals

-- the ends of an edge
abbrev pub HasSpellingEnds : IdForm → EdgeId → Type 0
HasSpellingEnds form e = HasSpellingVid form e.src × HasSpellingVid form e.dst

-- an edge: its type is positive
abbrev pub HasSpellingEdge : IdForm → EdgeId → Type 0
HasSpellingEdge form e = HasSpellingVid form e.src × (pos 0 <ℤ e.etype) × HasSpellingVid form e.dst

-- edges: the ends of each
abbrev pub HasSpellingEdges : IdForm → List EdgeId → Type 0
HasSpellingEdges form list = AllByRecursion (HasSpellingEnds form) list

-- an edge and its half
abbrev pub HasSpellingEdgeHalf : IdForm → EdgeId × Half → Type 0
HasSpellingEdgeHalf form x = HasSpellingEnds form x.0 × HasSpellingHalf x.1

-- an edge, its type positive, and its half
abbrev pub HasSpellingWhole : IdForm → EdgeId × Half → Type 0
HasSpellingWhole form x = HasSpellingEdge form x.0 × HasSpellingHalf x.1

-- edges with their halves
abbrev pub HasSpellingHalves : IdForm → List (EdgeId × Half) → Type 0
HasSpellingHalves form list = AllByRecursion (HasSpellingEdgeHalf form) list

-- a query: its ids
abbrev pub HasSpellingQuery : IdForm → Query → Type 0
HasSpellingQuery form (asked.Tag v tag) = HasSpellingVid form v
HasSpellingQuery form (asked.Edge e) = HasSpellingEdge form e
HasSpellingQuery form (asked.Out v types) = HasSpellingVid form v × AreTypes types
HasSpellingQuery form (asked.In v types) = HasSpellingVid form v × AreTypes types
HasSpellingQuery form (asked.Both v types) = HasSpellingVid form v × AreTypes types

-- the edge of a row of an answer: a tag's row is found outward
abbrev pub HasSpellingFoundBy : IdForm → Option EdgeId → Bool → Type 0
HasSpellingFoundBy form None inward = inward ≡ false
HasSpellingFoundBy form (Some e) inward = HasSpellingEdge form e

-- a row of an answer
abbrev pub HasSpellingFound : IdForm → Found → Type 0
HasSpellingFound form f = HasSpellingFoundBy form f.edge f.inward × HasSpellingRow f.row

-- the rows of an answer
abbrev pub HasSpellingView : IdForm → List Found → Type 0
HasSpellingView form list = AllByRecursion (HasSpellingFound form) list

-- ---- the same, with the ranges of the numbers

-- an id
abbrev pub FitsVid : IdForm → Vid → Type 0
FitsVid Bare (Num n) = FitsSigned w64 n
FitsVid Bare (Name n) = ⊥
FitsVid Tagged (Num n) = FitsSigned w64 n
FitsVid Tagged (Name n) = IsName n

-- a value
abbrev pub FitsVal : Val → Type 0
FitsVal Null = Unit {0}
FitsVal (Int z) = FitsSigned w64 z
FitsVal (Flag b) = Unit {0}
FitsVal (Words t) = (length t < 2 ^ 32) × IsUtf8 t

-- a row
abbrev pub FitsRow : List Val → Type 0
FitsRow vals = (length vals < 2 ^ 16) × AllByRecursion FitsVal vals

-- a half
abbrev pub FitsHalf : Half → Type 0
FitsHalf Absent = Unit {0}
FitsHalf (Here vals) = FitsRow vals

-- an edge
pub record FitsEdge (form : IdForm) (e : EdgeId) : Type 0 where
  pub src : FitsVid form e.src
  pub etype : FitsSigned w32 e.etype
  pub is : pos 0 <ℤ e.etype
  pub rank : FitsSigned w64 e.rank
  pub dst : FitsVid form e.dst

-- a call
pub record FitsCall (id : CallId) : Type 0 where
  pub client : IsSmall id.client
  pub count : id.number < 2 ^ 64

-- edges
pub record FitsEdges (form : IdForm) (list : List EdgeId) : Type 0 where
  pub are : are_edges list ≡ true
  pub each : AllByRecursion (FitsEdge form) list

-- an edge and its half
abbrev pub FitsEdgeHalf : IdForm → EdgeId × Half → Type 0
FitsEdgeHalf form x = FitsEdge form x.0 × FitsHalf x.1

-- edges with their halves
pub record FitsHalves (form : IdForm) (list : List (EdgeId × Half)) : Type 0 where
  pub are : are_edges (edges_in list) ≡ true
  pub each : AllByRecursion (FitsEdgeHalf form) list

-- types
pub record FitsTypes (types : List ℤ) : Type 0 where
  pub are : AreTypes types
  pub each : AllByRecursion (FitsSigned w32) types

-- a vertex and the types of edges at it
abbrev pub FitsAround : IdForm → Vid → List ℤ → Type 0
FitsAround form v types = FitsVid form v × FitsTypes types

-- a query
abbrev pub FitsQuery : IdForm → Query → Type 0
FitsQuery form (asked.Tag v tag) = FitsVid form v × (tag < 2 ^ 32)
FitsQuery form (asked.Edge e) = FitsEdge form e
FitsQuery form (asked.Out v types) = FitsAround form v types
FitsQuery form (asked.In v types) = FitsAround form v types
FitsQuery form (asked.Both v types) = FitsAround form v types

-- the edge of a row of an answer
abbrev pub FitsFoundBy : IdForm → Option EdgeId → Bool → Type 0
FitsFoundBy form None inward = inward ≡ false
FitsFoundBy form (Some e) inward = FitsEdge form e

-- a row of an answer
abbrev pub FitsFound : IdForm → Found → Type 0
FitsFound form f = FitsFoundBy form f.edge f.inward × FitsRow f.row

-- the rows of an answer
abbrev pub FitsView : IdForm → List Found → Type 0
FitsView form list = (length list < 2 ^ 32) × AllByRecursion (FitsFound form) list
