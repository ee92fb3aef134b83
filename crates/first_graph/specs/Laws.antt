-- What holds of every run of the graph machine.
use Rattle.std.specs.Prelude.{◌≡◌, ℕ, ℤ, ◌<◌, ◌≤◌, List, [], ◌∷◌, slice_get, Option, None, Some, Bool, false, ◌⊎◌, count_by}
use Rattle.std.specs.Ordering.{eq_by_cmp}
use Rattle.std.specs.FinMap.{get}
use Rattle.first_graph.specs.Keys.{call_cmp}
use Rattle.first_graph.specs.declared.call_id.CallId.{CallId}
use Rattle.first_graph.specs.declared.edge_id.EdgeId.{EdgeId}
use Rattle.first_graph.specs.declared.val.Val.{Val}
use Rattle.first_graph.specs.declared.half.Half.{Half}
use Rattle.first_graph.specs.declared.half.Half.TheVariants.{Absent, Here}
use Rattle.first_graph.specs.declared.query.Query.{Query}
use Rattle.first_graph.specs.declared.op.Op.{Op}
use Rattle.first_graph.specs.declared.op.Op.TheVariants.{PutEdge, DelEdge, PutVertex, DelVertex, Read as ReadOp}
use Rattle.first_graph.specs.declared.answer.Answer.{Answer}
use Rattle.first_graph.specs.declared.answer.Answer.TheVariants.{Fine, Pending, Cancelled}
use Rattle.first_graph.specs.declared.call.CallState.TheVariants.{Done}
use Rattle.first_graph.specs.declared.call.Call.{Call}
use Rattle.first_graph.specs.declared.graph_step.GStep.{GStep}
use Rattle.first_graph.specs.declared.graph_step.GStep.TheVariants.{Invoke, Begin, Skip, Refuse, InHalf, OutHalf, Settle, Cancel, Vertex, Read, Reply}
use Rattle.first_graph.specs.Contents.{Contents, out_half, in_half}
use Rattle.first_graph.specs.Machine.{Machine, contents_at}
use Rattle.first_graph.specs.Run.{edge_of_op}

-- Equal halves: an edge without a chain has equal halves
abbrev pub HasEqualHalves : Machine → Type 0
HasEqualHalves g = (e : EdgeId) → get g.pend e ≡ None → out_half g.contents e ≡ in_half g.contents e

-- whether two ids are the same
abbrev pub is_same_call : CallId → CallId → Bool
is_same_call a b = eq_by_cmp call_cmp a b

-- whether a step is the one that a call may have once: Begin, Skip, Refuse, Vertex or Read
abbrev pub moves : CallId → GStep → Bool
moves id (Invoke c op) = false
moves id (Begin c) = is_same_call id c
moves id (Skip c) = is_same_call id c
moves id (Refuse c) = is_same_call id c
moves id (InHalf e) = false
moves id (OutHalf e) = false
moves id (Settle e) = false
moves id (Cancel e) = false
moves id (Vertex c) = is_same_call id c
moves id (Read c m) = is_same_call id c
moves id (Reply c a) = false

-- whether a step answers a call
abbrev pub replies : CallId → GStep → Bool
replies id (Invoke c op) = false
replies id (Begin c) = false
replies id (Skip c) = false
replies id (Refuse c) = false
replies id (InHalf e) = false
replies id (OutHalf e) = false
replies id (Settle e) = false
replies id (Cancel e) = false
replies id (Vertex c) = false
replies id (Read c m) = false
replies id (Reply c a) = is_same_call id c

-- Once each: a call has at most one such step, and at most one reply
abbrev pub HasEachOnce : List GStep → Type 0
HasEachOnce steps = (id : CallId) → (count_by (moves id) steps ≤ 1) × (count_by (replies id) steps ≤ 1)

-- the step stands among these
abbrev pub Stands : GStep → List GStep → Type 0
Stands s [] = ⊥
Stands s (x ∷ steps) = (x ≡ s) ⊎ Stands s steps

-- the answer says that the write stands, or may stand
abbrev pub IsAssuring : Answer → Type 0
IsAssuring a = (a ≡ Fine) ⊎ (a ≡ Pending)

abbrev pub IsCancelledAt : Option Call → Type 0
IsCancelledAt None = ⊥
IsCancelledAt (Some call) = call.state ≡ Done Cancelled

-- the call was cancelled
abbrev pub IsCancelled : Machine → CallId → Type 0
IsCancelled g id = IsCancelledAt (get g.calls id)

-- Acknowledged is never cancelled: a call that is answered Fine or Pending before g or after it is not cancelled at g
abbrev pub CancelsNoneAcknowledged : List GStep → Machine → List GStep → Type 0
CancelsNoneAcknowledged before g after =
    (id : CallId) (a : Answer) → IsAssuring a → Stands (Reply id a) before ⊎ Stands (Reply id a) after → ¬ (IsCancelled g id)

-- the call with this op was invoked before this place
abbrev pub IsInvokedBefore : List GStep → ℕ → CallId → Op → Type 0
IsInvokedBefore steps place id op = (called : ℕ) × (called < place) × (slice_get steps called ≡ Some (Invoke id op))

-- at this place stands such a step of another call than id, whose op is of this kind
pub record IsOthers (steps : List GStep) (id : CallId) (does : CallId → GStep) (IsKind : Op → Type 0) (place : ℕ) : Type 0 where
  pub other : CallId
  pub differs : ¬ (other ≡ id)
  pub taken : slice_get steps place ≡ Some (does other)
  pub op : Op
  pub invoked : IsInvokedBefore steps place other op
  pub kind : IsKind op

-- it stands between two places
abbrev pub IsOthersBetween : List GStep → CallId → (CallId → GStep) → (Op → Type 0) → ℕ → ℕ → Type 0
IsOthersBetween steps id does IsKind since until = (place : ℕ) × (since < place) × (place < until) × IsOthers steps id does IsKind place

-- the call writes this edge
abbrev pub WritesEdge : EdgeId → Op → Type 0
WritesEdge e op = edge_of_op op ≡ Some e

-- the vertex that a call writes
abbrev pub vertex_of_op : Op → Option ℤ
vertex_of_op (PutEdge e row absent) = None
vertex_of_op (DelEdge e) = None
vertex_of_op (PutVertex v t row absent) = Some v
vertex_of_op (DelVertex v) = Some v
vertex_of_op (ReadOp q) = None

-- the call writes this vertex
abbrev pub WritesVertex : ℤ → Op → Type 0
WritesVertex v op = vertex_of_op op ≡ Some v

-- the chain of the call settles at this place: there stands the first Settle on the edge since the call's Begin
pub record Settles (steps : List GStep) (id : CallId) (e : EdgeId) (place : ℕ) : Type 0 where
  pub begin : ℕ
  pub begins : slice_get steps begin ≡ Some (Begin id)
  pub later : begin < place
  pub settles : slice_get steps place ≡ Some (Settle e)
  pub first : (between : ℕ) → begin < between → between < place → ¬ (slice_get steps between ≡ Some (Settle e))

-- before its reply the call settled on the edge; what it wrote holds at moment m, unless another call's Begin on the edge stands between
pub record EdgeStays (steps : List GStep) (id : CallId) (reply m : ℕ) (e : EdgeId) (Holds : Type 0) : Type 0 where
  pub settle : ℕ
  pub settled : Settles steps id e settle
  pub before : settle < reply
  pub holds : IsOthersBetween steps id Begin (WritesEdge e) settle m ⊎ Holds

-- before its reply the call wrote the vertex; what it wrote holds at moment m, unless another call's Vertex on it stands between
pub record VertexStays (steps : List GStep) (id : CallId) (reply m : ℕ) (v : ℤ) (Holds : Type 0) : Type 0 where
  pub write : ℕ
  pub written : slice_get steps write ≡ Some (Vertex id)
  pub before : write < reply
  pub holds : IsOthersBetween steps id Vertex (WritesVertex v) write m ⊎ Holds

-- both halves of the edge are this one
abbrev pub HasHalves : Contents → EdgeId → Half → Type 0
HasHalves c e half = (out_half c e ≡ half) × (in_half c e ≡ half)

-- the tag of the vertex has this row
abbrev pub HasTag : Contents → ℤ → ℕ → List Val → Type 0
HasTag c v t row = get c.verts (record { vid = v; tag = t }) ≡ Some row

-- the vertex has no tag
abbrev pub HasNoTag : Contents → ℤ → Type 0
HasNoTag c v = (t : ℕ) → get c.verts (record { vid = v; tag = t }) ≡ None

-- what an answered call wrote stays to moment m, whose contents are c
abbrev pub Stays : List GStep → CallId → ℕ → ℕ → Contents → Op → Type 0
Stays steps id reply m c (PutEdge e row absent) = EdgeStays steps id reply m e (HasHalves c e (Here row))
Stays steps id reply m c (DelEdge e) = EdgeStays steps id reply m e (HasHalves c e Absent)
Stays steps id reply m c (PutVertex v t row absent) = VertexStays steps id reply m v (HasTag c v t row)
Stays steps id reply m c (DelVertex v) = VertexStays steps id reply m v (HasNoTag c v)
Stays steps id reply m c (ReadOp q) = Unit {0}

-- Acknowledged stays visible: a call is answered Fine, then a read is invoked; what the call wrote stays to the moment of that read
abbrev pub StaysVisible : List GStep → Machine → Type 0
StaysVisible steps h =
    (id reader : CallId) (op : Op) (q : Query) (call reply asked answered m : ℕ)
    → slice_get steps call ≡ Some (Invoke id op)
    → slice_get steps reply ≡ Some (Reply id Fine)
    → reply < asked
    → slice_get steps asked ≡ Some (Invoke reader (ReadOp q))
    → slice_get steps answered ≡ Some (Read reader m)
    → Stays steps id reply m (contents_at h m) op
