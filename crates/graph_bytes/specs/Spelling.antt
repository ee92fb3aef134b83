-- The one spelling of ids, values, edges, lists of edges, queries, and rows of answers.
use Rattle.std.specs.Prelude.{ℕ, ℤ, Bool, List, [], ◌∷◌, ◌++◌, length, Option, None, Some}
use Rattle.std.specs.List.{flat_map}
use Rattle.std.specs.Int.{w32, w64}
use Rattle.byte_fields.specs.Fields.{number, signed, flag}
use Rattle.graph_model.specs.Names.{text_of}
use Rattle.graph_bytes.specs.Kinds.{number_id, text_id, null_value, int_value, flag_value, words_value, absent_half, here_half, tag_query, edge_query, out_query, in_query, both_query, tag_found, edge_found}
use Rattle.graph_bytes.specs.declared.id_form.IdForm.{IdForm}
use Rattle.graph_bytes.specs.declared.id_form.IdForm.TheVariants.{Bare, Tagged}
use Rattle.graph_model.specs.declared.call_id.CallId.{CallId}
use Rattle.graph_model.specs.declared.edge_id.EdgeId.{EdgeId}
use Rattle.graph_model.specs.declared.found.Found.{Found}
use Rattle.graph_model.specs.declared.half.Half.{Half}
use Rattle.graph_model.specs.declared.half.Half.TheVariants.{Absent, Here}
use Rattle.graph_model.specs.declared.name.Name as names
use Rattle.graph_model.specs.declared.query.Query.{Query}
use Rattle.graph_model.specs.declared.query.Query.TheVariants as asked
use Rattle.graph_model.specs.declared.val.Val.{Val}
use Rattle.graph_model.specs.declared.val.Val.TheVariants.{Null, Int, Flag, Words}
use Rattle.graph_model.specs.declared.vid.Vid.{Vid}
use Rattle.graph_model.specs.declared.vid.Vid.TheVariants.{Num, Name}

-- a text id behind its length
abbrev pub name : names.Name → List ℕ
name n = n.len ∷ text_of n

-- an id; a text has no bare spelling
abbrev pub vid : IdForm → Vid → List ℕ
vid Bare (Num n) = signed w64 n
vid Bare (Name n) = []
vid Tagged (Num n) = number_id ∷ signed w64 n
vid Tagged (Name n) = text_id ∷ name n

-- a text behind its length
abbrev pub text : List ℕ → List ℕ
text bytes = number 4 (length bytes) ++ bytes

-- the kind of a value, and what it holds
abbrev pub value : Val → List ℕ
value Null = null_value ∷ []
value (Int z) = int_value ∷ signed w64 z
value (Flag b) = flag_value ∷ flag b
value (Words t) = words_value ∷ text t

-- the values behind their count
abbrev pub row : List Val → List ℕ
row vals = number 2 (length vals) ++ flat_map value vals

-- absent, or here with a row
abbrev pub half : Half → List ℕ
half Absent = absent_half ∷ []
half (Here vals) = here_half ∷ row vals

-- source, type, rank, destination
abbrev pub edge : IdForm → EdgeId → List ℕ
edge form e = vid form e.src ++ signed w32 e.etype ++ signed w64 e.rank ++ vid form e.dst

-- client, number
abbrev pub call : CallId → List ℕ
call id = number 4 id.client ++ number 8 id.number

-- the edges behind their count
abbrev pub edges : IdForm → List EdgeId → List ℕ
edges form list = length list ∷ flat_map (edge form) list

-- an edge and its half
abbrev pub edge_half : IdForm → EdgeId × Half → List ℕ
edge_half form x = edge form x.0 ++ half x.1

-- edges with their halves, behind their count
abbrev pub halves : IdForm → List (EdgeId × Half) → List ℕ
halves form list = length list ∷ flat_map (edge_half form) list

-- the types behind their count
abbrev pub types : List ℤ → List ℕ
types list = length list ∷ flat_map (signed w32) list

-- the types of edges at a vertex
abbrev pub around : IdForm → Vid → List ℤ → List ℕ
around form v list = vid form v ++ types list

-- a tag of a vertex
abbrev pub tag_of : IdForm → Vid → ℕ → List ℕ
tag_of form v tag = vid form v ++ number 4 tag

-- the kind of a query, and what it asks for
abbrev pub query : IdForm → Query → List ℕ
query form (asked.Tag v tag) = tag_query ∷ tag_of form v tag
query form (asked.Edge e) = edge_query ∷ edge form e
query form (asked.Out v list) = out_query ∷ around form v list
query form (asked.In v list) = in_query ∷ around form v list
query form (asked.Both v list) = both_query ∷ around form v list

-- the row of a tag, or of an edge: whether it was found by its in-half, the edge, the row
abbrev pub found_by : IdForm → Option EdgeId → Bool → List Val → List ℕ
found_by form None inward vals = tag_found ∷ row vals
found_by form (Some e) inward vals = edge_found ∷ (flag inward ++ edge form e ++ row vals)

-- a row of an answer
abbrev pub found : IdForm → Found → List ℕ
found form f = found_by form f.edge f.inward f.row

-- the rows of an answer behind their count
abbrev pub view : IdForm → List Found → List ℕ
view form list = number 4 (length list) ++ flat_map (found form) list
