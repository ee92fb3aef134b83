-- Reading from left to right. The place of a misfit is the first byte of the first field that doesn't fit: a kind that is
-- none; a number, a flag or a text that is cut short; a flag above 1; a client that isn't 1 to 64; a type that isn't
-- positive, or doesn't rise; a count that is too small or too great; a text that isn't UTF-8; an edge that stands already.
use Rattle.std.specs.Prelude.{ℕ, ℤ, pos, Bool, false, not, List, [], ◌∷◌, ◌++◌, Result, Ok, Err, None, Some, int_lt, ◌==◌, if◌then◌else◌}
use Rattle.std.specs.Int.{w32, w64}
use Rattle.std.specs.Str.{is_utf8}
use Rattle.byte_fields.specs.declared.misfit.Misfit.{Misfit}
use Rattle.byte_fields.specs.Reading.{◌>>=◌, misfit, byte_at, number_at, signed_at, flag_at, run_at, id_at, many_at, both_at, made_at, such_at, count_at, counted_at, each_at}
use Rattle.maps.specs.Keys.{has_key}
use Rattle.graph_model.specs.Names.{name_of}
use Rattle.graph_model.specs.Edges.{most_edges}
use Rattle.graph_model.specs.Types.{most_types}
use Rattle.graph_bytes.specs.Fits.{most_small}
use Rattle.graph_bytes.specs.Names.{most_text}
use Rattle.graph_bytes.specs.Kinds.{number_id, text_id, null_value, int_value, flag_value, words_value, absent_half, here_half, tag_query, edge_query, out_query, in_query, both_query, tag_found, edge_found}
use Rattle.graph_bytes.specs.declared.id_form.IdForm.{IdForm}
use Rattle.graph_bytes.specs.declared.id_form.IdForm.TheVariants.{Bare, Tagged}
use Rattle.graph_model.specs.Keys.{edge_cmp}
use Rattle.graph_model.specs.Ops.{edges_in}
use Rattle.graph_model.specs.declared.call_id.CallId.{CallId}
use Rattle.graph_model.specs.declared.edge_id.EdgeId.{EdgeId}
use Rattle.graph_model.specs.declared.found.Found.{Found}
use Rattle.graph_model.specs.declared.half.Half.{Half}
use Rattle.graph_model.specs.declared.half.Half.TheVariants.{Absent, Here}
use Rattle.graph_model.specs.declared.name.Name as names
use Rattle.graph_model.specs.declared.query.Query.{Query}
use Rattle.graph_model.specs.declared.query.Query.TheVariants as asked
use Rattle.graph_model.specs.declared.val.Val.{Val}
use Rattle.graph_model.specs.declared.val.Val.TheVariants.{Null, Int, Flag, Words}
use Rattle.graph_model.specs.declared.vid.Vid.{Vid}
use Rattle.graph_model.specs.declared.vid.Vid.TheVariants.{Num, Name}

-- n bytes that are UTF-8
unfoldable pub utf8_at : ℕ → List ℕ → Result (List ℕ × List ℕ) Misfit
utf8_at n bytes = such_at is_utf8 (run_at n) bytes

-- a text of at most 32 bytes behind its length
unfoldable pub short_text_at : List ℕ → Result (List ℕ × List ℕ) Misfit
short_text_at bytes = counted_at (count_at 0 most_text) utf8_at bytes

-- a text id
unfoldable pub name_at : List ℕ → Result (names.Name × List ℕ) Misfit
name_at bytes = made_at name_of short_text_at bytes

-- an id's kind, and the id
unfoldable pub tagged_at : List ℕ → Result (Vid × List ℕ) Misfit
tagged_at bytes = byte_at bytes >>= λ kind.
    if kind.0 == number_id then made_at (λ n. Num n) (signed_at w64) kind.1
    else if kind.0 == text_id then made_at (λ n. Name n) name_at kind.1
    else Err (misfit bytes)

-- an id
unfoldable pub vid_at : IdForm → List ℕ → Result (Vid × List ℕ) Misfit
vid_at Bare bytes = made_at (λ n. Num n) (signed_at w64) bytes
vid_at Tagged bytes = tagged_at bytes

-- a text behind its length
unfoldable pub text_at : List ℕ → Result (List ℕ × List ℕ) Misfit
text_at bytes = counted_at (number_at 4) utf8_at bytes

-- a value's kind, and what it holds
unfoldable pub value_at : List ℕ → Result (Val × List ℕ) Misfit
value_at bytes = byte_at bytes >>= λ kind.
    if kind.0 == null_value then Ok (Null, kind.1)
    else if kind.0 == int_value then made_at (λ z. Int z) (signed_at w64) kind.1
    else if kind.0 == flag_value then made_at (λ b. Flag b) flag_at kind.1
    else if kind.0 == words_value then made_at (λ t. Words t) text_at kind.1
    else Err (misfit bytes)

-- values behind their count
unfoldable pub row_at : List ℕ → Result (List Val × List ℕ) Misfit
row_at bytes = counted_at (number_at 2) (many_at value_at) bytes

-- absent, or here with a row
unfoldable pub half_at : List ℕ → Result (Half × List ℕ) Misfit
half_at bytes = byte_at bytes >>= λ kind.
    if kind.0 == absent_half then Ok (Absent, kind.1)
    else if kind.0 == here_half then made_at (λ vals. Here vals) row_at kind.1
    else Err (misfit bytes)

-- an edge type above `low`
unfoldable pub type_at : ℤ → List ℕ → Result (ℤ × List ℕ) Misfit
type_at low bytes = such_at (λ t. int_lt low t) (signed_at w32) bytes

-- the edge of source, type, rank and destination
abbrev pub edge_of : (((Vid × ℤ) × ℤ) × Vid) → EdgeId
edge_of x = record { src = x.0.0.0; etype = x.0.0.1; rank = x.0.1; dst = x.1 }

-- source, type, rank, destination
unfoldable pub edge_at : IdForm → List ℕ → Result (EdgeId × List ℕ) Misfit
edge_at form bytes = made_at edge_of (both_at (both_at (both_at (vid_at form) (type_at (pos 0))) (signed_at w64)) (vid_at form)) bytes

-- a client, or a part
abbrev pub small_at : List ℕ → Result (ℕ × List ℕ) Misfit
small_at bytes = id_at most_small 0 bytes

-- the call of client and number
abbrev pub call_of : (ℕ × ℕ) → CallId
call_of x = record { client = x.0; number = x.1 }

-- client, number
unfoldable pub call_at : List ℕ → Result (CallId × List ℕ) Misfit
call_at bytes = made_at call_of (both_at small_at (number_at 8)) bytes

-- an edge that isn't among these
unfoldable pub new_edge_at : IdForm → List EdgeId → List ℕ → Result (EdgeId × List ℕ) Misfit
new_edge_at form known bytes = such_at (λ e. not (has_key edge_cmp e known)) (edge_at form) bytes

-- a list with one more behind it
abbrev pub grown : {X : Type 0} → List X → X → List X
grown list x = list ++ x ∷ []

-- n edges that aren't among these, none twice
abbrev pub new_edges_at : IdForm → ℕ → List EdgeId → List ℕ → Result (List EdgeId × List ℕ) Misfit
new_edges_at form n known bytes = each_at grown (new_edge_at form) n known bytes

-- 1 to 64 edges behind their count, none twice
unfoldable pub edges_at : IdForm → List ℕ → Result (List EdgeId × List ℕ) Misfit
edges_at form bytes = counted_at (count_at 1 most_edges) (λ n rest. new_edges_at form n [] rest) bytes

-- an edge that isn't among these, and its half
unfoldable pub new_half_at : IdForm → List (EdgeId × Half) → List ℕ → Result ((EdgeId × Half) × List ℕ) Misfit
new_half_at form known bytes = both_at (new_edge_at form (edges_in known)) half_at bytes

-- n edges with their halves, none among these and none twice
abbrev pub new_halves_at : IdForm → ℕ → List (EdgeId × Half) → List ℕ → Result (List (EdgeId × Half) × List ℕ) Misfit
new_halves_at form n known bytes = each_at grown (new_half_at form) n known bytes

-- 1 to 64 edges with their halves, behind their count, no edge twice
unfoldable pub halves_at : IdForm → List ℕ → Result (List (EdgeId × Half) × List ℕ) Misfit
halves_at form bytes = counted_at (count_at 1 most_edges) (λ n rest. new_halves_at form n [] rest) bytes

-- n types, rising, the first above `low`
abbrev pub rising_types_at : ℕ → ℤ → List ℕ → Result (List ℤ × List ℕ) Misfit
rising_types_at n low bytes = each_at (λ before t. t) type_at n low bytes

-- at most 64 types behind their count, positive and rising
unfoldable pub types_at : List ℕ → Result (List ℤ × List ℕ) Misfit
types_at bytes = counted_at (count_at 0 most_types) (λ n rest. rising_types_at n (pos 0) rest) bytes

-- a vertex and types
unfoldable pub around_at : IdForm → List ℕ → Result ((Vid × List ℤ) × List ℕ) Misfit
around_at form bytes = both_at (vid_at form) types_at bytes

-- a vertex and a tag
unfoldable pub tag_at : IdForm → List ℕ → Result ((Vid × ℕ) × List ℕ) Misfit
tag_at form bytes = both_at (vid_at form) (number_at 4) bytes

-- a query's kind, and what it asks for
unfoldable pub query_at : IdForm → List ℕ → Result (Query × List ℕ) Misfit
query_at form bytes = byte_at bytes >>= λ kind.
    if kind.0 == tag_query then made_at (λ x. asked.Tag x.0 x.1) (tag_at form) kind.1
    else if kind.0 == edge_query then made_at (λ e. asked.Edge e) (edge_at form) kind.1
    else if kind.0 == out_query then made_at (λ x. asked.Out x.0 x.1) (around_at form) kind.1
    else if kind.0 == in_query then made_at (λ x. asked.In x.0 x.1) (around_at form) kind.1
    else if kind.0 == both_query then made_at (λ x. asked.Both x.0 x.1) (around_at form) kind.1
    else Err (misfit bytes)

-- the row of a tag
abbrev pub of_tag : List Val → Found
of_tag vals = record { edge = None; inward = false; row = vals }

-- the row of an edge
abbrev pub of_edge : ((Bool × EdgeId) × List Val) → Found
of_edge x = record { edge = Some x.0.1; inward = x.0.0; row = x.1 }

-- a row of an answer: its kind, and what is found
unfoldable pub found_at : IdForm → List ℕ → Result (Found × List ℕ) Misfit
found_at form bytes = byte_at bytes >>= λ kind.
    if kind.0 == tag_found then made_at of_tag row_at kind.1
    else if kind.0 == edge_found then made_at of_edge (both_at (both_at flag_at (edge_at form)) row_at) kind.1
    else Err (misfit bytes)

-- the rows of an answer behind their count
unfoldable pub view_at : IdForm → List ℕ → Result (List Found × List ℕ) Misfit
view_at form bytes = counted_at (number_at 4) (many_at (found_at form)) bytes
