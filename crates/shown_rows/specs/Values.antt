-- The value of what is looked at, of a row that a read found: null where there is none.
use Rattle.std.specs.Prelude.{ℕ, ℤ, pos, negsuc, Bool, nat_eq, List, Option, None, Some, slice_get}
use Rattle.std.specs.List.{find}
use Rattle.std.specs.Option.{option_map, option_map_or, option_and_then}
use Rattle.graph_model.specs.declared.edge_id.EdgeId.{EdgeId}
use Rattle.graph_model.specs.declared.found.Found.{Found}
use Rattle.graph_model.specs.declared.tag_key.TagKey.{TagKey}
use Rattle.graph_model.specs.declared.val.Val.{Val}
use Rattle.graph_model.specs.declared.val.Val.TheVariants.{Null, Int, Words}
use Rattle.graph_model.specs.declared.vid.Vid.{Vid}
use Rattle.graph_model.specs.declared.vid.Vid.TheVariants.{Num, Name}
use Rattle.graph_model.specs.Names.{text_of}
use Rattle.schema_book.specs.declared.bound.Expr.{Expr}
use Rattle.schema_book.specs.declared.bound.Expr.TheVariants.{Src, Dst, Rank, Id, Label, Prop}
use Rattle.schema_book.specs.Entries.{Entries, name_of}

-- the id of a vertex: a number, or a text
abbrev pub id_value : Vid → Val
id_value (Num n) = Int n
id_value (Name name) = Words (text_of name)

-- an edge's type as a number of the schema
abbrev pub type_number : ℤ → Option ℕ
type_number (pos n) = Some n
type_number (negsuc n) = None

-- the name of an edge's type, as a text
abbrev pub type_name : Entries → EdgeId → Val
type_name edges e = option_map_or Words (option_and_then (name_of edges) (type_number e.etype)) Null

-- the number of the edge's type, where a row is an edge's, else that of the tag
abbrev pub number_of : Option TagKey → Option EdgeId → Option ℕ
number_of key (Some e) = type_number e.etype
number_of key None = option_map (λ k. k.tag) key

-- whether a column is one of the type or tag of this number
abbrev pub is_column_of : ℕ → ℕ × ℕ → Bool
is_column_of number at = nat_eq at.0 number

-- the value of the column that stands there for the type or tag
abbrev pub column_value : List Val → ℕ × ℕ → Val
column_value row at = option_map_or (λ v. v) (slice_get row at.1) Null

abbrev pub property : List (ℕ × ℕ) → List Val → Option ℕ → Val
property places row None = Null
property places row (Some number) = option_map_or (column_value row) (find (is_column_of number) places) Null

-- What is looked at, of what a read found; `key` names the vertex and the tag where the row is a tag's. The ends are those of the
-- stored edge, whichever way it is walked.
abbrev pub value_of : Entries → Option TagKey → Found → Expr → Val
value_of edges key found Src = option_map_or (λ e. id_value e.src) found.edge Null
value_of edges key found Dst = option_map_or (λ e. id_value e.dst) found.edge Null
value_of edges key found Rank = option_map_or (λ e. Int e.rank) found.edge Null
value_of edges key found Id = option_map_or (λ k. id_value k.vid) key Null
value_of edges key found Label = option_map_or (type_name edges) found.edge Null
value_of edges key found (Prop places) = property places found.row (number_of key found.edge)
