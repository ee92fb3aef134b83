-- The columns of a tag or an edge type, and the values that they take.
use Rattle.std.specs.Prelude.{ℕ, Bool, true, false, is_some, is_none, List, [], ◌∷◌, ◌++◌, Option, None, Some, if◌then◌else◌}
use Rattle.std.specs.List.{position_from}
use Rattle.std.specs.Option.{option_map_or}
use Rattle.std.specs.Str.{bytes_eq}
use Rattle.graph_model.specs.declared.val.Val.{Val}
use Rattle.graph_model.specs.declared.val.Val.TheVariants as val
use Rattle.ngql_syntax.specs.declared.define.Kind.{Kind}
use Rattle.ngql_syntax.specs.declared.define.Kind.TheVariants.{Int, Flag, Words}
use Rattle.ngql_syntax.specs.declared.define.Column.{Column}
use Rattle.schema_book.specs.declared.refused.BookRefused.{BookRefused}
use Rattle.schema_book.specs.declared.refused.BookRefused.TheVariants.{NameTaken, WrongType}

-- whether a value that isn't NULL is of the kind
abbrev pub is_of : Kind → Val → Bool
is_of Int (val.Int n) = true
is_of Flag (val.Flag b) = true
is_of Words (val.Words text) = true
is_of kind others = false

-- whether the column takes the value
abbrev pub fits : Column → Val → Bool
fits column val.Null = column.nullable
fits column (val.Int n) = is_of column.kind (val.Int n)
fits column (val.Flag b) = is_of column.kind (val.Flag b)
fits column (val.Words text) = is_of column.kind (val.Words text)

-- whether its DEFAULT fits, if it has one
abbrev pub is_sound : Column → Bool
is_sound column = option_map_or (λ v. fits column v) column.standard true

-- where the first column of this name stands
abbrev pub column_place : List Column → List ℕ → Option ℕ
column_place columns name = position_from (λ c. bytes_eq name c.name) 0 columns

-- the first column that is refused: its name stands before it, or its DEFAULT doesn't fit
abbrev pub bad_column : List Column → List Column → Option BookRefused
bad_column before [] = None
bad_column before (c ∷ columns) =
    if is_some (column_place before c.name) then Some (NameTaken c.name)
    else if is_sound c then bad_column (before ++ c ∷ []) columns
    else Some (WrongType c.name)

-- whether none is refused: each name stands once, and each DEFAULT fits
abbrev pub are_sound : List Column → Bool
are_sound columns = is_none (bad_column [] columns)
