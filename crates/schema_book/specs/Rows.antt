-- The listed columns of an INSERT, its values, and the rows that they make.
use Rattle.std.specs.Prelude.{ℕ, not, ◌||◌, ◌==◌, is_some, List, [], ◌∷◌, ◌++◌, length, map, slice_get, Option, None, Some}
use Rattle.std.specs.List.{position_from}
use Rattle.std.specs.Option.{option_and_then, option_or, unwrap_or}
use Rattle.std.specs.Str.{bytes_eq}
use Rattle.graph_model.specs.declared.val.Val.{Val}
use Rattle.graph_model.specs.declared.val.Val.TheVariants.{Null}
use Rattle.ngql_syntax.specs.declared.define.Column.{Column}
use Rattle.ngql_syntax.specs.declared.lit.Lit.{Lit}
use Rattle.ngql_syntax.specs.declared.lit.Values.{Values}
use Rattle.ngql_syntax.specs.declared.spanned.Spanned.{Spanned}
use Rattle.schema_book.specs.declared.refused.BookRefused.{BookRefused}
use Rattle.schema_book.specs.declared.refused.BookRefused.TheVariants.{NoSuchName, NameTaken, WrongType, WrongCount, NotSet}
use Rattle.schema_book.specs.Columns.{column_place, fits}
use Rattle.schema_book.specs.Refusals.{unless, first_among}

-- where the first of this name stands among the listed ones
abbrev pub name_place : List Spanned → List ℕ → Option ℕ
name_place names text = position_from (λ n. bytes_eq text n.text) 0 names

-- the first column of this name
abbrev pub column_of : List Column → List ℕ → Option Column
column_of columns name = option_and_then (λ i. slice_get columns i) (column_place columns name)

-- the first listed name that no column has
unfoldable pub no_such_column : List Column → List Spanned → Option BookRefused
no_such_column columns names = first_among (λ n. unless (is_some (column_place columns n.text)) (NoSuchName n.text)) names

-- the first listed name that stands before it
unfoldable pub name_twice : List Spanned → List Spanned → Option BookRefused
name_twice before [] = None
name_twice before (n ∷ names) = option_or (unless (not (is_some (name_place before n.text))) (NameTaken n.text)) (name_twice (before ++ n ∷ []) names)

-- values that aren't as many as the listed names
abbrev pub wrong_count : List Spanned → Values → Option BookRefused
wrong_count names values = unless (length values.list == length names) (WrongCount values.at)

-- a value that doesn't fit the column
abbrev pub misfit : Option Column → Lit → Option BookRefused
misfit None value = None
misfit (Some column) value = unless (fits column value.val) (WrongType column.name)

-- the first value that doesn't fit the column of its name
unfoldable pub wrong_value : List Column → List Spanned → List Lit → Option BookRefused
wrong_value columns [] values = None
wrong_value columns (n ∷ names) [] = None
wrong_value columns (n ∷ names) (v ∷ values) = option_or (misfit (column_of columns n.text) v) (wrong_value columns names values)

-- the first column that isn't listed, has no DEFAULT and takes no NULL
unfoldable pub not_set : List Column → List Spanned → Option BookRefused
not_set columns names = first_among (λ c. unless (is_some (name_place names c.name) || (is_some c.standard || c.nullable)) (NotSet c.name)) columns

-- the value that was given, or else the column's DEFAULT, or else NULL
abbrev pub value_or : Column → Option Lit → Val
value_or column (Some lit) = lit.val
value_or column None = unwrap_or column.standard Null

-- the value that a column gets
abbrev pub value_for : List Spanned → List Lit → Column → Val
value_for names values column = value_or column (option_and_then (λ i. slice_get values i) (name_place names column.name))

-- the row: a value for each column, in their order
unfoldable pub row_of : List Column → List Spanned → List Lit → List Val
row_of columns names values = map (value_for names values) columns
