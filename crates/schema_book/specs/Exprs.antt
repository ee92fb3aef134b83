-- What YIELD and WHERE look at, with numbers for names. The types that a statement speaks of are given by their places.
use Rattle.std.specs.Prelude.{ℕ, ◌+◌, Bool, false, is_some, List, length, map, filter, slice_get, Option, None, Some}
use Rattle.std.specs.List.{find, filter_map, list_any, range_with_len}
use Rattle.std.specs.Option.{option_map, option_map_or, option_and_then}
use Rattle.std.specs.Str.{bytes_eq}
use Rattle.ngql_syntax.specs.declared.cond.RawStep.{RawStep}
use Rattle.ngql_syntax.specs.declared.cond.RawStep.TheVariants as step
use Rattle.ngql_syntax.specs.declared.expr.RawExpr.{RawExpr}
use Rattle.ngql_syntax.specs.declared.expr.RawExpr.TheVariants as raw
use Rattle.ngql_syntax.specs.declared.spanned.Spanned.{Spanned}
use Rattle.schema_book.specs.declared.bound.Expr.{Expr}
use Rattle.schema_book.specs.declared.bound.Expr.TheVariants.{Src, Dst, Rank, Id, Label, Prop}
use Rattle.schema_book.specs.declared.bound.Step.{Step}
use Rattle.schema_book.specs.declared.bound.Step.TheVariants.{Test, Not, And, Or}
use Rattle.schema_book.specs.declared.refused.BookRefused.{BookRefused}
use Rattle.schema_book.specs.declared.refused.BookRefused.TheVariants.{NoSuchName}
use Rattle.schema_book.specs.Columns.{column_place}
use Rattle.schema_book.specs.Entries.{Entries, is_named}
use Rattle.schema_book.specs.Refusals.{unless, first_among}

-- whether the type at a place has this name
abbrev pub is_at : Entries → List ℕ → ℕ → Bool
is_at entries name place = option_map_or (λ e. bytes_eq name e.0) (slice_get entries place) false

-- where the column stands in the type at a place
abbrev pub column_at : Entries → List ℕ → ℕ → Option ℕ
column_at entries column place = option_and_then (λ e. column_place e.1 column) (slice_get entries place)

-- the column by the number of its type and its place there
abbrev pub place_at : Entries → List ℕ → ℕ → Option (ℕ × ℕ)
place_at entries column place = option_map (λ k. (place + 1, k)) (column_at entries column place)

-- `name.column`: no type of the statement has this name, or it has no such column
abbrev pub owner_refused : Entries → Spanned → Spanned → Option ℕ → Option BookRefused
owner_refused entries owner column None = Some (NoSuchName owner.text)
owner_refused entries owner column (Some place) = unless (is_some (column_at entries column.text place)) (NoSuchName column.text)

unfoldable pub expr_refused : Entries → List ℕ → RawExpr → Option BookRefused
expr_refused entries places (raw.Named owner column) = owner_refused entries owner column (find (is_at entries owner.text) places)
expr_refused entries places others = None

-- the first that is refused
unfoldable pub exprs_refused : Entries → List ℕ → List RawExpr → Option BookRefused
exprs_refused entries places exprs = first_among (expr_refused entries places) exprs

abbrev pub step_refused : Entries → List ℕ → RawStep → Option BookRefused
step_refused entries places (step.Test e rel lit) = expr_refused entries places e
step_refused entries places others = None

unfoldable pub steps_refused : Entries → List ℕ → List RawStep → Option BookRefused
steps_refused entries places steps = first_among (step_refused entries places) steps

unfoldable pub cond_refused : Entries → List ℕ → Option (List RawStep) → Option BookRefused
cond_refused entries places None = None
cond_refused entries places (Some steps) = steps_refused entries places steps

-- a column of whatever type, and a column of the type of a name
unfoldable pub places_of : Entries → List ℕ → List ℕ → List (ℕ × ℕ)
places_of entries column places = filter_map (place_at entries column) places

unfoldable pub named_places : Entries → List ℕ → List ℕ → List ℕ → List (ℕ × ℕ)
named_places entries owner column places = filter_map (place_at entries column) (filter (is_at entries owner) places)

-- what is looked at
unfoldable pub expr_of : Entries → List ℕ → RawExpr → Expr
expr_of entries places raw.Src = Src
expr_of entries places raw.Dst = Dst
expr_of entries places raw.Rank = Rank
expr_of entries places raw.Id = Id
expr_of entries places raw.Label = Label
expr_of entries places (raw.Property column) = Prop (places_of entries column.text places)
expr_of entries places (raw.Named owner column) = Prop (named_places entries owner.text column.text places)

unfoldable pub exprs_of : Entries → List ℕ → List RawExpr → List Expr
exprs_of entries places exprs = map (expr_of entries places) exprs

-- a condition, step by step
abbrev pub step_of : Entries → List ℕ → RawStep → Step
step_of entries places (step.Test e rel lit) = Test (expr_of entries places e) rel lit.val
step_of entries places step.Not = Not
step_of entries places step.And = And
step_of entries places step.Or = Or

unfoldable pub steps_of : Entries → List ℕ → List RawStep → List Step
steps_of entries places steps = map (step_of entries places) steps

-- the first name behind OVER that no edge type has
unfoldable pub types_refused : Entries → List Spanned → Option BookRefused
types_refused entries names = first_among (λ n. unless (is_named n.text entries) (NoSuchName n.text)) names

unfoldable pub over_refused : Entries → Option (List Spanned) → Option BookRefused
over_refused entries None = None
over_refused entries (Some names) = types_refused entries names

-- whether the type at a place has one of these names
abbrev pub is_any_at : Entries → List Spanned → ℕ → Bool
is_any_at entries names place = list_any (λ n. is_at entries n.text place) names

-- whether the type at a place is one of those behind OVER: each is, where `*` stands
abbrev pub is_over : Entries → Option (List Spanned) → ℕ → Bool
is_over entries None place = is_some (slice_get entries place)
is_over entries (Some names) place = is_any_at entries names place

-- the places of the types that are walked, rising
unfoldable pub over_places : Entries → Option (List Spanned) → List ℕ
over_places entries over = filter (is_over entries over) (range_with_len 0 (length entries))
