-- A column that is looked at is there.
use Rattle.std.proofs.Common.{◌≡◌, ℕ, suc, ◌+◌, ◌<◌, nat_lt, Bool, true, false, cond, List, [], ◌∷◌, length, filter, filter_map, slice_get, Option, None, Some, refl, ap, ◌∙◌, arith}
use Rattle.std.specs.List.{list_all, cons_option, position_from}
use Rattle.std.specs.Option.{option_and_then, option_map, option_map_or}
use Rattle.std.specs.Str.{bytes_eq}
use Rattle.ngql_syntax.specs.declared.cond.RawStep.{RawStep}
use Rattle.ngql_syntax.specs.declared.cond.RawStep.TheVariants as step
use Rattle.ngql_syntax.specs.declared.define.Column.{Column}
use Rattle.ngql_syntax.specs.declared.expr.RawExpr.{RawExpr}
use Rattle.ngql_syntax.specs.declared.expr.RawExpr.TheVariants as raw
use Rattle.schema_book.specs.Columns.{column_place}
use Rattle.schema_book.specs.Entries.{Entries}
use Rattle.schema_book.specs.Exprs.{is_at, place_at, places_of, named_places, expr_of, exprs_of, step_of, steps_of}
use Rattle.schema_book.specs.Fits.{columns_of, is_column, expr_fits, step_fits, cond_fits}
use Rattle.schema_book.proofs.FitsLemmas.{both}

-- the columns of the entry at a place
pub at_number : (entries : Entries) (place : ℕ) → columns_of entries (place + 1) ≡ option_map (λ e. e.1) (slice_get entries place)
at_number entries place = ap (columns_of entries) (let e : place + 1 ≡ suc place = omega arith in e)

within_by : (n k : ℕ) (xs : List Column) (b : Bool) (rest : Option ℕ) → cond b (Some n) rest ≡ Some k → (rest ≡ Some k → k < (n + 1) + length xs) → k < n + suc (length xs)
within_by n k xs true rest h below = let e : n ≡ k = cc in omega (arith, e)
within_by n k xs false rest h below = let e = below h in omega (arith, e)

within : (p : Column → Bool) (n : ℕ) (xs : List Column) (k : ℕ) → position_from p n xs ≡ Some k → k < n + length xs
within p n [] k h = cc
within p n (x ∷ xs) k h = within_by n k xs (p x) (position_from p (n + 1) xs) h (within p (n + 1) xs k)

found_by : (entries : Entries) (place : ℕ) (columns : List Column) (name : List ℕ) (o : Option ℕ) → column_place columns name ≡ o → columns_of entries (place + 1) ≡ Some columns
    → option_map_or (is_column entries) (option_map (λ k. (place + 1, k)) o) true ≡ true
found_by entries place columns name None at there = refl
found_by entries place columns name (Some k) at there =
    let inside : k < 0 + length columns = within (λ c. bytes_eq name c.name) 0 columns k at in
    let less : nat_lt k (length columns) ≡ true = grind (arith, inside) in
    ap (λ cs. option_map_or (λ cs. nat_lt k (length cs)) cs false) there ∙ less

there_by : (entries : Entries) (place : ℕ) (name : List ℕ) (o : Option (List ℕ × List Column)) → columns_of entries (place + 1) ≡ option_map (λ e. e.1) o
    → option_map_or (is_column entries) (option_map (λ k. (place + 1, k)) (option_and_then (λ e. column_place e.1 name) o)) true ≡ true
there_by entries place name None at = refl
there_by entries place name (Some e) at = found_by entries place e.1 name (column_place e.1 name) refl at

place_there : (entries : Entries) (name : List ℕ) (place : ℕ) → option_map_or (is_column entries) (place_at entries name place) true ≡ true
place_there entries name place = there_by entries place name (slice_get entries place) (at_number entries place)

-- all that are found
put_by : (p : ℕ × ℕ → Bool) (o : Option (ℕ × ℕ)) (rest : List (ℕ × ℕ)) → option_map_or p o true ≡ true → list_all p rest ≡ true → list_all p (cons_option o rest) ≡ true
put_by p None rest here others = others
put_by p (Some x) rest here others = both here others

all_there : (entries : Entries) (name : List ℕ) (places : List ℕ) → list_all (is_column entries) (filter_map (place_at entries name) places) ≡ true
all_there entries name [] = refl
all_there entries name (place ∷ places) = put_by (is_column entries) (place_at entries name place) (filter_map (place_at entries name) places) (place_there entries name place) (all_there entries name places)

expr_there : (entries : Entries) (places : List ℕ) (e : RawExpr) → expr_fits entries (expr_of entries places e) ≡ true
unfolding expr_of places_of named_places
expr_there entries places raw.Src = refl
expr_there entries places raw.Dst = refl
expr_there entries places raw.Rank = refl
expr_there entries places raw.Id = refl
expr_there entries places raw.Label = refl
expr_there entries places (raw.Property column) = all_there entries column.text places
expr_there entries places (raw.Named owner column) = all_there entries column.text (filter (is_at entries owner.text) places)

-- what is shown, and what is compared
pub exprs_there : (entries : Entries) (places : List ℕ) (exprs : List RawExpr) → list_all (expr_fits entries) (exprs_of entries places exprs) ≡ true
unfolding exprs_of
exprs_there entries places [] = refl
exprs_there entries places (e ∷ exprs) = both (expr_there entries places e) (exprs_there entries places exprs)

step_there : (entries : Entries) (places : List ℕ) (s : RawStep) → step_fits entries (step_of entries places s) ≡ true
step_there entries places (step.Test e rel lit) = expr_there entries places e
step_there entries places step.Not = refl
step_there entries places step.And = refl
step_there entries places step.Or = refl

steps_there : (entries : Entries) (places : List ℕ) (steps : List RawStep) → list_all (step_fits entries) (steps_of entries places steps) ≡ true
unfolding steps_of
steps_there entries places [] = refl
steps_there entries places (s ∷ steps) = both (step_there entries places s) (steps_there entries places steps)

pub cond_there : (entries : Entries) (places : List ℕ) (keep : Option (List RawStep)) → cond_fits entries (option_map (steps_of entries places) keep) ≡ true
cond_there entries places None = refl
cond_there entries places (Some steps) = steps_there entries places steps
