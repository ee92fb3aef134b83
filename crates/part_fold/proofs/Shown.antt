-- The in-halves that are here, in their order.
use Rattle.std.proofs.Common.{◌≡◌, ℤ, List, [], ◌∷◌, Option, Some, None, Bool, true, false, T, refl, sym, ap, subst, ◌∙◌}
use Rattle.std.specs.Prelude.{◌&&◌}
use Rattle.std.specs.declared.cmp.Ordering.{Ordering}
use Rattle.std.specs.declared.cmp.Ordering.TheVariants.{Less, Equal, Greater}
use Rattle.std.specs.FinMap.{FinMap, get, entries, entries_sorted, from_sorted, get-from_sorted, get-from_entries, entries-from_sorted}
use Rattle.std.specs.FinMap.Entries.{below_all, is_sorted}
use Rattle.std.specs.List.{AllByRecursion, cons_option, filter_map}
use Rattle.std.specs.Option.{option_and_then, option_map}
use Rattle.std.specs.Ordering.{is_lt}
use Rattle.std.proofs.lemmas.Option.{same_Some}
use Rattle.graph_model.specs.Contents.{row_of}
use Rattle.graph_model.specs.Keys.{in_cmp}
use Rattle.graph_model.specs.Views.{found_in}
use Rattle.graph_model.specs.declared.in_key.InKey.{InKey}
use Rattle.graph_model.specs.declared.val.Val.{Val}
use Rattle.graph_model.specs.declared.vid.Vid.{Vid}
use Rattle.graph_model.proofs.KeyLemmas.{in_keys}
use Rattle.maps.proofs.Found.{entries_got}
use Rattle.maps.proofs.Updates.{same_by_keys}
use Rattle.part_keys.specs.declared.in_half.InHalf.{InHalf}
use Rattle.part_rules.specs.View.{row_here, rows_here}
use Rattle.part_fold.specs.Shown.{found_of}

both : (a b : Bool) → T a → T b → T (a && b)
both true b p q = q
both false b p q = p

split : (a b : Bool) → T (a && b) → T a × T b
split true true h = (tt, tt)
split true false h = absurd h
split false b h = absurd h

less : (r : Ordering) → T (is_lt r) → r ≡ Less
less Less h = refl
less Equal h = absurd h
less Greater h = absurd h

is_less : (r : Ordering) → r ≡ Less → T (is_lt r)
is_less r e = subst (λ o. T (is_lt o)) (sym e) tt

-- A reading of entries whose keys rise as those of what is read.
module _ {J Y K X : Type 0} (Q : J → J → Ordering) (R : K → K → Ordering) (h : J × Y → Option (K × X)) (Known : J × Y → Type 0)
    (rises : (a b : J × Y) (k l : K × X) → Known a → Known b → h a ≡ Some k → h b ≡ Some l → Q a.0 b.0 ≡ Less → R k.0 l.0 ≡ Less) where
  below_read : (a : J × Y) (k : K × X) (es : List (J × Y)) → Known a → h a ≡ Some k → AllByRecursion Known es → T (below_all Q a.0 es) → T (below_all R k.0 (filter_map h es))
  below_read a k [] known is all below = tt
  below_read a k (e ∷ es) known is all below =
      let parts = split (is_lt (Q a.0 e.0)) (below_all Q a.0 es) below in
      let rest = below_read a k es known is all.1 parts.1 in
      elim (h e) as (λ o. h e ≡ o → T (below_all R k.0 (cons_option o (filter_map h es)))) [
        | None ↦ λ none. rest
        | Some l ↦ λ some. both (is_lt (R k.0 l.0)) (below_all R k.0 (filter_map h es)) (is_less (R k.0 l.0) (rises a e k l known all.0 is some (less (Q a.0 e.0) parts.0))) rest
      ] refl

  -- what is read stands in order
  pub read_sorted : (es : List (J × Y)) → AllByRecursion Known es → T (is_sorted Q es) → T (is_sorted R (filter_map h es))
  read_sorted [] all sorted = tt
  read_sorted (e ∷ es) all sorted =
      let parts = split (below_all Q e.0 es) (is_sorted Q es) sorted in
      let rest = read_sorted es all.1 parts.1 in
      elim (h e) as (λ o. h e ≡ o → T (is_sorted R (cons_option o (filter_map h es)))) [
        | None ↦ λ none. rest
        | Some k ↦ λ some. both (below_all R k.0 (filter_map h es)) (is_sorted R (filter_map h es)) (below_read e k es all.0 some all.1 parts.0) rest
      ] refl

here_key : (j : InKey) (o : Option (List Val)) (k : InKey × List Val) → option_map (λ r. (j, r)) o ≡ Some k → k.0 ≡ j
here_key j None k e = absurd (cc)
here_key j (Some r) k e = ap (λ (x : InKey × List Val). x.0) (sym (same_Some (j, r) k e))

-- the key stays
row_here_key : (x : InKey × InHalf) (k : InKey × List Val) → row_here x ≡ Some k → k.0 ≡ x.0
row_here_key x k e = here_key x.0 (row_of x.1.half) k e

here_rises : (inn : FinMap in_cmp InHalf) (a b : InKey × InHalf) (k l : InKey × List Val) → get inn a.0 ≡ Some a.1 → get inn b.0 ≡ Some b.1 → row_here a ≡ Some k → row_here b ≡ Some l → in_cmp a.0 b.0 ≡ Less → in_cmp k.0 l.0 ≡ Less
here_rises inn a b k l _ _ a-is b-is under = ap (λ j. in_cmp j l.0) (row_here_key a k a-is) ∙ ap (in_cmp a.0) (row_here_key b l b-is) ∙ under

-- their rows, in their order
rows_are : (inn : FinMap in_cmp InHalf) → entries (rows_here inn) ≡ filter_map row_here (entries inn)
rows_are inn =
    let es = filter_map row_here (entries inn) in
    let sorted : T (is_sorted in_cmp es) = read_sorted in_cmp in_cmp row_here (λ e. get inn e.0 ≡ Some e.1) (here_rises inn) (entries inn) (entries_got in_keys inn) (entries_sorted inn) in
    ap entries (same_by_keys in_keys (rows_here inn) (from_sorted es) (λ q. get-from_entries in_keys.total es q ∙ sym (get-from_sorted in_cmp es q sorted))) ∙ entries-from_sorted in_cmp es sorted

-- one reading behind another
pub read_twice : {A B C : Type 0} (g : B → Option C) (h : A → Option B) (es : List A) → filter_map g (filter_map h es) ≡ filter_map (λ e. option_and_then g (h e)) es
read_twice g h [] = refl
read_twice g h (e ∷ es) = elim (h e) as (λ o. filter_map g (cons_option o (filter_map h es)) ≡ cons_option (option_and_then g o) (filter_map (λ e. option_and_then g (h e)) es)) [
  | None ↦ read_twice g h es
  | Some b ↦ ap (cons_option (g b)) (read_twice g h es)
]

-- what is found of a vertex among the in-halves is what is found among the rows that are here
pub found_here : (v : Vid) (types : List ℤ) (inn : FinMap in_cmp InHalf) → filter_map (found_of v types) (entries inn) ≡ filter_map (found_in v types) (entries (rows_here inn))
found_here v types inn = sym (read_twice (found_in v types) row_here (entries inn)) ∙ ap (filter_map (found_in v types)) (sym (rows_are inn))
