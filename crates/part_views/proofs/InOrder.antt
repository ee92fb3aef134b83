-- Reading a store's entries: what is read stands in the order of its own keys, and is a map's entries.
use Rattle.std.proofs.Common.{◌≡◌, List, [], ◌∷◌, Option, Some, None, Bool, true, false, cond, filter, T, refl, sym, ap, subst, ◌∙◌}
use Rattle.std.specs.Prelude.{◌&&◌}
use Rattle.std.specs.declared.cmp.Ordering.{Ordering}
use Rattle.std.specs.declared.cmp.Ordering.TheVariants.{Less, Equal, Greater}
use Rattle.std.specs.FinMap.{FinMap, get, entries, entries_sorted, get-entries, from_sorted, get-from_sorted, entries-from_sorted}
use Rattle.std.specs.FinMap.Entries.{find, below_all, is_sorted}
use Rattle.std.specs.List.{AllByRecursion, cons_option, filter_map}
use Rattle.std.specs.Option.{option_and_then}
use Rattle.std.specs.Ordering.{eq_by_cmp, is_lt}
use Rattle.std.proofs.lemmas.Option.{same_Some}
use Rattle.maps.specs.Keys.{IsKeyOrder}
use Rattle.maps.proofs.Found.{entries_got}
use Rattle.maps.proofs.Keys.{same_itself, same_is, not_apart}
use Rattle.maps.proofs.Updates.{same_by_keys}

both : (a b : Bool) → T a → T b → T (a && b)
both true b p q = q
both false b p q = p

split : (a b : Bool) → T (a && b) → T a × T b
split true true h = (tt, tt)
split true false h = absurd h
split false b h = absurd h

less : (r : Ordering) → T (is_lt r) → r ≡ Less
less Less h = refl
less Equal h = absurd h
less Greater h = absurd h

is_less : (r : Ordering) → r ≡ Less → T (is_lt r)
is_less r e = subst (λ o. T (is_lt o)) (sym e) tt

-- A reading of entries whose keys rise as those of what is read.
module _ {J Y K X : Type 0} (Q : J → J → Ordering) (R : K → K → Ordering) (h : J × Y → Option (K × X)) (Known : J × Y → Type 0)
    (rises : (a b : J × Y) (k l : K × X) → Known a → Known b → h a ≡ Some k → h b ≡ Some l → Q a.0 b.0 ≡ Less → R k.0 l.0 ≡ Less) where
  below_read : (a : J × Y) (k : K × X) (es : List (J × Y)) → Known a → h a ≡ Some k → AllByRecursion Known es → T (below_all Q a.0 es) → T (below_all R k.0 (filter_map h es))
  below_read a k [] known is all below = tt
  below_read a k (e ∷ es) known is all below =
      let parts = split (is_lt (Q a.0 e.0)) (below_all Q a.0 es) below in
      let rest = below_read a k es known is all.1 parts.1 in
      elim (h e) as (λ o. h e ≡ o → T (below_all R k.0 (cons_option o (filter_map h es)))) [
        | None ↦ λ none. rest
        | Some l ↦ λ some. both (is_lt (R k.0 l.0)) (below_all R k.0 (filter_map h es)) (is_less (R k.0 l.0) (rises a e k l known all.0 is some (less (Q a.0 e.0) parts.0))) rest
      ] refl

  -- what is read stands in order
  pub read_sorted : (es : List (J × Y)) → AllByRecursion Known es → T (is_sorted Q es) → T (is_sorted R (filter_map h es))
  read_sorted [] all sorted = tt
  read_sorted (e ∷ es) all sorted =
      let parts = split (below_all Q e.0 es) (is_sorted Q es) sorted in
      let rest = read_sorted es all.1 parts.1 in
      elim (h e) as (λ o. h e ≡ o → T (is_sorted R (cons_option o (filter_map h es)))) [
        | None ↦ λ none. rest
        | Some k ↦ λ some. both (below_all R k.0 (filter_map h es)) (is_sorted R (filter_map h es)) (below_read e k es all.0 some all.1 parts.0) rest
      ] refl

-- what is known of each entry that is found
found_is : {K X : Type 0} {R : K → K → Ordering} → IsKeyOrder R → (P : K × X → Type 0) (es : List (K × X)) → AllByRecursion P es → (q : K) (x : X) → find R q es ≡ Some x → P (q, x)
found_is {R = R} o P [] all q x h = absurd (cc)
found_is {R = R} o P (e ∷ es) all q x h = elim (eq_by_cmp R q e.0) as (λ b. eq_by_cmp R q e.0 ≡ b → cond b (Some e.1) (find R q es) ≡ Some x → P (q, x)) [
  | true ↦ λ tied there. subst (λ k. P (k, x)) (sym (same_is o q e.0 tied)) (subst (λ y. P (e.0, y)) (same_Some e.1 x there) all.0)
  | false ↦ λ apart later. found_is o P es all.1 q x later
] refl h

-- Two maps, and a reading of the entries of the first that gives those of the second.
pub record Reads {J Y K X : Type 0} {Q : J → J → Ordering} {R : K → K → Ordering} (m : FinMap Q Y) (n : FinMap R X) (h : J × Y → Option (K × X)) (at : K → J) : Type 0 where
  pub sound : (e : J × Y) → get m e.0 ≡ Some e.1 → (k : K × X) → h e ≡ Some k → (get n k.0 ≡ Some k.1) × (e.0 ≡ at k.0)
  pub complete : (k : K) (x : X) → get n k ≡ Some x → (w : Y) × (get m (at k) ≡ Some w) × (h (at k, w) ≡ Some (k, x))
  pub order : (k l : K) (x y : X) → get n k ≡ Some x → get n l ≡ Some y → Q (at k) (at l) ≡ R k l

module _ {J Y K X : Type 0} {Q : J → J → Ordering} {R : K → K → Ordering} (p : IsKeyOrder Q) (o : IsKeyOrder R) (m : FinMap Q Y) (n : FinMap R X) (h : J × Y → Option (K × X)) (at : K → J) (r : Reads m n h at) where
  abbrev Known : J × Y → Type 0
  Known e = get m e.0 ≡ Some e.1

  rises : (a b : J × Y) (k l : K × X) → Known a → Known b → h a ≡ Some k → h b ≡ Some l → Q a.0 b.0 ≡ Less → R k.0 l.0 ≡ Less
  rises a b k l a-known b-known a-is b-is under =
      let x = r.sound a a-known k a-is in
      let y = r.sound b b-known l b-is in
      sym (r.order k.0 l.0 k.1 l.1 x.0 y.0) ∙ ap (λ j. Q j (at l.0)) (sym x.1) ∙ ap (Q a.0) (sym y.1) ∙ under

  sorted : T (is_sorted R (filter_map h (entries m)))
  sorted = read_sorted Q R h Known rises (entries m) (entries_got p m) (entries_sorted m)

  all_there : (es : List (J × Y)) → AllByRecursion Known es → AllByRecursion (λ k. get n k.0 ≡ Some k.1) (filter_map h es)
  all_there [] all = tt
  all_there (e ∷ es) all = elim (h e) as (λ w. h e ≡ w → AllByRecursion (λ k. get n k.0 ≡ Some k.1) (cons_option w (filter_map h es))) [
    | None ↦ λ none. all_there es all.1
    | Some k ↦ λ some. ((r.sound e all.0 k some).0, all_there es all.1)
  ] refl

  first_found : (k : K) (x : X) (rest : List (K × X)) → find R k ((k, x) ∷ rest) ≡ Some x
  first_found k x rest = ap (λ (b : Bool). cond b (Some x) (find R k rest)) (same_itself o k)

  later_found : (k : K) (x : X) (l : K × X) (rest : List (K × X)) → (k ≡ l.0 → ⊥) → find R k rest ≡ Some x → find R k (l ∷ rest) ≡ Some x
  later_found k x l rest ne there = elim (eq_by_cmp R k l.0) as (λ b. eq_by_cmp R k l.0 ≡ b → cond b (Some l.1) (find R k rest) ≡ Some x) [
    | true ↦ λ tied. absurd (ne (same_is o k l.0 tied))
    | false ↦ λ apart. there
  ] refl

  read_found : (es : List (J × Y)) → AllByRecursion Known es → (k : K) (x : X) (w : Y) → find Q (at k) es ≡ Some w → h (at k, w) ≡ Some (k, x) → find R k (filter_map h es) ≡ Some x
  read_found [] all k x w there is = absurd (cc)
  read_found (e ∷ es) all k x w there is = elim (eq_by_cmp Q (at k) e.0) as (λ b. eq_by_cmp Q (at k) e.0 ≡ b → cond b (Some e.1) (find Q (at k) es) ≡ Some w → find R k (cons_option (h e) (filter_map h es)) ≡ Some x) [
    | true ↦ λ tied here.
        let key : at k ≡ e.0 = same_is p (at k) e.0 tied in
        let value : w ≡ e.1 = sym (same_Some e.1 w here) in
        let e-is : h e ≡ Some (k, x) = ap (λ (j : J). h (j, e.1)) (sym key) ∙ ap (λ (y : Y). h (at k, y)) (sym value) ∙ is in
        ap (λ (v : Option (K × X)). find R k (cons_option v (filter_map h es))) e-is ∙ first_found k x (filter_map h es)
    | false ↦ λ apart later.
        let rest = read_found es all.1 k x w later is in
        elim (h e) as (λ v. h e ≡ v → find R k (cons_option v (filter_map h es)) ≡ Some x) [
          | None ↦ λ none. rest
          | Some l ↦ λ some. later_found k x l (filter_map h es) (λ same. not_apart p (at k) e.0 (ap at same ∙ sym (r.sound e all.0 l some).1) apart) rest
        ] refl
  ] refl there

  read_at : (q : K) → find R q (filter_map h (entries m)) ≡ get n q
  read_at q = elim (get n q) as (λ g. get n q ≡ g → find R q (filter_map h (entries m)) ≡ g) [
    | None ↦ λ none. elim (find R q (filter_map h (entries m))) as (λ f. find R q (filter_map h (entries m)) ≡ f → f ≡ None) [
      | None ↦ λ f. refl
      | Some x ↦ λ f. (let there : get n q ≡ Some x = found_is o (λ k. get n k.0 ≡ Some k.1) (filter_map h (entries m)) (all_there (entries m) (entries_got p m)) q x f in absurd (cc))
    ] refl
    | Some x ↦ λ some. (let c = r.complete q x some in read_found (entries m) (entries_got p m) q x c.0 (sym (get-entries m (at q)) ∙ c.1) c.2)
  ] refl

  -- what is read of the one are the entries of the other
  pub entries_read : filter_map h (entries m) ≡ entries n
  entries_read =
      let es = filter_map h (entries m) in
      let is : from_sorted {R = R} es ≡ n = same_by_keys o _ _ (λ q. get-from_sorted R es q sorted ∙ read_at q) in
      sym (entries-from_sorted R es sorted) ∙ ap entries is

-- one reading behind another
pub read_twice : {A B C : Type 0} (g : B → Option C) (h : A → Option B) (es : List A) → filter_map g (filter_map h es) ≡ filter_map (λ e. option_and_then g (h e)) es
read_twice g h [] = refl
read_twice g h (e ∷ es) = elim (h e) as (λ o. filter_map g (cons_option o (filter_map h es)) ≡ cons_option (option_and_then g o) (filter_map (λ e. option_and_then g (h e)) es)) [
  | None ↦ read_twice g h es
  | Some b ↦ ap (cons_option (g b)) (read_twice g h es)
]

-- a reading that takes nothing where a test fails reads what passes alone
pub read_passing : {A B : Type 0} (h : A → Option B) (test : A → Bool) (Known : A → Type 0) (es : List A) → AllByRecursion Known es → ((e : A) → Known e → test e ≡ false → h e ≡ None) → filter_map h (filter test es) ≡ filter_map h es
read_passing h test Known [] all none = refl
read_passing h test Known (e ∷ es) all none = elim (test e) as (λ b. test e ≡ b → filter_map h (cond b (e ∷ filter test es) (filter test es)) ≡ cons_option (h e) (filter_map h es)) [
  | true ↦ λ t. ap (cons_option (h e)) (read_passing h test Known es all.1 none)
  | false ↦ λ t. read_passing h test Known es all.1 none ∙ ap (λ w. cons_option w (filter_map h es)) (sym (none e all.0 t))
] refl
