-- What is committable, found from the voters' numbers.
use Rattle.std.proofs.Common.{◌≡◌, inl, inr, ◌⊎◌, ℕ, zero, suc, ◌-◌, ◌*◌, ◌<◌, ◌≤◌, min, max, List, [], ◌∷◌, length, take, drop, get_or, Bool, true, false, cond, refl, ap, sym, ◌∙◌, arith}
use Rattle.std.specs.Prelude.{nat_le, count_by, ◌==◌, ◌&&◌}
use Rattle.std.specs.List.{AllByRecursion}
use Rattle.std.proofs.Math.Seq.{drop-cons}
use Rattle.std.proofs.lemmas.List.Sums.{sum_by-cons}
use Rattle.std.proofs.lemmas.Bool.{and_left, ne_eqb, cases_Bool, cases_lt, ltb-true, lt-ltb, leb-true, le-leb, lt-leb, and_right, false_from_ne_true}
use Rattle.raft_log.specs.declared.entry.Entry.{Entry}
use Rattle.raft_log.specs.Rising.{IsOlder}
use Rattle.raft_log.specs.Log.{term_at}
use Rattle.raft_log.specs.Majority.{is_majority}
use Rattle.raft_core.specs.declared.state.PeerState.{PeerState}
use Rattle.raft_core.specs.Core.{Core, Row, voters_of}
use Rattle.raft_core.specs.Members.{matched_in}
use Rattle.raft_core.specs.Appends.{has_matched, has_up_to, is_committable, greatest_committable}
use Rattle.raft_core.specs.Ahead.{core_with}
use Rattle.raft_core.specs.Commits.{known_of, is_had, greatest_had}

count_le : (p q : ℕ → Bool) (xs : List ℕ) → AllByRecursion (λ x. p x ≡ true → q x ≡ true) xs → count_by p xs ≤ count_by q xs
count_le p q [] all = omega arith
count_le p q (x ∷ xs) all =
    let h = count_le p q xs all.1 in
    let a = sum_by-cons (λ y. cond (p y) 1 0) x xs in
    let b = sum_by-cons (λ y. cond (q y) 1 0) x xs in
    elim (cases_Bool (p x)) [
      | inl t ↦ (let p1 : ◌≡◌ {A = ℕ} (cond (p x) 1 0) 1 = rw t refl in let q1 : ◌≡◌ {A = ℕ} (cond (q x) 1 0) 1 = rw (all.0 t) refl in omega (arith, h, a, b, p1, q1))
      | inr f ↦ (let p0 : ◌≡◌ {A = ℕ} (cond (p x) 1 0) 0 = rw f refl in omega (arith, h, a, b, p0))
    ]

count_none : (p : ℕ → Bool) (xs : List ℕ) → AllByRecursion (λ x. p x ≡ false) xs → count_by p xs ≡ 0
count_none p [] all = refl
count_none p (x ∷ xs) all = let h = count_none p xs all.1 in let a = sum_by-cons (λ y. cond (p y) 1 0) x xs in let p0 : ◌≡◌ {A = ℕ} (cond (p x) 1 0) 0 = rw all.0 refl in omega (arith, h, a, p0)

-- of older entries, the last, and those before it
older_there : {term : ℕ} (log : List Entry) (n : ℕ) → suc n ≤ length log → IsOlder term (take (suc n) log) → term_at log (suc n) < term
older_there [] n within older = absurd (omega arith)
older_there (entry ∷ log) zero within older = older.0
older_there (entry ∷ log) (suc n) within older = older_there log n (omega arith) older.1

older_front : (term : ℕ) (log : List Entry) (n : ℕ) → IsOlder term (take (suc n) log) → IsOlder term (take n log)
older_front term log zero older = tt
older_front term [] (suc n) older = tt
older_front term (entry ∷ log) (suc n) older = (older.0, older_front term log n older.1)

module _ (f : ℕ → ℕ) where
  grows : (all : List ℕ) (v : ℕ) (vs : List ℕ) → greatest_had f all vs ≤ greatest_had f all (v ∷ vs)
  grows all v vs = elim (cases_Bool (is_had f all (f v))) [
    | inl t ↦ rw t (omega arith)
    | inr n ↦ rw n (omega arith)
  ]

  -- the least of the numbers at or above an index
  record Least (index : ℕ) (vs : List ℕ) : Type 0 where
    x : ℕ
    above : index ≤ x
    found : (all : List ℕ) → is_had f all x ≡ true → x ≤ greatest_had f all vs
    least : AllByRecursion (λ v. nat_le index (f v) ≡ true → nat_le x (f v) ≡ true) vs

  abbrev NoneAt : ℕ → List ℕ → Type 0
  NoneAt index vs = AllByRecursion (λ v. nat_le index (f v) ≡ false) vs

  none_least : (index x : ℕ) (vs : List ℕ) → NoneAt index vs → AllByRecursion (λ v. nat_le index (f v) ≡ true → nat_le x (f v) ≡ true) vs
  none_least index x [] none = tt
  none_least index x (v ∷ vs) none = ((λ t. absurd (let n = none.0 in cc)), none_least index x vs none.1)

  lower : (index x y : ℕ) (vs : List ℕ) → x ≤ y → AllByRecursion (λ v. nat_le index (f v) ≡ true → nat_le y (f v) ≡ true) vs → AllByRecursion (λ v. nat_le index (f v) ≡ true → nat_le x (f v) ≡ true) vs
  lower index x y [] le all = tt
  lower index x y (v ∷ vs) le all = ((λ t. le-leb x (f v) (let h = leb-true y (f v) (all.0 t) in omega (arith, h, le))), lower index x y vs le all.1)

  here : (v : ℕ) (vs all : List ℕ) → is_had f all (f v) ≡ true → f v ≤ greatest_had f all (v ∷ vs)
  here v vs all t = rw t (omega arith)

  least_in : (index : ℕ) (vs : List ℕ) → NoneAt index vs ⊎ Least index vs
  least_in index [] = inl tt
  least_in index (v ∷ vs) = elim (least_in index vs) [
    | inl none ↦ elim (cases_Bool (nat_le index (f v))) [
      | inl t ↦ inr (record { x = f v; above = leb-true index (f v) t; found = here v vs; least = ((λ s. le-leb (f v) (f v) (omega arith)), none_least index (f v) vs none) })
      | inr n ↦ inl (n, none)
    ]
    | inr l ↦ elim (cases_lt (f v) l.x) [
      | inl below ↦ elim (cases_Bool (nat_le index (f v))) [
        | inl t ↦ inr (record { x = f v; above = leb-true index (f v) t; found = here v vs; least = ((λ s. le-leb (f v) (f v) (omega arith)), lower index (f v) l.x vs (omega (arith, below)) l.least) })
        | inr n ↦ inr (record { x = l.x; above = l.above; found = λ all h. (let a = l.found all h in let b = grows all v vs in omega (arith, a, b)); least = ((λ s. absurd cc), l.least) })
      ]
      | inr past ↦ inr (record { x = l.x; above = l.above; found = λ all h. (let a = l.found all h in let b = grows all v vs in omega (arith, a, b)); least = ((λ s. le-leb l.x (f v) past), l.least) })
    ]
  ]

  -- what a majority has is at most the greatest number that a majority has
  pub had_below : (all : List ℕ) (index : ℕ) → is_had f all index ≡ true → index ≤ greatest_had f all all
  had_below all index had = let many = ltb-true (length all) (2 * count_by (λ v. nat_le index (f v)) all) had in elim (least_in index all) [
    | inl none ↦ absurd (let z = count_none (λ v. nat_le index (f v)) all none in omega (arith, z, many))
    | inr l ↦ (let c = count_le (λ v. nat_le index (f v)) (λ v. nat_le l.x (f v)) all l.least in
        let h = l.found all (lt-ltb (length all) (2 * count_by (λ v. nat_le l.x (f v)) all) (omega (arith, c, many))) in
        let a = l.above in omega (arith, h, a))
  ]

  module _ (all ids : List ℕ) (left : ℕ) (above : 0 < left) (within : left - 1 < length ids) where
    split : drop (left - 1) ids ≡ get_or ids (left - 1) 0 ∷ drop left ids
    split = let e : suc (left - 1) ≡ left = omega arith in drop-cons ids (left - 1) 0 within ∙ ap (λ n. get_or ids (left - 1) 0 ∷ drop n ids) e

    pub greater : is_had f all (f (get_or ids (left - 1) 0)) ≡ true → max (f (get_or ids (left - 1) 0)) (greatest_had f all (drop left ids)) ≡ greatest_had f all (drop (left - 1) ids)
    greater e = rw (split, e) refl

    pub as_great : is_had f all (f (get_or ids (left - 1) 0)) ≡ false → greatest_had f all (drop left ids) ≡ greatest_had f all (drop (left - 1) ids)
    as_great e = rw (split, e) refl

-- ---- the rule's words

matched_is : (rows : List Row) (peer index : ℕ) → 0 < index → has_matched rows peer index ≡ nat_le index (matched_in rows peer)
matched_is [] peer index above = sym (lt-leb index 0 above)
matched_is (row ∷ rows) peer index above = elim (cases_Bool (row.peer == peer)) [
  | inl t ↦ rw t refl
  | inr n ↦ rw n (matched_is rows peer index above)
]

module _ (state : PeerState) (log : List Entry) where
  abbrev core : Core
  core = core_with state log

  up_to_is : (index voter : ℕ) → 0 < index → has_up_to core index voter ≡ nat_le index (known_of state (length log) voter)
  up_to_is index voter above = elim (cases_Bool (voter == state.me)) [
    | inl t ↦ rw t refl
    | inr n ↦ rw n (matched_is state.rows voter index above)
  ]

  pub committable_is : (index : ℕ) → 0 < index → is_committable core index ≡ ((term_at log index == state.term) && is_had (known_of state (length log)) (voters_of core) index)
  committable_is index above =
      let same : has_up_to core index ≡ (λ voter. nat_le index (known_of state (length log) voter)) = λ i voter. up_to_is index voter above i in
      ap (λ holds. (term_at log index == state.term) && is_majority (voters_of core) holds) same

  not_above : (index : ℕ) → 0 < index → greatest_had (known_of state (length log)) (voters_of core) (voters_of core) < index → is_committable core index ≡ false
  not_above index above past = committable_is index above ∙ and_right (term_at log index == state.term) (is_had (known_of state (length log)) (voters_of core) index)
      (false_from_ne_true _ (λ had. let h = had_below (known_of state (length log)) (voters_of core) index had in omega (arith, h, past)))

  pub from_start : (n start : ℕ) → start ≡ min (greatest_had (known_of state (length log)) (voters_of core) (voters_of core)) n → greatest_committable core start ≡ greatest_committable core n
  from_start zero start e = let z : start ≡ 0 = omega (arith, e) in rw z refl
  from_start (suc n) start e = elim (cases_lt (greatest_had (known_of state (length log)) (voters_of core) (voters_of core)) (suc n)) [
    | inl past ↦ rw (not_above (suc n) (omega arith) past) (from_start n start (omega (arith, e, past)))
    | inr not_past ↦ (let z : start ≡ suc n = omega (arith, e, not_past) in rw z refl)
  ]

  pub at_most : (n : ℕ) → greatest_committable core n ≤ n
  at_most zero = omega arith
  at_most (suc n) = let h = at_most n in elim (cases_Bool (is_committable core (suc n))) [
    | inl t ↦ rw t (omega arith)
    | inr f ↦ rw f (omega (arith, h))
  ]

  pub step_at : (left : ℕ) → 0 < left → is_committable core left ≡ true → greatest_committable core left ≡ left
  step_at zero above t = absurd (omega (arith, above))
  step_at (suc n) above t = rw t refl

  pub step_below : (left : ℕ) → 0 < left → is_committable core left ≡ false → greatest_committable core left ≡ greatest_committable core (left - 1)
  step_below zero above f = absurd (omega (arith, above))
  step_below (suc n) above f = let e : suc n - 1 ≡ n = omega arith in rw (f, e) refl

  -- none of older entries is committable
  pub none_committable : (left : ℕ) → left ≤ length log → IsOlder state.term (take left log) → greatest_committable core left ≡ 0
  none_committable zero within older = refl
  none_committable (suc n) within older =
      let below = older_there log n within older in
      let apart : term_at log (suc n) == state.term ≡ false = ne_eqb (term_at log (suc n)) state.term (λ same. omega (arith, same, below)) in
      let f : is_committable core (suc n) ≡ false = and_left (term_at log (suc n) == state.term) _ apart in
      step_below (suc n) (omega arith) f ∙ ap (greatest_committable core) (let e : suc n - 1 ≡ n = omega arith in e) ∙ none_committable n (omega arith) (older_front state.term log n older)
