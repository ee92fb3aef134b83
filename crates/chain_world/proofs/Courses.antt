-- What holds of the chains goes on holding: as a chain begins, as its in-halves are written, and as it goes on to its end.
use Rattle.std.proofs.Common.{◌≢◌, [], ◌≡◌, ◌⊎◌, inl, inr, ℕ, ◌<◌, ◌≤◌, Option, None, Some, Bool, true, false, cond, ◌&&◌, refl, ap, sym, subst, ◌∙◌, arith, eqb-true}
use Rattle.std.specs.Prelude.{◌==◌}
use Rattle.std.proofs.lemmas.Bool.{cond-false, cases_Bool, and_parts}
use Rattle.graph_model.specs.declared.vid.Vid.{Vid}
use Rattle.graph_model.specs.declared.edge_id.EdgeId.{EdgeId}
use Rattle.chain_world.specs.Course.{Fate, Primed, Doubled, Settled, Closed, Aborted, Course, Courses, stands, is_settled, is_aborted, has_edge, with_course}
use Rattle.chain_world.specs.Invariant.ChainFacts.{AreRouted, AreChains}

-- what stands at (q, w) behind a change at (p, v): the change, or what stood there
pub course_split : (k : Courses) (p v : ℕ) (o : Option Course) (q w : ℕ) (x : Course) → with_course k p v o q w ≡ Some x
    → ((q ≡ p) × (w ≡ v) × (o ≡ Some x)) ⊎ ((((q == p) && (w == v)) ≡ false) × (k q w ≡ Some x))
course_split k p v o q w x e = go ((q == p) && (w == v)) refl e
  where
    go : (b : Bool) → ((q == p) && (w == v)) ≡ b → cond b o (k q w) ≡ Some x → ((q ≡ p) × (w ≡ v) × (o ≡ Some x)) ⊎ ((((q == p) && (w == v)) ≡ false) × (k q w ≡ Some x))
    go true same f = (let s = and_parts (q == p) (w == v) same in inl (eqb-true q p s.0, eqb-true w v s.1, f))
    go false apart f = inr (apart, f)

-- a chain before a change, and the same chain behind it
pub record Later (old new : Course) : Type 0 where
  pub remote : new.remote ≡ old.remote
  pub list : new.list ≡ old.list
  pub wrote : new.wrote ≡ old.wrote
  pub stood : stands new.fate ≡ true → stands old.fate ≡ true
  pub settled : is_settled new.fate ≡ true → new.wrote ≡ true
  pub aborted : is_aborted new.fate ≡ true → new.wrote ≡ false
  pub unaborted : is_aborted new.fate ≡ false → is_aborted old.fate ≡ false

-- a chain that stands isn't aborted
pub not_aborted : (fate : Fate) → stands fate ≡ true → is_aborted fate ≡ false
not_aborted Primed s = refl
not_aborted Doubled s = refl
not_aborted Settled s = refl
not_aborted Closed s = refl
not_aborted (Aborted t) s = sym s

-- nor is it settled
pub not_settled : (fate : Fate) → stands fate ≡ true → is_settled fate ≡ false
not_settled Primed s = refl
not_settled Doubled s = refl
not_settled Settled s = sym s
not_settled Closed s = sym s
not_settled (Aborted t) s = refl

-- a chain that is neither stands
pub stands_else : (fate : Fate) → is_settled fate ≡ false → is_aborted fate ≡ false → stands fate ≡ true
stands_else Primed s a = refl
stands_else Doubled s a = refl
stands_else Settled s a = sym s
stands_else Closed s a = sym s
stands_else (Aborted t) s a = sym a

module _ (route : Vid → ℕ) where
  -- where only fates go on
  module _ (k : Courses) (next : ℕ → ℕ) (kept : EdgeId → ℕ) (are : AreChains route k next kept) where
    pub fates_go_on : (l : Courses) (later : ℕ → ℕ) → ((p : ℕ) → next p ≤ later p) → ((p v : ℕ) → k p v ≡ None → l p v ≡ None)
        → ((p v : ℕ) (new : Course) → l p v ≡ Some new → (old : Course) × (k p v ≡ Some old) × Later old new)
        → AreChains route l later kept
    fates_go_on l later grows none each = record {
      fresh = λ p v high. none p v (are.fresh p v (let g = grows p in omega arith));
      routed = λ p v c is. (let o = each p v c is in subst (λ q. AreRouted route p q c.list) (sym o.2.remote) (subst (λ l. AreRouted route p o.0.remote l) (sym o.2.list) (are.routed p v o.0 o.1)));
      some = λ p v c is none. (let o = each p v c is in are.some p v o.0 o.1 (sym o.2.list ∙ none));
      one_an_edge = λ p v w c d is it s t e on at. (let o = each p v c is in let u = each p w d it in
          are.one_an_edge p v w o.0 u.0 o.1 u.1 (o.2.stood s) (u.2.stood t) e (ap (λ l. has_edge l e) (sym o.2.list) ∙ on) (ap (λ l. has_edge l e) (sym u.2.list) ∙ at));
      written = λ p v c is wrote e on. (let o = each p v c is in are.written p v o.0 o.1 (sym o.2.wrote ∙ wrote) e (ap (λ l. has_edge l e) (sym o.2.list) ∙ on));
      unwritten = λ p v c is wrote not_aborted e on. (let o = each p v c is in are.unwritten p v o.0 o.1 (sym o.2.wrote ∙ wrote) (o.2.unaborted not_aborted) e (ap (λ l. has_edge l e) (sym o.2.list) ∙ on));
      settled = λ p v c is. (each p v c is).2.settled;
      aborted = λ p v c is. (each p v c is).2.aborted;
      below = λ e. (let b = are.below e in let g = grows (route e.src) in omega arith);
    }

    -- entries that leave the chains as they are
    pub nothing_changes : (later : ℕ → ℕ) → ((p : ℕ) → next p ≤ later p) → AreChains route k later kept
    nothing_changes later grows = fates_go_on k later grows (λ p v none. none) (λ p v c is. (
      c,
      is,
      record {
        remote = refl;
        list = refl;
        wrote = refl;
        stood = λ s. s;
        settled = are.settled p v c is;
        aborted = are.aborted p v c is;
        unaborted = λ a. a;
      },
    ))

    -- one chain has another fate: a chain that stands goes on, or it ends, written by a Settle, unwritten by an Abort
    pub fate_goes_on : (p v : ℕ) (c : Course) → k p v ≡ Some c → stands c.fate ≡ true → (fate : Fate)
        → (is_settled fate ≡ true → c.wrote ≡ true) → (is_aborted fate ≡ true → c.wrote ≡ false)
        → AreChains route (with_course k p v (Some (record c { fate = fate }))) next kept
    fate_goes_on p v c is standing fate settled aborted =
        fates_go_on (with_course k p v (Some (record c { fate = fate }))) next (λ p. omega arith)
        (λ q w none. elim (cases_Bool ((q == p) && (w == v))) [
          | inl same ↦ (let s = and_parts (q == p) (w == v) same in let t : None ≡ Some c = sym none ∙ ap (λ i. k i w) (eqb-true q p s.0) ∙ ap (k p) (eqb-true w v s.1) ∙ is in cc)
          | inr apart ↦ cond-false ((q == p) && (w == v)) (Some (record c { fate = fate })) (k q w) apart ∙ none
        ])
        (λ q w new e. elim (course_split k p v (Some (record c { fate = fate })) q w new e) [
          | inl here ↦
              (let n : record c { fate = fate } ≡ new = cc in (
                c,
                ap (λ i. k i w) here.0 ∙ ap (k p) here.1 ∙ is,
                subst (Later c) n (record {
                  remote = refl;
                  list = refl;
                  wrote = refl;
                  stood = λ s. standing;
                  settled = settled;
                  aborted = aborted;
                  unaborted = λ a. not_aborted c.fate standing;
                }),
              ))
          | inr old ↦ (
            new,
            old.1,
            record {
              remote = refl;
              list = refl;
              wrote = refl;
              stood = λ s. s;
              settled = are.settled q w new old.1;
              aborted = are.aborted q w new old.1;
              unaborted = λ a. a;
            },
          )
        ])

    -- a chain begins, at the next index, on edges on which none stands
    pub begins : (p : ℕ) (c : Course) → c.fate ≡ Primed → c.wrote ≡ false → c.list ≢ [] → AreRouted route p c.remote c.list
        → ((w : ℕ) (d : Course) → k p w ≡ Some d → stands d.fate ≡ true → (e : EdgeId) → has_edge c.list e ≡ true → has_edge d.list e ≡ true → ⊥)
        → (later : ℕ → ℕ) → ((q : ℕ) → next q ≤ later q) → next p < later p
        → AreChains route (with_course k p (next p) (Some c)) later kept
    begins p c primed unwritten edges routed free later grows more = record {
      fresh = λ q w high. elim (cases_Bool ((q == p) && (w == next p))) [
        | inl same ↦ (let s = and_parts (q == p) (w == next p) same in let a = eqb-true q p s.0 in let b = eqb-true w (next p) s.1 in let l = ap later a in absurd (omega arith))
        | inr apart ↦ cond-false ((q == p) && (w == next p)) (Some c) (k q w) apart ∙ are.fresh q w (let g = grows q in omega arith)
      ];
      routed = λ q w x e. elim (split q w x e) [
        | inl new ↦ subst (λ y. AreRouted route q y.remote y.list) new.2 (subst (λ i. AreRouted route i c.remote c.list) (sym new.0) routed)
        | inr old ↦ are.routed q w x old
      ];
      some = λ q w x i none. elim (split q w x i) [
        | inl new ↦ edges (ap (λ y. y.list) new.2 ∙ none)
        | inr old ↦ are.some q w x old none
      ];
      one_an_edge = λ q v w x y is it s t e on at. elim (split q v x is) [
        | inl new ↦ elim (split q w y it) [
          | inl same ↦ new.1 ∙ sym same.1
          | inr old ↦ absurd (free w y (ap (λ i. k i w) (sym new.0) ∙ old) t e (ap (λ z. has_edge z.list e) new.2 ∙ on) at)
        ]
        | inr old ↦ elim (split q w y it) [
          | inl new ↦ absurd (free v x (ap (λ i. k i v) (sym new.0) ∙ old) s e (ap (λ z. has_edge z.list e) new.2 ∙ at) on)
          | inr other ↦ are.one_an_edge q v w x y old other s t e on at
        ]
      ];
      written = λ q w x is wrote e on. elim (split q w x is) [
        | inl new ↦ (let f : false ≡ true = sym unwritten ∙ ap (λ z. z.wrote) new.2 ∙ wrote in cc)
        | inr old ↦ are.written q w x old wrote e on
      ];
      unwritten = λ q w x is wrote fine e on. elim (split q w x is) [
        | inl new ↦
            (let b = are.below e in
            let r = routed e (ap (λ z. has_edge z.list e) new.2 ∙ on) in
            let n = ap next r.0 in
            let h = new.1 in
            omega arith)
        | inr old ↦ are.unwritten q w x old wrote fine e on
      ];
      settled = λ q w x is settled. elim (split q w x is) [
        | inl new ↦ (let f : false ≡ true = ap is_settled (sym primed) ∙ ap (λ z. is_settled z.fate) new.2 ∙ settled in cc)
        | inr old ↦ are.settled q w x old settled
      ];
      aborted = λ q w x is aborted. elim (split q w x is) [
        | inl new ↦ (let f : false ≡ true = ap is_aborted (sym primed) ∙ ap (λ z. is_aborted z.fate) new.2 ∙ aborted in cc)
        | inr old ↦ are.aborted q w x old aborted
      ];
      below = λ e. (let b = are.below e in let g = grows (route e.src) in omega arith);
    }
      where
        split : (q w : ℕ) (x : Course) → with_course k p (next p) (Some c) q w ≡ Some x → ((q ≡ p) × (w ≡ next p) × (c ≡ x)) ⊎ (k q w ≡ Some x)
        split q w x e = elim (course_split k p (next p) (Some c) q w x e) [
          | inl new ↦ inl (new.0, new.1, (let f = new.2 in cc))
          | inr old ↦ inr old.1
        ]
