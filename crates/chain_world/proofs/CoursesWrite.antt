-- What holds of the chains goes on holding as the in-halves of one are written.
use Rattle.std.proofs.Common.{◌≡◌, ◌⊎◌, inl, inr, ℕ, None, Some, true, false, ◌&&◌, refl, ap, sym, subst, ◌∙◌, arith, eqb-true}
use Rattle.std.specs.Prelude.{◌==◌, nat_lt}
use Rattle.std.proofs.lemmas.Bool.{cond-false, cases_Bool, ltb-true, ltb-false, eq-eqb, and_parts, and_from}
use Rattle.graph_model.specs.declared.vid.Vid.{Vid}
use Rattle.graph_model.specs.declared.edge_id.EdgeId.{EdgeId}
use Rattle.chain_world.specs.Course.{Course, Courses, stands, is_settled, is_aborted, has_edge, with_course}
use Rattle.chain_world.specs.Invariant.ChainFacts.{AreRouted, AreChains}
use Rattle.chain_world.proofs.Courses.{course_split, not_aborted, stands_else}

module _ (route : Vid → ℕ) where
  module _ (k : Courses) (next : ℕ → ℕ) (kept : EdgeId → ℕ) (are : AreChains route k next kept) where
    -- the in-halves of a chain that stands are written, all of them
    pub writes : (p v : ℕ) (c : Course) → k p v ≡ Some c → stands c.fate ≡ true → c.wrote ≡ false → (fresh : EdgeId → ℕ)
        → ((e : EdgeId) → has_edge c.list e ≡ true → fresh e ≡ v) → ((e : EdgeId) → has_edge c.list e ≡ false → fresh e ≡ kept e)
        → AreChains route (with_course k p v (Some (record c { wrote = true }))) next fresh
    writes p v c is standing unwritten fresh on off = record {
      fresh = λ q w high. elim (cases_Bool ((q == p) && (w == v))) [
        | inl same ↦ (let s = and_parts (q == p) (w == v) same in let t : None ≡ Some c = sym (are.fresh q w high) ∙ ap (λ i. k i w) (eqb-true q p s.0) ∙ ap (k p) (eqb-true w v s.1) ∙ is in cc)
        | inr apart ↦ cond-false ((q == p) && (w == v)) (Some (record c { wrote = true })) (k q w) apart ∙ are.fresh q w high
      ];
      routed = λ q w x e. elim (split q w x e) [
        | inl new ↦ subst (λ y. AreRouted route q y.remote y.list) new.2 (subst (λ i. AreRouted route i c.remote c.list) (sym new.0) (are.routed p v c is))
        | inr old ↦ are.routed q w x old.1
      ];
      some = λ q w x i none. (let o = before q w x i in are.some q w o.0 o.1 (o.2 ∙ none));
      one_an_edge = λ q u w x y i j s t e m n. (let a = before q u x i in let b = before q w y j in
          are.one_an_edge q u w a.0 b.0 a.1 b.1 (ap stands a.3 ∙ s) (ap stands b.3 ∙ t) e (ap (λ l. has_edge l e) a.2 ∙ m) (ap (λ l. has_edge l e) b.2 ∙ n));
      written = λ q w x i wrote e at. elim (split q w x i) [
        | inl new ↦ (let f = on e (ap (λ z. has_edge z.list e) new.2 ∙ at) in let h = new.1 in omega arith)
        | inr old ↦
            (let low = are.written q w x old.1 wrote e at in
            elim (cases_Bool (has_edge c.list e)) [
              | inl both ↦ (let f = on e both in let l = are.unwritten p v c is unwritten (not_aborted c.fate standing) e both in omega arith)
              | inr other ↦ (let f = off e other in omega arith)
            ])
      ];
      unwritten = λ q w x i none fine e at. elim (split q w x i) [
        | inl new ↦ (let f : true ≡ false = ap (λ z. z.wrote) new.2 ∙ none in cc)
        | inr old ↦
            (let low = are.unwritten q w x old.1 none fine e at in
            elim (cases_Bool (has_edge c.list e)) [
              | inl both ↦
                  (let same : q ≡ p = sym (are.routed q w x old.1 e at).0 ∙ (are.routed p v c is e both).0 in
                  let stood : stands x.fate ≡ true = stands_else x.fate (unsettled q w x old.1 none) fine in
                  let one : w ≡ v = are.one_an_edge p w v x c (ap (λ i. k i w) (sym same) ∙ old.1) is stood standing e at both in
                  let f : false ≡ true = sym old.0 ∙ and_from (q == p) (w == v) (eq-eqb q p same) (eq-eqb w v one) in
                  cc)
              | inr other ↦ (let f = off e other in omega arith)
            ])
      ];
      settled = λ q w x i settled. elim (split q w x i) [
        | inl new ↦ sym (ap (λ z. z.wrote) new.2)
        | inr old ↦ are.settled q w x old.1 settled
      ];
      aborted = λ q w x i aborted. elim (split q w x i) [
        | inl new ↦ (let f : false ≡ true = sym (not_aborted c.fate standing) ∙ ap (λ z. is_aborted z.fate) new.2 ∙ aborted in cc)
        | inr old ↦ are.aborted q w x old.1 aborted
      ];
      below = λ e. (let b = are.below e in elim (cases_Bool (has_edge c.list e)) [
        | inl both ↦
            (let f = on e both in
            let r = ap next (are.routed p v c is e both).0 in
            elim (cases_Bool (nat_lt v (next p))) [
              | inl low ↦ (let l = ltb-true v (next p) low in omega arith)
              | inr high ↦ (let t : None ≡ Some c = sym (are.fresh p v (ltb-false v (next p) high)) ∙ is in cc)
            ])
        | inr other ↦ (let f = off e other in omega arith)
      ]);
    }
      where
        split : (q w : ℕ) (x : Course) → with_course k p v (Some (record c { wrote = true })) q w ≡ Some x
            → ((q ≡ p) × (w ≡ v) × (record c { wrote = true } ≡ x)) ⊎ ((((q == p) && (w == v)) ≡ false) × (k q w ≡ Some x))
        split q w x e = elim (course_split k p v (Some (record c { wrote = true })) q w x e) [
          | inl new ↦ inl (new.0, new.1, (let f = new.2 in cc))
          | inr old ↦ inr old
        ]

        before : (q w : ℕ) (x : Course) → with_course k p v (Some (record c { wrote = true })) q w ≡ Some x
            → (old : Course) × (k q w ≡ Some old) × (old.list ≡ x.list) × (old.fate ≡ x.fate)
        before q w x e = elim (split q w x e) [
          | inl new ↦ (c, ap (λ i. k i w) new.0 ∙ ap (k p) new.1 ∙ is, ap (λ z. z.list) new.2, ap (λ z. z.fate) new.2)
          | inr old ↦ (x, old.1, refl, refl)
        ]

        unsettled : (q w : ℕ) (x : Course) → k q w ≡ Some x → x.wrote ≡ false → is_settled x.fate ≡ false
        unsettled q w x i none = elim (cases_Bool (is_settled x.fate)) [
          | inl s ↦ (let f : false ≡ true = sym none ∙ are.settled q w x i s in cc)
          | inr n ↦ n
        ]
