-- The chains under way in the graph are those that stand: as one begins, goes on, and ends.
use Rattle.std.proofs.Common.{◌≡◌, ◌≢◌, ◌⊎◌, inl, inr, ℕ, Option, None, Some, true, false, ◌&&◌, refl, ap, sym, subst, ◌∙◌, eqb-true}
use Rattle.std.specs.Prelude.{◌==◌}
use Rattle.std.proofs.lemmas.Bool.{cond-true, cond-false, cases_Bool, eq-eqb, and_parts, and_from}
use Rattle.graph_model.specs.declared.call.Call.{Call}
use Rattle.graph_model.specs.declared.call.CallState.TheVariants.{Open, Begun}
use Rattle.graph_model.specs.declared.call_id.CallId.{CallId}
use Rattle.graph_model.specs.declared.chain.Chain.{Chain}
use Rattle.graph_model.specs.Ops.{query_of}
use Rattle.chain_leader.specs.Calls.{part_of_op}
use Rattle.chain_world.specs.Course.{Course, Courses, stands, with_course}
use Rattle.chain_world.specs.Invariant.Sound.{chain_of, IsServed, ArePends}
use Rattle.chain_world.proofs.Setting.{Moves}
use Rattle.chain_world.proofs.Courses.{course_split}

-- two facts of one look-up
pub found_same : {X : Type 0} (o : Option X) (x y : X) → o ≡ Some x → o ≡ Some y → x ≡ y
found_same o x y a b = let e : Some x ≡ Some y = sym a ∙ b in cc

-- a chain that is set is the one that is found there
pub course_here : (k : Courses) (p v : ℕ) (o : Option Course) → with_course k p v o p v ≡ o
course_here k p v o = cond-true ((p == p) && (v == v)) o (k p v) (and_from (p == p) (v == v) (eq-eqb p p refl) (eq-eqb v v refl))

-- at another place what stood there stays
pub course_apart : (k : Courses) (p v : ℕ) (o : Option Course) (q w : ℕ) → ((q == p) && (w == v)) ≡ false → with_course k p v o q w ≡ k q w
course_apart k p v o q w apart = cond-false ((q == p) && (w == v)) o (k q w) apart

-- it is the place that changed, or another
pub place_split : (p v q w : ℕ) → ((q ≡ p) × (w ≡ v)) ⊎ (((q == p) && (w == v)) ≡ false)
place_split p v q w = elim (cases_Bool ((q == p) && (w == v))) [
  | inl same ↦ (let s = and_parts (q == p) (w == v) same in inl (eqb-true q p s.0, eqb-true w v s.1))
  | inr apart ↦ inr apart
]

-- a call that is begun is not open
pub begun_or_open : (call other : Call) → call ≡ other → call.state ≡ Begun → other.state ≡ Open → ⊥
begun_or_open call other same begun opened = let e : Begun ≡ Open = sym begun ∙ ap (λ c. c.state) same ∙ opened in cc

module _ (parts : ℕ) (k : Courses) (pend : CallId → Option Chain) (calls : CallId → Option Call) (are : ArePends parts k pend calls) where
  -- a standing chain and an open call have different ids
  pub other_id : (q w : ℕ) (x : Course) → k q w ≡ Some x → stands x.fate ≡ true → (id : CallId) (call : Call) → calls id ≡ Some call → call.state ≡ Open → x.id ≢ id
  other_id q w x is standing id call known opened same =
      let s = are.served q w x is standing in
      begun_or_open s.its call (found_same (calls x.id) s.its call s.is (ap calls same ∙ known)) s.begun opened

  module _ (p v : ℕ) (c : Course) where
    -- a chain begins, of a call that was open
    pub pends_begin : k p v ≡ None → stands c.fate ≡ true → (call begun : Call) → calls c.id ≡ Some call → call.state ≡ Open → IsServed parts p c (Some begun)
        → (pend' : CallId → Option Chain) → Moves pend pend' c.id (Some (chain_of c))
        → (calls' : CallId → Option Call) → Moves calls calls' c.id (Some begun)
        → ArePends parts (with_course k p v (Some c)) pend' calls'
    pends_begin free standing call begun known opened served pend' pends calls' moved = record {
      pending = λ q w x e s. elim (course_split k p v (Some c) q w x e) [
        | inl new ↦ (let n : c ≡ x = (let f = new.2 in cc) in ap (λ y. pend' y.id) (sym n) ∙ pends.here ∙ ap (λ y. Some (chain_of y)) n)
        | inr old ↦ elim (pends.each x.id) [
          | inl same ↦ absurd (other_id q w x old.1 s c.id call known opened same)
          | inr other ↦ other.1 ∙ are.pending q w x old.1 s
        ]
      ];
      standing = λ id chain e. elim (pends.each id) [
        | inl same ↦ record { part = p; number = v; course = c; is = course_here k p v (Some c); stands = standing; its = sym same }
        | inr other ↦ (let t = are.standing id chain (sym other.1 ∙ e) in record {
          part = t.part;
          number = t.number;
          course = t.course;
          is = elim (place_split p v t.part t.number) [
            | inl same ↦ (let f : None ≡ Some t.course = sym free ∙ ap (λ i. k i v) (sym same.0) ∙ ap (k t.part) (sym same.1) ∙ t.is in cc)
            | inr apart ↦ course_apart k p v (Some c) t.part t.number apart ∙ t.is
          ];
          stands = t.stands;
          its = t.its;
        })
      ];
      apart = λ q w r u x y e f s t same. elim (course_split k p v (Some c) q w x e) [
        | inl new ↦ elim (course_split k p v (Some c) r u y f) [
          | inl also ↦ (new.0 ∙ sym also.0, new.1 ∙ sym also.1)
          | inr old ↦ (let n : c ≡ x = (let g = new.2 in cc) in absurd (other_id r u y old.1 t c.id call known opened (sym same ∙ ap (λ z. z.id) (sym n))))
        ]
        | inr old ↦ elim (course_split k p v (Some c) r u y f) [
          | inl new ↦ (let n : c ≡ y = (let g = new.2 in cc) in absurd (other_id q w x old.1 s c.id call known opened (same ∙ ap (λ z. z.id) (sym n))))
          | inr also ↦ are.apart q w r u x y old.1 also.1 s t same
        ]
      ];
      served = λ q w x e s. elim (course_split k p v (Some c) q w x e) [
        | inl new ↦ (let n : c ≡ x = (let f = new.2 in cc) in subst (λ y. IsServed parts q y (calls' y.id)) n (subst (λ i. IsServed parts i c (calls' c.id)) (sym new.0) (subst (IsServed parts p c) (sym moved.here) served)))
        | inr old ↦ elim (moved.each x.id) [
          | inl same ↦ absurd (other_id q w x old.1 s c.id call known opened same)
          | inr other ↦ subst (IsServed parts q x) (sym other.1) (are.served q w x old.1 s)
        ]
      ];
    }

    module _ (is : k p v ≡ Some c) (standing : stands c.fate ≡ true) where
      -- another standing chain has another id
      unlike : (q w : ℕ) (x : Course) → ((q == p) && (w == v)) ≡ false → k q w ≡ Some x → stands x.fate ≡ true → x.id ≢ c.id
      unlike q w x apart e s same =
          let a = are.apart q w p v x c e is s standing same in
          let t : false ≡ true = sym apart ∙ and_from (q == p) (w == v) (eq-eqb q p a.0) (eq-eqb w v a.1) in
          cc

      -- a chain goes on
      pub pends_go_on : (d : Course) → d.id ≡ c.id → stands d.fate ≡ true → (call : Call) → IsServed parts p d (Some call)
          → (pend' : CallId → Option Chain) → Moves pend pend' c.id (Some (chain_of d))
          → (calls' : CallId → Option Call) → Moves calls calls' c.id (Some call)
          → ArePends parts (with_course k p v (Some d)) pend' calls'
      pends_go_on d its goes call served pend' pends calls' moved = record {
        pending = λ q w x e s. elim (course_split k p v (Some d) q w x e) [
          | inl new ↦ (let n : d ≡ x = (let f = new.2 in cc) in ap pend' (ap (λ y. y.id) (sym n) ∙ its) ∙ pends.here ∙ ap (λ y. Some (chain_of y)) n)
          | inr old ↦ elim (pends.each x.id) [
            | inl same ↦ absurd (unlike q w x old.0 old.1 s same)
            | inr other ↦ other.1 ∙ are.pending q w x old.1 s
          ]
        ];
        standing = λ id chain e. elim (pends.each id) [
          | inl same ↦ record { part = p; number = v; course = d; is = course_here k p v (Some d); stands = goes; its = its ∙ sym same }
          | inr other ↦ (let t = are.standing id chain (sym other.1 ∙ e) in record {
            part = t.part;
            number = t.number;
            course = t.course;
            is = elim (place_split p v t.part t.number) [
              | inl same ↦ absurd (other.0 (sym t.its ∙ ap (λ y. y.id) (found_same (k p v) t.course c (ap (λ i. k i v) (sym same.0) ∙ ap (k t.part) (sym same.1) ∙ t.is) is)))
              | inr apart ↦ course_apart k p v (Some d) t.part t.number apart ∙ t.is
            ];
            stands = t.stands;
            its = t.its;
          })
        ];
        apart = λ q w r u x y e f s t same. elim (course_split k p v (Some d) q w x e) [
          | inl new ↦ elim (course_split k p v (Some d) r u y f) [
            | inl also ↦ (new.0 ∙ sym also.0, new.1 ∙ sym also.1)
            | inr old ↦ (let n : d ≡ x = (let g = new.2 in cc) in absurd (unlike r u y old.0 old.1 t (sym same ∙ ap (λ z. z.id) (sym n) ∙ its)))
          ]
          | inr old ↦ elim (course_split k p v (Some d) r u y f) [
            | inl new ↦ (let n : d ≡ y = (let g = new.2 in cc) in absurd (unlike q w x old.0 old.1 s (same ∙ ap (λ z. z.id) (sym n) ∙ its)))
            | inr also ↦ are.apart q w r u x y old.1 also.1 s t same
          ]
        ];
        served = λ q w x e s. elim (course_split k p v (Some d) q w x e) [
          | inl new ↦
              (let n : d ≡ x = (let f = new.2 in cc) in
              let here : IsServed parts p d (calls' d.id) = subst (IsServed parts p d) (sym (ap calls' its ∙ moved.here)) served in
              subst (λ y. IsServed parts q y (calls' y.id)) n (subst (λ i. IsServed parts i d (calls' d.id)) (sym new.0) here))
          | inr old ↦ elim (moved.each x.id) [
            | inl same ↦ absurd (unlike q w x old.0 old.1 s same)
            | inr other ↦ subst (IsServed parts q x) (sym other.1) (are.served q w x old.1 s)
          ]
        ];
      }

      -- a chain ends
      pub pends_end : (d : Course) → stands d.fate ≡ false
          → (pend' : CallId → Option Chain) → Moves pend pend' c.id None
          → (calls' : CallId → Option Call) → ((i : CallId) → (i ≡ c.id) ⊎ ((i ≢ c.id) × (calls' i ≡ calls i)))
          → ArePends parts (with_course k p v (Some d)) pend' calls'
      pends_end d over pend' pends calls' same_calls = record {
        pending = λ q w x e s. (let o = before q w x e s in elim (pends.each x.id) [
          | inl same ↦ absurd (unlike q w x o.0 o.1 s same)
          | inr other ↦ other.1 ∙ are.pending q w x o.1 s
        ]);
        standing = λ id chain e. elim (pends.each id) [
          | inl same ↦ (let f : None ≡ Some chain = sym pends.here ∙ ap pend' (sym same) ∙ e in cc)
          | inr other ↦ (let t = are.standing id chain (sym other.1 ∙ e) in record {
            part = t.part;
            number = t.number;
            course = t.course;
            is = elim (place_split p v t.part t.number) [
              | inl same ↦ absurd (other.0 (sym t.its ∙ ap (λ y. y.id) (found_same (k p v) t.course c (ap (λ i. k i v) (sym same.0) ∙ ap (k t.part) (sym same.1) ∙ t.is) is)))
              | inr apart ↦ course_apart k p v (Some d) t.part t.number apart ∙ t.is
            ];
            stands = t.stands;
            its = t.its;
          })
        ];
        apart = λ q w r u x y e f s t same. are.apart q w r u x y (before q w x e s).1 (before r u y f t).1 s t same;
        served = λ q w x e s. (let o = before q w x e s in elim (same_calls x.id) [
          | inl same ↦ absurd (unlike q w x o.0 o.1 s same)
          | inr other ↦ subst (IsServed parts q x) (sym other.1) (are.served q w x o.1 s)
        ]);
      }
        where
          before : (q w : ℕ) (x : Course) → with_course k p v (Some d) q w ≡ Some x → stands x.fate ≡ true → ((((q == p) && (w == v)) ≡ false) × (k q w ≡ Some x))
          before q w x e s = elim (course_split k p v (Some d) q w x e) [
            | inl new ↦ (let f : false ≡ true = sym over ∙ ap (λ y. stands y.fate) (let g = new.2 in let n : d ≡ x = cc in n) ∙ s in cc)
            | inr old ↦ old
          ]

  -- calls change, but not what is said of those that are begun
  pub pends_stay : (calls' : CallId → Option Call)
      → ((i : CallId) (call : Call) → calls i ≡ Some call → call.state ≡ Begun → (now : Call) × (calls' i ≡ Some now) × (now.state ≡ Begun) × (now.shown ≡ call.shown) × (now.op ≡ call.op))
      → ArePends parts k pend calls'
  pends_stay calls' kept = record {
    pending = are.pending;
    standing = are.standing;
    apart = are.apart;
    served = λ q w x e s. (let o = are.served q w x e s in let n = kept x.id o.its o.is o.begun in record {
      its = n.0;
      is = n.1;
      begun = n.2;
      shown = n.3 ∙ o.shown;
      home = ap (part_of_op parts) n.4 ∙ o.home;
      writes = ap query_of n.4 ∙ o.writes;
    });
  }

  -- an open call changes
  pub pends_open : (id : CallId) (call : Call) → calls id ≡ Some call → call.state ≡ Open → (calls' : CallId → Option Call) (now : Option Call) → Moves calls calls' id now → ArePends parts k pend calls'
  pends_open id call known opened calls' now moved = pends_stay calls' (λ i c is begun. elim (moved.each i) [
    | inl same ↦ absurd (begun_or_open c call (found_same (calls i) c call is (ap calls same ∙ known)) begun opened)
    | inr other ↦ (c, other.1 ∙ is, begun, refl, refl)
  ])
