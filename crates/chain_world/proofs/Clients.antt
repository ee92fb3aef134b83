-- What the parts keep of clients is so in the graph: as a new call has its entry, and as its chain goes on.
use Rattle.std.proofs.Common.{◌≡◌, ◌⊎◌, inl, inr, ℕ, ◌<◌, Option, None, Some, Bool, true, false, cond, refl, ap, sym, subst, ◌∙◌, arith}
use Rattle.std.specs.Prelude.{◌==◌}
use Rattle.std.specs.Option.{option_map}
use Rattle.std.proofs.lemmas.Bool.{cond-true, cond-false, cases_eq, eq-eqb, ne_eqb}
use Rattle.graph_model.specs.declared.call.Call.{Call}
use Rattle.graph_model.specs.declared.call.CallState.TheVariants.{Open, Begun}
use Rattle.graph_model.specs.declared.call_id.CallId.{CallId}
use Rattle.graph_model.specs.Ops.{query_of}
use Rattle.part_rules.specs.declared.kept.Kept.{Kept}
use Rattle.part_rules.specs.declared.kept.Outcome.{Outcome}
use Rattle.part_rules.specs.declared.kept.Outcome.TheVariants as kept
use Rattle.part_rules.specs.Machine.{with_outcome}
use Rattle.chain_leader.specs.Calls.{part_of_op}
use Rattle.chain_world.specs.Invariant.Sound.{IsOutcome, IsAbove, IsCallOf, IsUntouched, AreCalls}
use Rattle.chain_world.proofs.Setting.{Moves}
use Rattle.chain_world.proofs.Pends.{found_same}

-- what one part keeps of one client changed
pub record KeptMoves (old new : ℕ → ℕ → Option Kept) (p c : ℕ) (now : Option Kept) : Type 0 where
  pub here : new p c ≡ now
  pub each : (q d : ℕ) → ((q ≡ p) × (d ≡ c)) ⊎ (((q ≡ p) → (d ≡ c) → ⊥) × (new q d ≡ old q d))

-- an outcome of an open call there is none
outcome_of_open : (o : Outcome) (call : Call) → IsOutcome o call → call.state ≡ Open → ⊥
outcome_of_open kept.Open call is opened = let e : Begun ≡ Open = sym is ∙ opened in cc
outcome_of_open kept.Fine call is opened = let e = sym is ∙ opened in cc
outcome_of_open kept.Skipped call is opened = let e = sym is ∙ opened in cc
outcome_of_open kept.Pending call is opened = let e : Begun ≡ Open = sym is.0 ∙ opened in cc
outcome_of_open kept.Cancelled call is opened = let e = sym is ∙ opened in cc
outcome_of_open (kept.Conflict other) call is opened = let e = sym is ∙ opened in cc

-- an outcome goes by the call's state, and shown stays
same_outcome : (o : Outcome) (call now : Call) → now.state ≡ call.state → (call.shown ≡ true → now.shown ≡ true) → IsOutcome o call → IsOutcome o now
same_outcome kept.Open call now state shown is = state ∙ is
same_outcome kept.Fine call now state shown is = state ∙ is
same_outcome kept.Skipped call now state shown is = state ∙ is
same_outcome kept.Pending call now state shown is = (state ∙ is.0, shown is.1)
same_outcome kept.Cancelled call now state shown is = state ∙ is
same_outcome (kept.Conflict other) call now state shown is = state ∙ is

-- a number above one that is above
above_more : (o : Option Kept) (m n : ℕ) → IsAbove o m → m < n → IsAbove o n
above_more None m n a l = tt
above_more (Some last) m n a l = omega arith

-- the number stays where an outcome comes
number_stays : (n : ℕ) (o : Outcome) (last : Kept) → (with_outcome n o last).number ≡ last.number
number_stays n o last = go (last.number == n)
  where
    go : (b : Bool) → (cond b (record last { outcome = o }) last).number ≡ last.number
    go true = refl
    go false = refl

-- a number above one to which an outcome comes
above_outcome : (n m : ℕ) (o : Outcome) (last : Option Kept) → IsAbove (option_map (with_outcome n o) last) m → IsAbove last m
above_outcome n m o None a = tt
above_outcome n m o (Some last) a = let e = number_stays n o last in omega arith

module _ (parts : ℕ) (clients : ℕ → ℕ → Option Kept) (calls : CallId → Option Call) (are : AreCalls parts clients calls) (p : ℕ) (id : CallId) (call : Call)
    (known : calls id ≡ Some call) (home : part_of_op parts call.op ≡ p) where
  -- a kept number of another call stays as it was
  other_kept : (now : Call) (calls' : CallId → Option Call) → Moves calls calls' id (Some now) → (q d : ℕ) (last : Kept) → ((q ≡ p) → (d ≡ id.client) → ⊥) → clients q d ≡ Some last
      → IsCallOf parts q last.outcome (calls' (record { client = d; number = last.number }))
  other_kept now calls' moved q d last apart is = (let o = are.known q d last is in elim (moved.each (record { client = d; number = last.number })) [
    | inl same ↦ absurd (apart (sym o.home ∙ ap (λ (c : Call). part_of_op parts c.op) (found_same (calls (record { client = d; number = last.number })) o.its call o.is (ap calls same ∙ known)) ∙ home) (ap (λ (i : CallId). i.client) same))
    | inr other ↦ subst (IsCallOf parts q last.outcome) (sym other.1) o
  ])

  -- a new call has its entry: its number is kept, with its outcome
  pub calls_enter : call.state ≡ Open → IsAbove (clients p id.client) id.number → (outcome : Outcome) (now : Call) → IsOutcome outcome now → now.op ≡ call.op
      → (calls' : CallId → Option Call) → Moves calls calls' id (Some now)
      → (clients' : ℕ → ℕ → Option Kept) → KeptMoves clients clients' p id.client (Some (record { number = id.number; outcome = outcome }))
      → AreCalls parts clients' calls'
  calls_enter opened above outcome now reached op calls' moved clients' keeps = record {
    known = λ q d last is. elim (keeps.each q d) [
      | inl same ↦
          (let n : record { number = id.number; outcome = outcome } ≡ last = (let e : Some (record { number = id.number; outcome = outcome }) ≡ Some last = sym keeps.here ∙ ap (λ i. clients' i id.client) (sym same.0) ∙ ap (clients' q) (sym same.1) ∙ is in cc) in
          subst (λ (l : Kept). IsCallOf parts q l.outcome (calls' (record { client = d; number = l.number }))) n
          (subst (λ i. IsCallOf parts q outcome (calls' (record { client = i; number = id.number }))) (sym same.1)
          (record { its = now; is = moved.here; reached = reached; home = ap (part_of_op parts) op ∙ home ∙ sym same.0 })))
      | inr other ↦ other_kept now calls' moved q d last other.0 (sym other.1 ∙ is)
    ];
    untouched = λ i c is writes high. elim (moved.each i) [
      | inl same ↦
          (let n : c ≡ now = found_same (calls' i) c now is (ap calls' same ∙ moved.here) in
          let at : clients' (part_of_op parts c.op) i.client ≡ Some (record { number = id.number; outcome = outcome }) = ap (λ (x : Call). clients' (part_of_op parts x.op) i.client) n ∙ ap (λ o. clients' (part_of_op parts o) i.client) op ∙ ap (λ r. clients' r i.client) home ∙ ap (λ (x : CallId). clients' p x.client) same ∙ keeps.here in
          let low : id.number < i.number = subst (λ o. IsAbove o i.number) at high in
          let e = ap (λ (x : CallId). x.number) same in
          absurd (omega arith))
      | inr other ↦
          (let was : calls i ≡ Some c = sym other.1 ∙ is in
          elim (keeps.each (part_of_op parts c.op) i.client) [
            | inl at ↦
                (let now_at : clients' (part_of_op parts c.op) i.client ≡ Some (record { number = id.number; outcome = outcome }) = ap (λ r. clients' r i.client) at.0 ∙ ap (clients' p) at.1 ∙ keeps.here in
                let low : id.number < i.number = subst (λ o. IsAbove o i.number) now_at high in
                let same_place : clients p id.client ≡ clients (part_of_op parts c.op) i.client = ap (clients p) (sym at.1) ∙ ap (λ r. clients r i.client) (sym at.0) in
                are.untouched i c was writes (subst (λ o. IsAbove o i.number) same_place (above_more (clients p id.client) id.number i.number above low)))
            | inr elsewhere ↦ are.untouched i c was writes (subst (λ o. IsAbove o i.number) elsewhere.1 high)
          ])
    ];
  }

  -- the chain of a call goes on: where the call is the client's last one, its outcome comes
  pub calls_come : call.state ≡ Begun → (outcome : Outcome) (now : Call) → IsOutcome outcome now → now.op ≡ call.op
      → (calls' : CallId → Option Call) → Moves calls calls' id (Some now)
      → (clients' : ℕ → ℕ → Option Kept) → KeptMoves clients clients' p id.client (option_map (with_outcome id.number outcome) (clients p id.client))
      → AreCalls parts clients' calls'
  calls_come begun outcome now reached op calls' moved clients' keeps = record {
    known = λ q d last is. elim (keeps.each q d) [
      | inl same ↦
          (let e : option_map (with_outcome id.number outcome) (clients p id.client) ≡ Some last = sym keeps.here ∙ ap (λ i. clients' i id.client) (sym same.0) ∙ ap (clients' q) (sym same.1) ∙ is in
          subst (λ i. IsCallOf parts i last.outcome (calls' (record { client = d; number = last.number }))) (sym same.0)
          (subst (λ i. IsCallOf parts p last.outcome (calls' (record { client = i; number = last.number }))) (sym same.1)
          (comes (clients p id.client) refl last e)))
      | inr other ↦ other_kept now calls' moved q d last other.0 (sym other.1 ∙ is)
    ];
    untouched = λ i c is writes high. elim (moved.each i) [
      | inl same ↦
          (let n : c ≡ now = found_same (calls' i) c now is (ap calls' same ∙ moved.here) in
          let at : clients' (part_of_op parts c.op) i.client ≡ option_map (with_outcome id.number outcome) (clients p id.client) = ap (λ (x : Call). clients' (part_of_op parts x.op) i.client) n ∙ ap (λ o. clients' (part_of_op parts o) i.client) op ∙ ap (λ r. clients' r i.client) home ∙ ap (λ (x : CallId). clients' p x.client) same ∙ keeps.here in
          let low = above_outcome id.number i.number outcome (clients p id.client) (subst (λ o. IsAbove o i.number) at high) in
          let there : IsAbove (clients (part_of_op parts call.op) id.client) id.number = subst (λ r. IsAbove (clients r id.client) id.number) (sym home) (subst (λ (x : CallId). IsAbove (clients p id.client) x.number) same low) in
          let u = are.untouched id call known (ap query_of (sym op) ∙ ap (λ (x : Call). query_of x.op) (sym n) ∙ writes) there in
          let f : Begun ≡ Open = sym begun ∙ u.opened in
          cc)
      | inr other ↦
          (let was : calls i ≡ Some c = sym other.1 ∙ is in
          elim (keeps.each (part_of_op parts c.op) i.client) [
            | inl at ↦
                (let now_at : clients' (part_of_op parts c.op) i.client ≡ option_map (with_outcome id.number outcome) (clients p id.client) = ap (λ r. clients' r i.client) at.0 ∙ ap (clients' p) at.1 ∙ keeps.here in
                let low = above_outcome id.number i.number outcome (clients p id.client) (subst (λ o. IsAbove o i.number) now_at high) in
                let same_place : clients p id.client ≡ clients (part_of_op parts c.op) i.client = ap (clients p) (sym at.1) ∙ ap (λ r. clients r i.client) (sym at.0) in
                are.untouched i c was writes (subst (λ o. IsAbove o i.number) same_place low))
            | inr elsewhere ↦ are.untouched i c was writes (subst (λ o. IsAbove o i.number) elsewhere.1 high)
          ])
    ];
  }
    where
      comes : (o : Option Kept) → clients p id.client ≡ o → (last : Kept) → option_map (with_outcome id.number outcome) o ≡ Some last
          → IsCallOf parts p last.outcome (calls' (record { client = id.client; number = last.number }))
      comes None was last e = cc
      comes (Some old) was last e = elim (cases_eq old.number id.number) [
        | inl same ↦
            (let n : record old { outcome = outcome } ≡ last = (let f : Some (with_outcome id.number outcome old) ≡ Some last = e in sym (cond-true (old.number == id.number) (record old { outcome = outcome }) old (eq-eqb old.number id.number same)) ∙ (let g : with_outcome id.number outcome old ≡ last = cc in g)) in
            subst (λ (l : Kept). IsCallOf parts p l.outcome (calls' (record { client = id.client; number = l.number }))) n
            (subst (λ i. IsCallOf parts p outcome (calls' (record { client = id.client; number = i }))) (sym same)
            (record { its = now; is = moved.here; reached = reached; home = ap (part_of_op parts) op ∙ home })))
        | inr apart ↦
            (let n : old ≡ last = (let f : Some (with_outcome id.number outcome old) ≡ Some last = e in sym (cond-false (old.number == id.number) (record old { outcome = outcome }) old (ne_eqb old.number id.number apart)) ∙ (let g : with_outcome id.number outcome old ≡ last = cc in g)) in
            subst (λ (l : Kept). IsCallOf parts p l.outcome (calls' (record { client = id.client; number = l.number }))) n
            (elim (moved.each (record { client = id.client; number = old.number })) [
              | inl same ↦ absurd (apart (ap (λ (x : CallId). x.number) same))
              | inr other ↦ subst (IsCallOf parts p old.outcome) (sym other.1) (are.known p id.client old was)
            ]))
      ]

-- where the parts keep the same, and a call that is no open one stays as far as it is
module _ (parts : ℕ) (clients : ℕ → ℕ → Option Kept) (calls : CallId → Option Call) (are : AreCalls parts clients calls) where
  -- the parts keep the same
  pub calls_same : (clients' : ℕ → ℕ → Option Kept) → ((q d : ℕ) → clients' q d ≡ clients q d) → AreCalls parts clients' calls
  calls_same clients' same = record {
    known = λ q d last is. are.known q d last (sym (same q d) ∙ is);
    untouched = λ i c is writes high. are.untouched i c is writes (subst (λ o. IsAbove o i.number) (same (part_of_op parts c.op) i.client) high);
  }

  -- one call changes: it is as far as before, or it was open and is a read
  pub calls_stay : (id : CallId) (call now : Call) → calls id ≡ Some call → (calls' : CallId → Option Call) → Moves calls calls' id (Some now) → now.op ≡ call.op
      → ((now.state ≡ call.state) × (now.shown ≡ call.shown)) ⊎ ((call.state ≡ Open) × (query_of call.op ≡ None → ⊥))
      → AreCalls parts clients calls'
  calls_stay id call now known calls' moved op how = record {
    known = λ q d last is. (let o = are.known q d last is in elim (moved.each (record { client = d; number = last.number })) [
      | inl same ↦
          (let n : o.its ≡ call = found_same (calls id) o.its call (ap calls (sym same) ∙ o.is) known in
          let reached : IsOutcome last.outcome call = subst (IsOutcome last.outcome) n o.reached in
          elim how [
            | inl as_far ↦ record {
              its = now;
              is = ap calls' same ∙ moved.here;
              reached = same_outcome last.outcome call now as_far.0 (λ s. as_far.1 ∙ s) reached;
              home = ap (part_of_op parts) op ∙ ap (λ (x : Call). part_of_op parts x.op) (sym n) ∙ o.home;
            }
            | inr read ↦ absurd (outcome_of_open last.outcome call reached read.0)
          ])
      | inr other ↦ subst (IsCallOf parts q last.outcome) (sym other.1) o
    ]);
    untouched = λ i c is writes high. elim (moved.each i) [
      | inl same ↦
          (let n : c ≡ now = found_same (calls' i) c now is (ap calls' same ∙ moved.here) in
          elim how [
            | inl as_far ↦
                (let there : IsAbove (clients (part_of_op parts call.op) id.client) id.number = subst (λ (x : CallId). IsAbove (clients (part_of_op parts call.op) x.client) x.number) same (subst (λ o. IsAbove (clients (part_of_op parts o) i.client) i.number) (ap (λ (x : Call). x.op) n ∙ op) high) in
                let u = are.untouched id call known (ap query_of (sym op) ∙ ap (λ (x : Call). query_of x.op) (sym n) ∙ writes) there in
                record { opened = ap (λ (x : Call). x.state) n ∙ as_far.0 ∙ u.opened; unshown = ap (λ (x : Call). x.shown) n ∙ as_far.1 ∙ u.unshown })
            | inr read ↦ absurd (read.1 (ap query_of (sym op) ∙ ap (λ (x : Call). query_of x.op) (sym n) ∙ writes))
          ])
      | inr other ↦ are.untouched i c (sym other.1 ∙ is) writes high
    ];
  }

  -- a call is made
  pub calls_more : (id : CallId) (now : Call) → calls id ≡ None → IsUntouched now → (calls' : CallId → Option Call) → Moves calls calls' id (Some now) → AreCalls parts clients calls'
  calls_more id now none new calls' moved = record {
    known = λ q d last is. (let o = are.known q d last is in elim (moved.each (record { client = d; number = last.number })) [
      | inl same ↦ (let f : None ≡ Some o.its = sym none ∙ ap calls (sym same) ∙ o.is in cc)
      | inr other ↦ subst (IsCallOf parts q last.outcome) (sym other.1) o
    ]);
    untouched = λ i c is writes high. elim (moved.each i) [
      | inl same ↦ subst IsUntouched (found_same (calls' i) now c (ap calls' same ∙ moved.here) is) new
      | inr other ↦ are.untouched i c (sym other.1 ∙ is) writes high
    ];
  }
