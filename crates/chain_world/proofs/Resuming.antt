-- A step of Resume takes up chains, one after another.
use Rattle.std.proofs.Common.{◌≡◌, inl, inr, ℕ, suc, ◌≤◌, List, [], ◌∷◌, ◌++◌, Option, Some, None, Bool, true, false, ◌&&◌, cond, refl, ap, sym, subst, ◌∙◌, arith, append-nil, append_assoc}
use Rattle.std.specs.Prelude.{◌==◌, nat_lt, is_some}
use Rattle.std.specs.List.{AllByRecursion}
use Rattle.std.specs.FinMap.{get}
use Rattle.std.proofs.lemmas.Bool.{false≢true, ltb-true, ltb-false}
use Rattle.std.proofs.lemmas.Option.{same_Some, none-some}
use Rattle.part_keys.specs.declared.chain.PrimeRec.{PrimeRec}
use Rattle.part_keys.specs.declared.chain.ChainState.{ChainState}
use Rattle.part_keys.specs.declared.chain.Policy.{Policy}
use Rattle.chain_leader.specs.Rules.{Table}
use Rattle.chain_leader.specs.Leading.{and_then, resumes_all, Ruled}
use Rattle.chain_world.specs.Course.{Courses}
use Rattle.chain_world.specs.State.{Post, Leader, Chains, decided_of, posts_of}
use Rattle.chain_world.specs.Invariant.Protocol.{HasPut, HasFenced, IsKept, IsReadyIf, IsReady, StandsAt, is_fence}
use Rattle.chain_world.proofs.Staying.{gone_on}
use Rattle.chain_world.proofs.Moving.{leader_set, set_here}
use Rattle.chain_world.proofs.Fronts.{numbered}
use Rattle.chain_world.proofs.Tables.{IsTakenUp, resume_cases}
use Rattle.chain_world.proofs.Ready.{may_lack}
use Rattle.chain_world.proofs.Sending.{put_kept, fence_kept}
use Rattle.chain_world.proofs.Quietly.{quietly_kept}

-- a leader's state put in twice
set_again : (b : Bool) (x y o : Option Leader) → cond b y (cond b x o) ≡ cond b y o
set_again true x y o = refl
set_again false x y o = refl

pub leader_twice : (leaders : ℕ → ℕ → Option Leader) (p t : ℕ) (a b : Leader) → leader_set (leader_set leaders p t a) p t b ≡ leader_set leaders p t b
leader_twice leaders p t a b = λ i q u. set_again ((q == p) && (u == t)) (Some a) (Some b) (leaders q u) i

-- the leader with another table
abbrev pub with_table : Leader → Table → Leader
with_table l u = record l { lead = record l.lead { table = u } }

-- the world in which it has that, and packets left
abbrev pub taken_up : Chains → ℕ → ℕ → Leader → Table → List Post → Chains
taken_up s p t l u more = gone_on s s.ledger.steps s.founded (leader_set s.leaders p t (with_table l u)) more s.clients

-- a first move, and the others behind it
pub then_others : (parts : ℕ) (s : Chains) (k : Courses) (p t : ℕ) (l : Leader) (u w : Table) (post : Post) (more : List Post)
    → IsKept parts (taken_up (taken_up s p t l u (post ∷ [])) p t (with_table l u) w more) k → IsKept parts (taken_up s p t l w (post ∷ more)) k
then_others parts s k p t l u w post more kept =
    subst (λ (posts : List Post). IsKept parts (record { ledger = s.ledger; founded = s.founded; leaders = leader_set s.leaders p t (with_table l w); posts = posts; clients = s.clients }) k) (append_assoc s.posts (post ∷ []) more)
    (subst (λ (leaders : ℕ → ℕ → Option Leader). IsKept parts (record { ledger = s.ledger; founded = s.founded; leaders = leaders; posts = (s.posts ++ post ∷ []) ++ more; clients = s.clients }) k)
    (leader_twice s.leaders p t (with_table l u) (with_table l w)) kept)

module _ (parts : ℕ) (k : Courses) (p t : ℕ) where
  ready_of : (s : Chains) (kept : IsKept parts s k) (l : Leader) → s.leaders p t ≡ Some l → l.lead.ready ≡ true
      → IsReady parts (decided_of s p) (HasPut s p t) (HasFenced s p t) t l.applied l.lead.table
  ready_of s kept l is ready = subst (IsReadyIf parts (decided_of s p) (HasPut s p t) (HasFenced s p t) t l.applied l.lead.table) ready (kept.leaders p t l is).rules

  module _ (s : Chains) (kept : IsKept parts s k) (l : Leader) (is : s.leaders p t ≡ Some l) (ready : l.lead.ready ≡ true) (rec : PrimeRec) (stands : StandsAt parts (decided_of s p) l.applied rec.v rec) (policy : Policy) where
    r : IsReady parts (decided_of s p) (HasPut s p t) (HasFenced s p t) t l.applied l.lead.table
    r = ready_of s kept l is ready

    -- the row that is taken up has the record's list and remote part
    its_list : (row : ChainState) → IsTakenUp l.lead.table rec policy row → (row.list ≡ rec.list) × (row.remote ≡ rec.remote)
    its_list row (inl new) = (ap (λ (x : ChainState). x.list) new.1, ap (λ (x : ChainState). x.remote) new.1)
    its_list row (inr old) =
        let i = r.rows rec.v old.0 old.1 in
        let same : i.rec ≡ rec = same_Some i.rec rec (sym i.standing ∙ stands) in
        (ap (λ (x : ChainState). x.list) old.2 ∙ i.list ∙ ap (λ (x : PrimeRec). x.list) same, ap (λ (x : ChainState). x.remote) old.2 ∙ i.remote ∙ ap (λ (x : PrimeRec). x.remote) same)

    -- it is in the mode that it was in
    its_mode : (row : ChainState) → IsTakenUp l.lead.table rec policy row → (other : ChainState) → get l.lead.table rec.v ≡ Some other → is_fence row.mode ≡ is_fence other.mode
    its_mode row (inl new) other there = absurd (none-some other (sym new.0 ∙ there))
    its_mode row (inr old) other there = ap (λ (x : ChainState). is_fence x.mode) old.2 ∙ ap (λ (x : ChainState). is_fence x.mode) (same_Some old.0 other (sym old.1 ∙ there))

    its_unfenced : (row : ChainState) → IsTakenUp l.lead.table rec policy row → is_fence row.mode ≡ false → HasFenced s p t rec.v → ⊥
    its_unfenced row up kind h = let f = (r.fenced rec.v h).1 rec stands in false≢true (sym kind ∙ its_mode row up f.0 f.1 ∙ f.2)

    its_unput : (row : ChainState) → IsTakenUp l.lead.table rec policy row → is_fence row.mode ≡ true → HasPut s p t rec.v → ⊥
    its_unput row up kind h = let f = (r.put rec.v h).1 rec stands in false≢true (sym f.2 ∙ sym (its_mode row up f.0 f.1) ∙ kind)

    its_before : (row : ChainState) → IsTakenUp l.lead.table rec policy row → is_fence row.mode ≡ true → rec.v ≤ suc r.noop
    its_before row (inl new) kind = by_number (nat_lt (suc r.noop) rec.v) refl
      where
        by_number : (b : Bool) → nat_lt (suc r.noop) rec.v ≡ b → rec.v ≤ suc r.noop
        by_number true e = absurd (false≢true (sym (ap is_some new.0) ∙ r.own rec.v rec stands (ltb-true (suc r.noop) rec.v e)))
        by_number false e = ltb-false (suc r.noop) rec.v e
    its_before row (inr old) kind = (r.rows rec.v old.0 old.1).before (sym (ap (λ (x : ChainState). is_fence x.mode) old.2) ∙ kind)

  -- all of them
  pub resumes_kept : (chains : List (ℕ × PrimeRec)) (s : Chains) (kept : IsKept parts s k) (l : Leader) → s.leaders p t ≡ Some l → l.lead.ready ≡ true
      → AllByRecursion (λ (c : ℕ × PrimeRec). StandsAt parts (decided_of s p) l.applied c.0 c.1) chains
      → IsKept parts (taken_up s p t l (resumes_all t l.lead.policy chains l.lead.table).table (posts_of p t None (resumes_all t l.lead.policy chains l.lead.table).letters)) k
  resumes_kept [] s kept l is ready all =
      let led = kept.leaders p t l is in
      quietly_kept parts s k kept p t l is l [] (sym (append-nil l.made)) [] (λ post none. absurd none) led.within led.senders led.rules (λ x none. absurd none) (λ post none. absurd none)
  resumes_kept (c ∷ chains) s kept l is ready all =
      let rec : PrimeRec = c.1 in
      let led = kept.leaders p t l is in
      let m = numbered parts (decided_of s p) l.applied led.within c.0 rec all.0 in
      let le = m.0 in
      let eq = m.1 in
      let stands : StandsAt parts (decided_of s p) l.applied rec.v rec = subst (λ (n : ℕ). StandsAt parts (decided_of s p) l.applied n rec) (sym eq) all.0 in
      let rr = may_lack parts (decided_of s p) (HasPut s p t) (HasFenced s p t) t l.applied rec.v l.lead.table (r s kept l is ready rec stands l.lead.policy) in
      let nil = sym (append-nil l.made) in
      resume_cases (λ (made : Ruled). IsKept parts (taken_up s p t l (and_then made (resumes_all t l.lead.policy chains)).table (posts_of p t None (and_then made (resumes_all t l.lead.policy chains)).letters)) k) t l.lead.table rec l.lead.policy
      (λ row up kind u route set. (let w = its_list s kept l is ready rec stands l.lead.policy row up in
      let first = put_kept parts s k kept p t l is (with_table l u) nil rec.v l.lead.table row rec rr led.within (omega arith) stands w.0 w.1 set ready led.senders kind (its_unfenced s kept l is ready rec stands l.lead.policy row up kind) in
      then_others parts s k p t l u _ _ _ (resumes_kept chains _ first (with_table l u) (set_here s.leaders p t (with_table l u)) ready all.1)))
      (λ row up kind u route set. (let w = its_list s kept l is ready rec stands l.lead.policy row up in
      let first = fence_kept parts s k kept p t l is (with_table l u) nil rec.v l.lead.table row rec rr led.within (omega arith) stands w.0 w.1 set ready led.senders kind (its_before s kept l is ready rec stands l.lead.policy row up kind) (its_unput s kept l is ready rec stands l.lead.policy row up kind) in
      then_others parts s k p t l u _ _ _ (resumes_kept chains _ first (with_table l u) (set_here s.leaders p t (with_table l u)) ready all.1)))
