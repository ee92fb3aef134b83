-- A Raft step of a replica, in the world of chains.
use Rattle.std.proofs.Common.{◌≡◌, ℕ, suc, ◌≤◌, List, [], ◌∷◌, ◌++◌, length, take, drop, Option, Some, Bool, true, false, refl, ap, sym, subst, ◌∙◌, arith, eqb-true}
use Rattle.std.specs.Prelude.{◌==◌, ◌&&◌, slice_get}
use Rattle.std.specs.List.{AllByRecursion}
use Rattle.std.proofs.lemmas.Bool.{cond-true, cond-false, eq-eqb, both_ways, false≢true}
use Rattle.raft_log.specs.declared.entry.Entry.{Entry}
use Rattle.raft_log.specs.Log.{config_index}
use Rattle.raft_core.specs.Votes.{no_op}
use Rattle.std.proofs.lemmas.List.{take-append-le}
use Rattle.raft_core.specs.declared.input.RaftInput.{RaftInput}
use Rattle.raft_core.specs.Core.{Core, is_leading}
use Rattle.raft_core.specs.Step.{stepped as raft_stepped}
use Rattle.raft_core.specs.Laws.{IsPeer, LedNewly}
use Rattle.raft_core.proofs.StepLaws.{commits}
use Rattle.raft_group.specs.Group.{Group, begun, led_before, leaders_after, decided_after, rounds_after}
use Rattle.raft_group.specs.Facts.{GroupFacts, HasOneATerm, ConfirmsWell, AgreesWith, LeadsBy, StandsAt}
use Rattle.chain_leader.specs.declared.letter.Letter.{Letter}
use Rattle.chain_leader.specs.Leading.{Leading, idle}
use Rattle.chain_world.specs.State.{Chains}
use Rattle.chain_world.specs.World.{is_part}
use Rattle.part_rules.specs.Folded.{folded}
use Rattle.replica_model.specs.declared.packet.Place.{Place}
use Rattle.replica_model.specs.declared.input.Input.{Input}
use Rattle.replica_model.specs.declared.input.Tick.{Tick}
use Rattle.replica_model.specs.Spelling.{values_of}
use Rattle.replica_model.specs.Replica.{Replica, machine_of, no_senders, no_hints}
use Rattle.replica_model.specs.Letters.{Worked, works}
use Rattle.replica_model.specs.Stepped.{Viewed, led_of, leads_on, policy_behind, senders_with, again_of, rows_with, row_with, keeps_rows, raft_behind, raft_step}
use Rattle.world_model.specs.State.{Space, home_of}
use Rattle.world_model.specs.After.{ledger_behind}
use Rattle.world_model.specs.Chained.{HasMade, HasLeaders, HasNoOther, HasOwn, IsRow}
use Rattle.world_model.proofs.Heading.{Headed, Finished, finish}
use Rattle.world_model.proofs.Begins.{heads_newly}
use Rattle.world_model.proofs.Following.{Followed, followed}
use Rattle.world_model.proofs.Resting.{followed_off}
use Rattle.world_model.proofs.Backed.{Elects}

-- The group's facts before a step and behind it, and what the step makes of the group.
pub record Steps (sp : Space) (p y : ℕ) (g h : Group) (c : Chains) (r : Replica) (asked : RaftInput) : Type 0 where
  pub old : GroupFacts g
  pub new : GroupFacts h
  pub core_old : g.core y ≡ r.core
  pub core_new : h.core y ≡ (raft_stepped r.core asked).core
  pub leaders : h.leaders ≡ leaders_after g.leaders r.core (raft_stepped r.core asked).core
  pub decided : h.decided ≡ decided_after g.decided (raft_stepped r.core asked).core
  pub rounds : h.rounds ≡ rounds_after g.rounds g.decided r.core (raft_stepped r.core asked).core
  pub listed : c.ledger.decided p ≡ values_of sp.spelling g.decided
  pub now_listed : (ledger_behind sp c.ledger p (raft_stepped r.core asked).core).decided p ≡ values_of sp.spelling h.decided

module _ (sp : Space) (told : ℕ → Tick → Type 0) (p y : ℕ) (part : is_part sp.parts p ≡ true) (g h : Group) (c : Chains) (asked_at : ℕ → ℕ → ℕ) (r : Replica) (i : Input) (asked : RaftInput) (lead : Leading) (sender : Option Place) (read : Option Viewed)
    (s : Steps sp p y g h c r asked) (made : HasMade sp c p g.leaders) (led : HasLeaders c p g.leaders) (unled : HasNoOther c p g.leaders) where
  abbrev behind : Core
  behind = (raft_stepped r.core asked).core

  peer : IsPeer r.core
  peer = subst IsPeer s.core_old (s.old.peers y)

  rises : r.core.commit ≤ behind.commit
  rises = (commits r.core asked peer).falls_not

  within : behind.commit ≤ length behind.log
  within = (commits r.core asked peer).within

  -- It doesn't lead behind the step.
  pub step_off : is_leading behind.role ≡ false → Followed sp told p c h asked_at (raft_step (home_of sp p) r i (raft_stepped r.core asked) lead sender read)
  step_off off =
      let same : h.leaders ≡ g.leaders = s.leaders ∙ cond-false (is_leading behind.role) _ g.leaders off in
      let on : leads_on r.core behind ≡ false = and_off (is_leading r.core.role) (is_leading behind.role) (behind.term == r.core.term) off in
      subst (λ b. Followed sp told p c h asked_at (raft_behind (home_of sp p) r.core.me (raft_stepped r.core asked) (led_of (home_of sp p) r i (raft_stepped r.core asked) lead sender read b))) (sym on)
      (followed_off sp told p part c h asked_at r i asked lead sender read off
      (subst (λ xs. HasMade sp c p xs) (sym same) made) (subst (λ xs. HasLeaders c p xs) (sym same) led) (subst (λ xs. HasNoOther c p xs) (sym same) unled))
    where
      and_off : (a b d : Bool) → b ≡ false → (a && b && d) ≡ false
      and_off true b d e = ap (λ x. x && d) e
      and_off false b d e = refl

  module _ (leading : is_leading behind.role ≡ true) (machine_is : machine_of (home_of sp p) r ≡ folded sp.parts (values_of sp.spelling (take r.core.commit behind.log))) where
    leading_there : is_leading (h.core y).role ≡ true
    leading_there = ap (λ (x : Core). is_leading x.role) s.core_new ∙ leading

    bounded : (k : ℕ) (e : Entry) → slice_get behind.log k ≡ Some e → e.term ≤ behind.term
    bounded k e at = subst (λ (x : Core). slice_get x.log k ≡ Some e → e.term ≤ x.term) s.core_new (s.new.bounded y k e) at

    -- once its counterpart is there, all follows
    pub finishes : (ours : ℕ → Option Place) (l : Leading) (again : List Letter) → Headed sp told p part c h behind l ours r.core.commit again
        → Finished sp told p part c h behind l ours r.core.commit again (works (home_of sp p) r.core.me behind.term ours (machine_of (home_of sp p) r) l (suc r.core.commit) (values_of sp.spelling (drop r.core.commit (take behind.commit behind.log))))
    finishes ours l again headed = finish sp told p part c h behind l ours r.core.commit again r.core.me g.decided s.listed s.new.follows s.decided s.now_listed
        (subst (AgreesWith h.decided) s.core_new (s.new.agrees y)) bounded rises within (machine_of (home_of sp p) r) machine_is headed

  pub same_machine : (more : List Entry) → behind.log ≡ r.core.log ++ more → machine_of (home_of sp p) r ≡ folded sp.parts (values_of sp.spelling (take r.core.commit behind.log))
  same_machine more grown = ap (λ (xs : List Entry). folded sp.parts (values_of sp.spelling xs))
      (sym (ap (take r.core.commit) grown ∙ take-append-le r.core.commit r.core.log more (let w = peer.within in omega arith)))

  module _ (leading : is_leading behind.role ≡ true) where
    confirms : ConfirmsWell (rounds_after g.rounds g.decided r.core behind) behind
    confirms = subst (λ xs. ConfirmsWell xs behind) s.rounds (subst (ConfirmsWell h.rounds) s.core_new (s.new.confirmed y (ap (λ (x : Core). is_leading x.role) s.core_new ∙ leading)))

    -- It leads on.
    pub step_on : (more : List Entry) (grown : behind.log ≡ r.core.log ++ more) → leads_on r.core behind ≡ true
        → (headed : Headed sp told p part c h behind lead (senders_with sender (length behind.log) r.senders) r.core.commit (again_of true r.lead i)) → (lead.ready ≡ true → HasOwn behind)
        → AllByRecursion (IsRow (finishes leading (same_machine more grown) (senders_with sender (length behind.log) r.senders) lead (again_of true r.lead i) headed).chains.posts (rounds_after g.rounds g.decided r.core behind) (asked_at behind.term) behind)
        (rows_with r.rows read r.core behind)
        → Followed sp told p c h asked_at (raft_step (home_of sp p) r i (raft_stepped r.core asked) lead sender read)
    step_on more grown on headed ready rows =
        let ours = senders_with sender (length behind.log) r.senders in
        let worked = works (home_of sp p) r.core.me behind.term ours (machine_of (home_of sp p) r) lead (suc r.core.commit) (values_of sp.spelling (raft_stepped r.core asked).committed) in
        subst (λ b. Followed sp told p c h asked_at (raft_behind (home_of sp p) r.core.me (raft_stepped r.core asked) (led_of (home_of sp p) r i (raft_stepped r.core asked) lead sender read b))) (sym on)
        (subst (λ (w : Worked). Followed sp told p c h asked_at (raft_behind (home_of sp p) r.core.me (raft_stepped r.core asked)
        (record { on = true; senders = ours; hints = r.hints; rows = rows_with r.rows read r.core behind; worked = w; again = again_of true r.lead i })))
        (sym (cond-true (is_leading behind.role) worked (record { leading = lead; answers = []; rules = [] }) leading))
        (followed sp told p part c h r.core asked leading g.rounds g.decided s.rounds confirms ours r.hints (rows_with r.rows read r.core behind) lead ready (again_of true r.lead i) (machine_of (home_of sp p) r) true r.core.me asked_at
        (finishes leading (same_machine more grown) ours lead (again_of true r.lead i) headed) rows))

    -- It begins to lead: its counterpart begins too.
    not_before : leads_on r.core behind ≡ false → led_before r.core behind ≡ false
    not_before off = not_both (is_leading r.core.role) (is_leading behind.role) behind.term r.core.term leading off (λ e. sym e)
      where
        not_both : (a b : Bool) (t u : ℕ) → b ≡ true → (a && b && (t == u)) ≡ false → (u ≡ t → t ≡ u) → (a && (u == t)) ≡ false
        not_both false b t u e o turn = refl
        not_both true b t u e o turn = go (u == t) refl
          where
            go : (d : Bool) → u == t ≡ d → (u == t) ≡ false
            go false is = is
            go true is = absurd (both_ways (t == u) (sym (ap (λ x. x && (t == u)) e) ∙ o) (eq-eqb t u (turn (eqb-true u t is))))

    abbrev fresh_lead : Leading
    fresh_lead = record idle { policy = policy_behind r.lead.policy (raft_stepped r.core asked).began i }

    pub heads_begun : Elects told p fresh_lead.policy → LedNewly r.core behind → leads_on r.core behind ≡ false → Headed sp told p part c h behind fresh_lead no_senders r.core.commit []
    heads_begun elects newly off =
        let leaders_are : h.leaders ≡ g.leaders ++ begun r.core behind ∷ [] =
        s.leaders ∙ cond-true (is_leading behind.role) _ g.leaders leading ∙ cond-false (led_before r.core behind) _ (g.leaders ++ begun r.core behind ∷ []) (not_before off) in
        let its = s.new.leads y (ap (λ (x : Core). is_leading x.role) s.core_new ∙ leading) in
        heads_newly sp told p part c g.leaders s.old.one_a_term made led unled r.core behind newly.got newly.above its.0 its.1
        (subst (λ xs. StandsAt xs its.0 its.1) leaders_are its.2) (subst (λ (x : Core). LeadsBy x its.1) s.core_new its.3) (subst HasOneATerm leaders_are s.new.one_a_term)
        g.decided (subst (AgreesWith g.decided) s.core_old (s.old.agrees y)) s.listed (policy_behind r.lead.policy (raft_stepped r.core asked).began i) elects h leaders_are

    pub step_newly : Elects told p fresh_lead.policy → LedNewly r.core behind → leads_on r.core behind ≡ false → Followed sp told p c h asked_at (raft_step (home_of sp p) r i (raft_stepped r.core asked) lead sender read)
    step_newly elects newly off =
        let headed = heads_begun elects newly off in
        let f = finishes leading (same_machine (no_op behind.term ∷ []) newly.got) no_senders fresh_lead [] headed in
        let worked = works (home_of sp p) r.core.me behind.term no_senders (machine_of (home_of sp p) r) fresh_lead (suc r.core.commit) (values_of sp.spelling (raft_stepped r.core asked).committed) in
        let no_rows : rows_with r.rows read r.core behind ≡ [] = cond-false (keeps_rows r.core behind) (r.rows ++ row_with read r.core behind) [] (ap (λ b. b && (config_index behind.log == config_index r.core.log)) off) in
        subst (λ b. Followed sp told p c h asked_at (raft_behind (home_of sp p) r.core.me (raft_stepped r.core asked) (led_of (home_of sp p) r i (raft_stepped r.core asked) lead sender read b))) (sym off)
        (subst (λ (w : Worked). Followed sp told p c h asked_at (raft_behind (home_of sp p) r.core.me (raft_stepped r.core asked)
        (record { on = false; senders = no_senders; hints = no_hints; rows = rows_with r.rows read r.core behind; worked = w; again = [] })))
        (sym (cond-true (is_leading behind.role) worked (record { leading = fresh_lead; answers = []; rules = [] }) leading))
        (followed sp told p part c h r.core asked leading g.rounds g.decided s.rounds confirms no_senders no_hints (rows_with r.rows read r.core behind) fresh_lead (λ e. absurd (false≢true e)) [] (machine_of (home_of sp p) r) false r.core.me asked_at
        f (subst (AllByRecursion (IsRow f.chains.posts (rounds_after g.rounds g.decided r.core behind) (asked_at behind.term) behind)) (sym no_rows) tt)))
