-- Whatever comes to a replica, the chains follow: its step whole, and one that stopped behind its record.
use Rattle.std.proofs.Common.{◌≡◌, inl, inr, ℕ, ◌<◌, ◌≤◌, List, [], ◌∷◌, ◌++◌, length, take, Option, Some, None, Bool, true, false, refl, ap, sym, subst, ◌∙◌, arith}
use Rattle.std.specs.Prelude.{slice_get}
use Rattle.std.proofs.lemmas.Bool.{cases_Bool}
use Rattle.std.proofs.lemmas.List.{length-map}
use Rattle.raft_log.specs.Decided.{Leadership}
use Rattle.raft_log.specs.declared.entry.Item.{Item}
use Rattle.raft_core.specs.declared.input.RaftInput.{RaftInput}
use Rattle.raft_core.specs.declared.input.RaftInput.TheVariants.{Confirm}
use Rattle.raft_core.specs.Core.{Core, is_leading}
use Rattle.raft_core.specs.Step.{stepped as raft_stepped}
use Rattle.raft_core.proofs.Lists.{all_both}
use Rattle.raft_group.specs.Group.{Group, with_step, decided_after, leaders_after, rounds_after}
use Rattle.raft_group.specs.Facts.{GroupFacts, AgreesWith, LeadsBy, StandsAt}
use Rattle.graph_model.specs.declared.call_id.CallId.{CallId}
use Rattle.graph_model.specs.declared.query.Query.{Query}
use Rattle.part_rules.specs.Folded.{folded}
use Rattle.chain_leader.specs.declared.letter.Letter.{Letter}
use Rattle.chain_leader.specs.Leading.{Leading, read}
use Rattle.chain_world.specs.State.{Chains, decided_of, machine_behind as chain_machine_of}
use Rattle.chain_world.specs.World.{first_asked, run_from}
use Rattle.replica_model.specs.declared.packet.Place.{Place}
use Rattle.replica_model.specs.declared.input.Input.{Input}
use Rattle.replica_model.specs.declared.input.Tick.{Tick}
use Rattle.replica_model.specs.Spelling.{valued, values_of}
use Rattle.replica_model.specs.Replica.{Replica, machine_of}
use Rattle.replica_model.specs.Asks.{Asks, Nothing, Refuses, Points, Leads, Raft, Reads, asks}
use Rattle.replica_model.specs.Stepped.{Viewed, stepped, does, leaving, refusal_to, pointed, policy_behind, raft_step}
use Rattle.world_model.specs.State.{Space, home_of, Up}
use Rattle.world_model.specs.After.{asked_behind}
use Rattle.world_model.specs.Chained.{HasMade, HasLeaders, HasNoOther, IsHeard, IsReplica, ChainFacts}
use Rattle.world_model.proofs.Lists.{set_at}
use Rattle.world_model.proofs.Grouping.{group_behind, stop_behind, core_behind, decided_grows}
use Rattle.world_model.proofs.Finishing.{same_front}
use Rattle.world_model.proofs.Calling.{run_more, stands_on}
use Rattle.world_model.proofs.Answering.{IsPrepared, quiet}
use Rattle.world_model.proofs.Preparing.{Prepared}
use Rattle.world_model.proofs.Hearing.{input_prepared}
use Rattle.world_model.proofs.Ready.{own_ready}
use Rattle.world_model.proofs.Seeing.{Seen, sees_now}
use Rattle.world_model.proofs.Rows.{IsAnswered}
use Rattle.world_model.proofs.Following.{Followed}
use Rattle.world_model.proofs.Went.{Went, went_nowhere}
use Rattle.world_model.proofs.Moments.{kept_still}
use Rattle.world_model.proofs.Stepped.{Steps}
use Rattle.world_model.proofs.Follow.{Ready, follow_raft, halt_raft}
use Rattle.world_model.proofs.Ruling.{follow_still, follow_rules}
use Rattle.world_model.proofs.Apart.{IsNoRule, no_rule}
use Rattle.world_model.proofs.Backed.{Backed, Elects, IsTold, elects_behind, plain_all}

module _ (sp : Space) (told : ℕ → Tick → Type 0) (p y : ℕ) (g : Group) (facts : GroupFacts g) (c : Chains) (moments : ℕ → ℕ → ℕ → ℕ) (now : ℕ) (moment : now ≡ length c.ledger.steps) (r : Replica) (i : Input) (core_is : g.core y ≡ r.core)
    (listed : c.ledger.decided p ≡ values_of sp.spelling g.decided) (made : HasMade sp c p g.leaders) (led : HasLeaders c p g.leaders) (unled : HasNoOther c p g.leaders)
    (replica : IsReplica sp c g.rounds (moments p) p r) (heard : IsHeard c.posts p i) (promised : ChainFacts c) (its : IsTold told p i) (elects : Elects told p r.lead.policy) where
  -- the moments of this part's rounds behind a step
  abbrev at_behind : Core → ℕ → ℕ → ℕ
  at_behind core = asked_behind moments now p r.core core p

  -- an election that begins here was told
  elected : (began : Bool) → Elects told p (policy_behind r.lead.policy began i)
  elected = elects_behind told p r.lead.policy i its elects

  still_at : (t round : ℕ) → at_behind r.core t round ≡ moments p t round
  still_at t round = kept_still moments now p r.core p t round

  -- what its peer's step makes of the group
  steps_with : (d : Chains) → d.ledger ≡ c.ledger → (asked : RaftInput) → GroupFacts (with_step g y (raft_stepped (g.core y) asked)) → Steps sp p y g (with_step g y (raft_stepped (g.core y) asked)) d r asked
  steps_with d same asked new = record {
    old = facts;
    new = new;
    core_old = core_is;
    core_new = set_at g.core y (raft_stepped (g.core y) asked).core ∙ ap (λ (x : Core). (raft_stepped x asked).core) core_is;
    leaders = ap (λ (x : Core). leaders_after g.leaders x (raft_stepped x asked).core) core_is;
    decided = ap (λ (x : Core). decided_after g.decided (raft_stepped x asked).core) core_is;
    rounds = ap (λ (x : Core). rounds_after g.rounds g.decided x (raft_stepped x asked).core) core_is;
    listed = ap (λ l. l.decided p) same ∙ listed;
    now_listed = decided_grows sp d.ledger p g.decided (ap (λ l. l.decided p) same ∙ listed) (raft_stepped r.core asked).core
        ∙ ap (λ (x : Core). values_of sp.spelling (decided_after g.decided (raft_stepped x asked).core)) (sym core_is);
  }

  -- a leader
  module _ (is : is_leading r.core.role ≡ true) where
    led_by_it : (k : ℕ) × (l : Leadership Item) × StandsAt g.leaders k l × LeadsBy r.core l
    led_by_it = (let x = facts.leads y (ap (λ (w : Core). is_leading w.role) core_is ∙ is) in (x.0, x.1, x.2, subst (λ (w : Core). LeadsBy w x.1) core_is x.3))

    above : 0 < r.core.term
    above = led_by_it.3.above

    machine_is : machine_of (home_of sp p) r ≡ chain_machine_of sp.parts c p (replica.leads is).leader.applied
    machine_is =
        ap (folded sp.parts)
        (sym (same_front sp p replica.part r.core g.decided (subst (AgreesWith g.decided) core_is (facts.agrees y))
        (λ k e at. subst (λ (x : Core). slice_get x.log k ≡ Some e → e.term ≤ x.term) core_is (facts.bounded y k e) at) r.core.commit (omega arith))
        ∙ ap (take r.core.commit) (sym listed) ∙ ap (λ n. take n (c.ledger.decided p)) (sym (replica.leads is).applied))

    abbrev Is : Asks → Type 0
    Is a = IsPrepared sp told p replica.part c r above (replica.leads is).leader (replica.leads is).is (replica.leads is).lead i a

    prepared : Is (asks (home_of sp p) r i)
    prepared = input_prepared sp told p replica.part c r above (replica.leads is).leader (replica.leads is).is (replica.leads is).lead machine_is is i its heard

  module _ (asked : RaftInput) (lead : Leading) (sender : Option Place) (new : GroupFacts (with_step g y (raft_stepped (g.core y) asked))) (on : (is : is_leading r.core.role ≡ true) → Is is (Raft asked lead sender)) where
    ready_on : (is : is_leading r.core.role ≡ true)
        → Ready sp told p y replica.part g (with_step g y (raft_stepped (g.core y) asked)) c moments now r i asked lead sender None (steps_with c refl asked new) made led unled replica is
    ready_on is = record { above = above is; pre = (on is).0; alone = (on is).1; ready = (on is).0.ready ∙ ap (λ (l : Leading). l.ready) (replica.leads is).lead }

    follow_asked : Followed sp told p c (with_step g y (raft_stepped (g.core y) asked)) (at_behind (raft_stepped r.core asked).core) (raft_step (home_of sp p) r i (raft_stepped r.core asked) lead sender None)
    follow_asked = follow_raft sp told p y replica.part g (with_step g y (raft_stepped (g.core y) asked)) c moments now r i asked lead sender None (steps_with c refl asked new) made led unled replica elected ready_on (inr refl, tt)

    halt_asked : Went sp told p c (with_step g y (raft_stepped (g.core y) asked)) c.ledger (raft_stepped r.core asked).core
    halt_asked = halt_raft sp told p y replica.part g (with_step g y (raft_stepped (g.core y) asked)) c moments now r i asked lead sender None (steps_with c refl asked new) made led unled replica elected ready_on

  -- A read is seen first, where its leader knows all that is decided.
  module _ (is : is_leading r.core.role ≡ true) (id : CallId) (query : Query) (asked : Is is (Reads id query)) (new : GroupFacts (with_step g y (raft_stepped (g.core y) Confirm))) where
    abbrev viewed : Viewed
    viewed = record { id = id; answer = read (machine_of (home_of sp p) r) query }

    first : first_asked p id c.posts ≡ Some query
    first = promised.alike p id asked.number query asked.from asked.moment asked.there

    seen : Seen sp p r.core.term replica.part c (replica.leads is).leader (replica.leads is).is (machine_of (home_of sp p) r) (machine_is is) (ap (λ (l : Leading). l.ready) (replica.leads is).lead ∙ asked.ready) id query first
    seen = sees_now sp p r.core.term replica.part c (replica.leads is).leader (replica.leads is).is (machine_of (home_of sp p) r) (machine_is is) (ap (λ (l : Leading). l.ready) (replica.leads is).lead ∙ asked.ready) id query first

    abbrev then_chains : Chains
    then_chains = record c { posts = seen.posts }

    then_replica : IsReplica sp then_chains g.rounds (moments p) p r
    then_replica = stands_on sp c then_chains g p (moments p) refl seen.grows (Up r) replica

    then_ready : (on : is_leading r.core.role ≡ true)
        → Ready sp told p y replica.part g (with_step g y (raft_stepped (g.core y) Confirm)) then_chains moments now r i Confirm r.lead None (Some viewed) (steps_with then_chains refl Confirm new) made led unled then_replica on
    then_ready on = record {
      above = above on;
      pre = subst (λ (letters : List Letter). Prepared sp told p r.core.term replica.part then_chains (then_replica.leads on).leader (then_replica.leads on).is r.lead [] None letters) (sym asked.no_again)
          (quiet sp told p replica.part then_chains r (above on) (then_replica.leads on).leader (then_replica.leads on).is (then_replica.leads on).lead);
      alone = tt;
      ready = refl;
    }

    many : length (decided_of c p) ≡ length g.decided
    many = ap length listed ∙ length-map g.decided (valued sp.spelling)

    follow_read : Followed sp told p c (with_step g y (raft_stepped (g.core y) Confirm)) (at_behind (raft_stepped r.core Confirm).core) (raft_step (home_of sp p) r i (raft_stepped r.core Confirm) r.lead None (Some viewed))
    follow_read =
        let f = follow_raft sp told p y replica.part g (with_step g y (raft_stepped (g.core y) Confirm)) then_chains moments now r i Confirm r.lead None (Some viewed) (steps_with then_chains refl Confirm new) made led unled then_replica elected then_ready (
          inl (own_ready r.core (led_by_it is).1 is (led_by_it is).3 ((replica.leads is).ready asked.ready)),
          λ e. subst (λ m. IsAnswered seen.posts viewed m) (sym moment) (seen.seen ((replica.leads is).applied ∙ e ∙ sym many)),
        ) in
        record {
          events = seen.events ++ f.events;
          chains = f.chains;
          is = run_more sp.ids sp.parts c seen.events f.events ∙ ap (λ x. run_from sp.ids sp.parts x f.events) seen.is ∙ f.is;
          backed = all_both (Backed told) seen.events f.events (plain_all told seen.events seen.plain) f.backed;
          ledger = f.ledger;
          founded = f.founded;
          clients = f.clients;
          others = f.others;
          posts = λ x has. f.posts x (seen.grows x has);
          made = f.made;
          led = f.led;
          unled = f.unled;
          replica = f.replica;
          mail = f.mail;
        }

    halt_read : Went sp told p c (with_step g y (raft_stepped (g.core y) Confirm)) c.ledger (raft_stepped r.core Confirm).core
    halt_read = halt_asked Confirm r.lead None new (λ on. (
      subst (λ (letters : List Letter). Prepared sp told p r.core.term replica.part c (replica.leads on).leader (replica.leads on).is r.lead [] None letters) (sym asked.no_again)
          (quiet sp told p replica.part c r (above on) (replica.leads on).leader (replica.leads on).is (replica.leads on).lead),
      tt,
    ))

  follow_by : (a : Asks) → ((is : is_leading r.core.role ≡ true) → Is is a) → (is_leading r.core.role ≡ false → IsNoRule a) → GroupFacts (group_behind g y a) → Followed sp told p c (group_behind g y a) (at_behind (core_behind r.core a)) (does (home_of sp p) r i a)
  follow_by Nothing on off new = follow_still sp told p y replica.part g facts c (moments p) (at_behind r.core) still_at r core_is listed made led unled replica r.hints [] tt
  follow_by (Refuses from other) on off new =
      follow_still sp told p y replica.part g facts c (moments p) (at_behind r.core) still_at r core_is listed made led unled replica r.hints (leaving (refusal_to (home_of sp p) r from other) ∷ []) (tt, tt)
  follow_by (Points v hint) on off new = follow_still sp told p y replica.part g facts c (moments p) (at_behind r.core) still_at r core_is listed made led unled replica (pointed r v hint).hints [] tt
  follow_by (Leads tk) on off new = elim (cases_Bool (is_leading r.core.role)) [
    | inl is ↦ follow_rules sp told p y replica.part g facts c (moments p) (at_behind r.core) still_at r core_is listed made led unled replica is tk (on is)
    | inr idle ↦ absurd (off idle)
  ]
  follow_by (Raft asked lead sender) on off new = follow_asked asked lead sender new on
  follow_by (Reads id query) on off new = elim (cases_Bool (is_leading r.core.role)) [
    | inl is ↦ follow_read is id query (on is) new
    | inr idle ↦ absurd (off idle)
  ]

  -- A step is followed.
  pub follow : GroupFacts (group_behind g y (asks (home_of sp p) r i)) → Followed sp told p c (group_behind g y (asks (home_of sp p) r i)) (at_behind (core_behind r.core (asks (home_of sp p) r i))) (stepped (home_of sp p) r i)
  follow new = follow_by (asks (home_of sp p) r i) prepared (λ idle. no_rule (home_of sp p) r idle i) new

  nowhere : (h : Group) → h.leaders ≡ g.leaders → Went sp told p c h c.ledger r.core
  nowhere h same = went_nowhere sp told p c g h c.ledger r.core same refl (λ part. made) (λ part. led) unled

  -- the group behind the stopped step has the leaderships of the group behind the whole step
  as_stopped : (h k : Group) (core : Core) → k.leaders ≡ h.leaders → Went sp told p c h c.ledger core → Went sp told p c k c.ledger core
  as_stopped h k core same w = record {
    events = w.events;
    chains = w.chains;
    is = w.is;
    backed = w.backed;
    ledger_is = w.ledger_is;
    founded = w.founded;
    clients = w.clients;
    others = w.others;
    posts = w.posts;
    made = λ part. subst (λ (xs : List (Leadership Item)). HasMade sp w.chains p xs) (sym same) (w.made part);
    led = λ part. subst (λ (xs : List (Leadership Item)). HasLeaders w.chains p xs) (sym same) (w.led part);
    unled = subst (λ (xs : List (Leadership Item)). HasNoOther w.chains p xs) (sym same) w.unled;
  }

  halt_by : (a : Asks) → ((is : is_leading r.core.role ≡ true) → Is is a) → (is_leading r.core.role ≡ false → IsNoRule a) → GroupFacts (group_behind g y a) → Went sp told p c (stop_behind g y a) c.ledger (core_behind r.core a)
  halt_by Nothing on off new = nowhere (stop_behind g y Nothing) refl
  halt_by (Refuses from other) on off new = nowhere (stop_behind g y (Refuses from other)) refl
  halt_by (Points v hint) on off new = nowhere (stop_behind g y (Points v hint)) refl
  halt_by (Leads tk) on off new = nowhere (stop_behind g y (Leads tk)) refl
  halt_by (Raft asked lead sender) on off new = as_stopped (group_behind g y (Raft asked lead sender)) (stop_behind g y (Raft asked lead sender)) (raft_stepped r.core asked).core refl (halt_asked asked lead sender new on)
  halt_by (Reads id query) on off new = elim (cases_Bool (is_leading r.core.role)) [
    | inl is ↦ as_stopped (group_behind g y (Reads id query)) (stop_behind g y (Reads id query)) (raft_stepped r.core Confirm).core refl (halt_read is id query (on is) new)
    | inr idle ↦ absurd (off idle)
  ]

  -- and what a stop behind its record leaves
  pub halt : GroupFacts (group_behind g y (asks (home_of sp p) r i)) → Went sp told p c (stop_behind g y (asks (home_of sp p) r i)) c.ledger (core_behind r.core (asks (home_of sp p) r i))
  halt new = halt_by (asks (home_of sp p) r i) prepared (λ idle. no_rule (home_of sp p) r idle i) new
