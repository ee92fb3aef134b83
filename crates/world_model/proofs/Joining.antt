-- With each event at a replica, the chains go on.
use Rattle.std.proofs.Common.{◌≡◌, ◌≢◌, inl, inr, ℕ, List, [], ◌∷◌, ◌++◌, length, Option, Some, None, Bool, true, false, cond, refl, ap, sym, subst, ◌∙◌, eqb-true}
use Rattle.std.specs.Prelude.{◌==◌, ◌&&◌, nat_lt}
use Rattle.std.proofs.lemmas.Bool.{cond_both, false≢true}
use Rattle.raft_log.specs.declared.config.Config.{Config}
use Rattle.raft_log.specs.Majority.{is_among}
use Rattle.raft_core.specs.declared.input.RaftInput.{RaftInput}
use Rattle.raft_core.specs.declared.input.RaftInput.TheVariants.{Confirm}
use Rattle.raft_core.specs.Core.{Core, is_leading}
use Rattle.raft_core.specs.Durable.{Durable, durable}
use Rattle.raft_core.specs.Step.{stepped as raft_stepped}
use Rattle.raft_group.specs.Group.{Group, Round, blank, first_members, round_begun, with_step, with_crash, with_peer}
use Rattle.raft_group.specs.Facts.{GroupFacts}
use Rattle.chain_leader.specs.declared.body.ChainBody.{ChainBody}
use Rattle.chain_world.specs.declared.packet.ChainEnd.{ChainEnd}
use Rattle.chain_world.specs.declared.packet.ChainEnd.TheVariants as ends
use Rattle.chain_world.specs.Ledger.{Ledger}
use Rattle.chain_world.specs.State.{Chains, Post as ChainPost}
use Rattle.chain_world.specs.World.{is_part}
use Rattle.replica_model.specs.declared.packet.Place.{Place}
use Rattle.replica_model.specs.declared.packet.To.{To}
use Rattle.replica_model.specs.declared.packet.To.TheVariants as to
use Rattle.replica_model.specs.declared.packet.Body.{Body}
use Rattle.replica_model.specs.declared.packet.Body.TheVariants as body
use Rattle.meta_parts.specs.declared.table.PartTable.{PartTable}
use Rattle.meta_parts.specs.Table.{tried}
use Rattle.replica_model.specs.declared.input.Input.{Input}
use Rattle.replica_model.specs.declared.input.Input.TheVariants as input
use Rattle.replica_model.specs.declared.input.Tick.{Tick}
use Rattle.replica_model.specs.Replica.{Replica, opened, created}
use Rattle.replica_model.specs.Asks.{Asks, Nothing, Refuses, Points, Leads, Raft, Reads, asks}
use Rattle.replica_model.specs.Stepped.{stepped}
use Rattle.world_model.specs.declared.event.Cause.TheVariants as cause
use Rattle.world_model.specs.declared.event.Event.{Event}
use Rattle.world_model.specs.declared.event.Event.TheVariants as event
use Rattle.world_model.specs.State.{Space, home_of, Standing, Vacant, Up, Stopped, Down, Gone, Post, State, now, resolve, Site, AtClient, AtPeer, Nowhere, at_peer}
use Rattle.world_model.specs.After.{asked_behind, left_by, peer_after}
use Rattle.world_model.specs.Lawful.{IsUp, MayRestart}
use Rattle.world_model.specs.Grouped.{IsSpace, Has, IsInput, IsHere, PeerAs}
use Rattle.world_model.specs.Chained.{end_in, end_of, HasMail, HasLike, HasInput, IsHeard, IsReplica, StandsAs, Chained}
use Rattle.world_model.proofs.Lists.{has_left}
use Rattle.world_model.proofs.Asking.{may_ask}
use Rattle.world_model.proofs.Grouping.{group_behind, stop_behind, core_behind, facts_of, step_in_group, does_core, group_core, goes_on}
use Rattle.world_model.proofs.Regroup.{groups_set, placed_set}
use Rattle.world_model.proofs.Groups.{Has_groups, after_step}
use Rattle.world_model.proofs.GroupEvents.{groups_placed, groups_peer}
use Rattle.world_model.proofs.Alike.{chain_facts}
use Rattle.world_model.proofs.Apart.{leads_apart}
use Rattle.world_model.proofs.Following.{Followed}
use Rattle.world_model.proofs.Went.{Went, went_nowhere}
use Rattle.world_model.proofs.Rechain.{LeadsApart, rejoin, rechain}
use Rattle.world_model.proofs.Whole.{follow, halt}
use Rattle.world_model.proofs.Ticks.{StandsTold, AreTold}
use Rattle.world_model.proofs.Backed.{Elects, IsTold, Onward, nowhere}

-- the chains of a state
abbrev pub Has_chains : Space → State → (ℕ → Group) → Chains → Type 0
Has_chains sp s g c = Chained sp s.placed s.callers s.posts s.ledger s.asked g c

-- the chains behind an event, by some events of theirs
abbrev pub Has_some : Space → (ℕ → Tick → Type 0) → Chains → State → (ℕ → Group) → Type 0
Has_some sp told c s g = (d : Chains) × Has_chains sp s g d × Onward sp told c d

-- a packet's counterpart goes where the packet comes
abbrev pub IsEnd : Site → ChainEnd → ChainBody → Type 0
IsEnd (AtClient n) e said = e ≡ ends.Client n
IsEnd (AtPeer p y) e said = e ≡ end_in p said
IsEnd Nowhere e said = Unit {0}

ends_at : (t : PartTable) (whom : To) (said : ChainBody) → IsEnd (resolve t whom) (end_of whom said) said
ends_at t (to.Client n) said = refl
ends_at t (to.Peer p y) said = refl
ends_at t (to.Part p tries) said = go (tried t p tries)
  where
    go : (o : Option ℕ) → IsEnd (at_peer p o) (end_in p said) said
    go None = tt
    go (Some y) = refl

pub ended : (t : PartTable) (whom : To) (said : ChainBody) (who : Site) → resolve t whom ≡ who → IsEnd who (end_of whom said) said
ended t whom said who e = subst (λ w. IsEnd w (end_of whom said) said) e (ends_at t whom said)

pub comes_heard : (posts : List ChainPost) (t : PartTable) (from : Place) (whom : To) (b : Body) (moment p y : ℕ) → resolve t whom ≡ AtPeer p y → HasLike posts from whom b moment → HasInput posts p from b
comes_heard posts t from whom (body.Raft message) moment p y e like = tt
comes_heard posts t from whom (body.Chain said) moment p y e like = (moment, subst (λ w. HasMail posts from w said moment) (ended t whom said (AtPeer p y) e) like)

-- rounds that began stay
rounds_step : (g : Group) (y : ℕ) (i : RaftInput) (x : Round) → Has g.rounds x → Has (with_step g y (raft_stepped (g.core y) i)).rounds x
rounds_step g y i x has = cond_both (is_leading (raft_stepped (g.core y) i).core.role && nat_lt (g.core y).round (raft_stepped (g.core y) i).core.round)
    (g.rounds ++ round_begun (length g.decided) (g.core y) (raft_stepped (g.core y) i).core ∷ []) g.rounds (λ (xs : List Round). Has xs x)
    (λ rose. has_left g.rounds (round_begun (length g.decided) (g.core y) (raft_stepped (g.core y) i).core ∷ []) x has) (λ not_so. has)

rounds_on : (g : Group) (y : ℕ) (a : Asks) (x : Round) → Has g.rounds x → Has (group_behind g y a).rounds x
rounds_on g y (Raft i lead sender) x has = rounds_step g y i x has
rounds_on g y (Reads id query) x has = rounds_step g y Confirm x has
rounds_on g y Nothing x has = has
rounds_on g y (Refuses from other) x has = has
rounds_on g y (Points v hint) x has = has
rounds_on g y (Leads tk) x has = has

rounds_stop : (g : Group) (y : ℕ) (a : Asks) (x : Round) → Has g.rounds x → Has (stop_behind g y a).rounds x
rounds_stop g y (Raft i lead sender) x has = has
rounds_stop g y (Reads id query) x has = has
rounds_stop g y Nothing x has = has
rounds_stop g y (Refuses from other) x has = has
rounds_stop g y (Points v hint) x has = has
rounds_stop g y (Leads tk) x has = has

-- a replica that has just come up leads nothing
pub opened_is : (sp : Space) (c : Chains) (rounds : List Round) (asked : ℕ → ℕ → ℕ) (p y : ℕ) (left : Durable) → is_part sp.parts p ≡ true → IsReplica sp c rounds asked p (opened y left)
opened_is sp c rounds asked p y left part = record { part = part; leads = λ is. absurd (false≢true is); follows = λ off. record { rows = refl } }

pub created_is : (sp : Space) (c : Chains) (rounds : List Round) (asked : ℕ → ℕ → ℕ) (p y : ℕ) (first : Option Config) → is_part sp.parts p ≡ true → IsReplica sp c rounds asked p (created y first)
created_is sp c rounds asked p y None part = record { part = part; leads = λ is. absurd (false≢true is); follows = λ off. record { rows = refl } }
created_is sp c rounds asked p y (Some first) part = record { part = part; leads = λ is. absurd (false≢true is); follows = λ off. record { rows = refl } }

module _ (sp : Space) (told : ℕ → Tick → Type 0) (is_space : IsSpace sp) (s : State) (g : ℕ → Group) (G : Has_groups sp s g) (c : Chains) (C : Has_chains sp s g c) where
  facts : (p : ℕ) → GroupFacts (g p)
  facts p = facts_of (sp.first p) (g p) (is_space p) (G.reached p)

  module _ (p y : ℕ) (r : Replica) (here : IsHere (g p) y r.core) (replica : IsReplica sp c (g p).rounds (s.asked p) p r) (i : Input) (comes : IsInput (g p) p y i) (heard : IsHeard c.posts p i) (its : IsTold told p i) (elects : Elects told p r.lead.policy) where
    abbrev asked : Asks
    asked = asks (home_of sp p) r i

    abbrev behind : Group
    behind = group_behind (g p) y asked

    new : GroupFacts behind
    new = facts_of (sp.first p) behind (is_space p) (step_in_group (g p) y here.member (sp.first p) (G.reached p) asked (may_ask (home_of sp p) (g p) y r i comes))

    apart : (core : Core) → behind.core y ≡ core → (z : ℕ) → z ≢ y → (x : Standing) → PeerAs sp (g p) p z x → LeadsApart x core
    apart core at z other (Up other_r) peer = λ led. leads_apart behind new y z other other_r.core core ((goes_on (g p) y asked).core z other ∙ peer.core_is) at led
    apart core at z other (Stopped other_r j) peer = λ led. leads_apart behind new y z other other_r.core core ((goes_on (g p) y asked).core z other ∙ peer.0.core_is) at led
    apart core at z other Vacant peer = tt
    apart core at z other (Down d) peer = tt
    apart core at z other Gone peer = tt

    -- the moments behind the step
    abbrev now_asked : ℕ → ℕ → ℕ → ℕ
    now_asked = asked_behind s.asked (now s) p r.core (stepped (home_of sp p) r i).replica.core

    followed : Followed sp told p c behind (now_asked p) (stepped (home_of sp p) r i)
    followed = subst (λ (core : Core). Followed sp told p c behind (asked_behind s.asked (now s) p r.core core p) (stepped (home_of sp p) r i)) (sym (does_core (home_of sp p) r i asked))
        (follow sp told p y (g p) (facts p) c s.asked (now s) (ap (λ (l : Ledger). length l.steps) (sym C.ledger_is)) r i here.core_is (ap (λ (l : Ledger). l.decided p) C.ledger_is ∙ G.lists p)
        (C.made p replica.part) (C.led p replica.part) (C.unled p) replica heard (chain_facts sp.ids sp.parts c C.reached) its elects new)

    pub chained_step : Has_some sp told c (after_step sp s p y r (stepped (home_of sp p) r i)) (groups_set g p behind)
    chained_step = (
      followed.chains,
      rechain sp told s.placed s.callers s.posts s.ledger s.asked g c C p y behind (now s) r.core (stepped (home_of sp p) r i) (rounds_on (g p) y asked) followed
          (λ z other. apart (stepped (home_of sp p) r i).replica.core
          (group_core (g p) y asked ∙ ap (λ x. core_behind x asked) here.core_is ∙ sym (does_core (home_of sp p) r i asked)) z other (s.placed p z) (G.peers p z)),
      record { events = followed.events; is = followed.is; backed = followed.backed },
    )

    halted : Went sp told p c (stop_behind (g p) y asked) s.ledger (core_behind r.core asked)
    halted = subst (λ (l : Ledger). Went sp told p c (stop_behind (g p) y asked) l (core_behind r.core asked)) C.ledger_is
        (halt sp told p y (g p) (facts p) c s.asked (now s) (ap (λ (l : Ledger). length l.steps) (sym C.ledger_is)) r i here.core_is (ap (λ (l : Ledger). l.decided p) C.ledger_is ∙ G.lists p)
        (C.made p replica.part) (C.led p replica.part) (C.unled p) replica heard (chain_facts sp.ids sp.parts c C.reached) its elects new)

    pub chained_took : Has_some sp told c (record s { placed = placed_set s.placed p y (Up (opened y (left_by (home_of sp p) r i true))) }) (groups_set g p (stop_behind (g p) y asked))
    chained_took = (
      halted.chains,
      rejoin sp told s.placed s.callers s.posts s.ledger s.asked g c C p y (stop_behind (g p) y asked) (rounds_stop (g p) y asked) s.ledger (core_behind r.core asked) halted
          s.asked (λ q t round other. refl) (λ t round other. refl)
          (Up (opened y (left_by (home_of sp p) r i true))) (opened_is sp halted.chains (stop_behind (g p) y asked).rounds (s.asked p) p y (left_by (home_of sp p) r i true) replica.part)
          (λ z other. apart (core_behind r.core asked) (group_core (g p) y asked ∙ ap (λ x. core_behind x asked) here.core_is) z other (s.placed p z) (G.peers p z))
          s.posts (λ k post at. at) (λ k post at. inl at),
      record { events = halted.events; is = halted.is; backed = halted.backed },
    )

  -- One replica stands anew, and its group has the leaderships that it had.
  idle_apart : (y : ℕ) (x : Standing) → LeadsApart x (blank y)
  idle_apart y (Up r) = λ led. inr refl
  idle_apart y (Stopped r i) = λ led. inr refl
  idle_apart y Vacant = tt
  idle_apart y (Down d) = tt
  idle_apart y Gone = tt

  pub moved_in : (p y : ℕ) (h : Group) → h.leaders ≡ (g p).leaders → h.rounds ≡ (g p).rounds → (x : Standing) → StandsAs sp c h (s.asked p) p x
      → Has_chains sp (record s { placed = placed_set s.placed p y x }) (groups_set g p h) c
  moved_in p y h leaders rounds x stood =
      rejoin sp told s.placed s.callers s.posts s.ledger s.asked g c C p y h (λ round has. subst (λ (xs : List Round). Has xs round) (sym rounds) has) s.ledger (blank y)
      (went_nowhere sp told p c (g p) h s.ledger (blank y) leaders C.ledger_is (C.made p) (C.led p) (C.unled p))
      s.asked (λ q t round other. refl) (λ t round other. refl) x stood (λ z other. idle_apart y (s.placed p z)) s.posts (λ k post at. at) (λ k post at. inl at)

  pub restands : (p y : ℕ) (x : Standing) → StandsAs sp c (g p) (s.asked p) p x → Has_chains sp (record s { placed = placed_set s.placed p y x }) g c
  restands p y x stood = record {
    reached = C.reached;
    ledger_is = C.ledger_is;
    made = C.made;
    led = C.led;
    unled = C.unled;
    stand = λ q z. go q z (q == p) refl (z == y);
    calls = C.calls;
    routed = C.routed;
    mail = C.mail;
    requests = C.requests;
  }
    where
      go : (q z : ℕ) (b : Bool) → q == p ≡ b → (d : Bool) → StandsAs sp c (g q) (s.asked q) q (cond (b && d) x (s.placed q z))
      go q z true e true = subst (λ n. StandsAs sp c (g n) (s.asked n) n x) (sym (eqb-true q p e)) stood
      go q z true e false = C.stand q z
      go q z false e d = C.stand q z

  -- the chains behind an event at a replica, and how it stands then
  abbrev pub AtPeerJoins : Event → Option Post → ℕ → ℕ → Standing → Type 0
  AtPeerJoins e post p y x = Has_some sp told c (peer_after sp s e post p y x) (groups_peer sp g p y e post x)

  -- at one that is up
  module _ (p y : ℕ) (up : IsUp (s.placed p y)) (T : AreTold told s) where
    here : IsHere (g p) y up.0.core
    here = subst (PeerAs sp (g p) p y) up.1 (G.peers p y)

    stands : IsReplica sp c (g p).rounds (s.asked p) p up.0
    stands = subst (StandsAs sp c (g p) (s.asked p) p) up.1 (C.stand p y)

    elects : Elects told p up.0.lead.policy
    elects = subst (StandsTold told p) up.1 (T p y)

    by_up : (e : Event) (post : Option Post) → AtPeerJoins e post p y (Up up.0) → AtPeerJoins e post p y (s.placed p y)
    by_up e post holds = subst (AtPeerJoins e post p y) (sym up.1) holds

    -- an input
    pub chained_tick : (t : Tick) → told p t → AtPeerJoins (event.Tick p y t) None p y (s.placed p y)
    chained_tick t its = by_up (event.Tick p y t) None (chained_step p y up.0 here stands (input.Tick t) tt tt its elects)

    pub chained_packet : (k : ℕ) (post : Post) → IsInput (g p) p y (input.Sent post.packet) → IsHeard c.posts p (input.Sent post.packet) → AtPeerJoins (event.Deliver k) (Some post) p y (s.placed p y)
    chained_packet k post comes heard = by_up (event.Deliver k) (Some post) (chained_step p y up.0 here stands (input.Sent post.packet) comes heard tt elects)

    -- a crash
    pub chained_crashed : AtPeerJoins (event.Crash p y) None p y (s.placed p y)
    chained_crashed = by_up (event.Crash p y) None (c, moved_in p y (with_crash (g p) y) refl refl (Down (durable up.0.core)) stands.part, nowhere sp told c)

    -- a stop inside a step
    pub chained_stop_tick : (t : Tick) → AtPeerJoins (event.StepCrash p y (cause.Tick t)) None p y (s.placed p y)
    chained_stop_tick t = by_up (event.StepCrash p y (cause.Tick t)) None (c, restands p y (Stopped up.0 (input.Tick t)) (stands, tt), nowhere sp told c)

    pub chained_stop_packet : (k : ℕ) (post : Post) → IsHeard c.posts p (input.Sent post.packet) → AtPeerJoins (event.StepCrash p y (cause.Sent k)) (Some post) p y (s.placed p y)
    chained_stop_packet k post heard = by_up (event.StepCrash p y (cause.Sent k)) (Some post) (c, restands p y (Stopped up.0 (input.Sent post.packet)) (stands, heard), nowhere sp told c)

  -- a restart
  chained_restart : (p y : ℕ) (took : Bool) (x : Standing) → PeerAs sp (g p) p y x → StandsAs sp c (g p) (s.asked p) p x → MayRestart (home_of sp p) took x → StandsTold told p x → AtPeerJoins (event.Restart p y took) None p y x
  chained_restart p y true (Stopped r i) here stands may ticks = chained_took p y r here.0 stands.0 i here.1 stands.1 ticks.1 ticks.0
  chained_restart p y false (Stopped r i) here stands may ticks =
      (c, moved_in p y (with_crash (g p) y) refl refl (Up (opened y (durable r.core))) (opened_is sp c (with_crash (g p) y).rounds (s.asked p) p y (durable r.core) stands.0.part), nowhere sp told c)
  chained_restart p y true (Down d) here stands may ticks = (c, restands p y (Up (opened y d)) (opened_is sp c (g p).rounds (s.asked p) p y d stands), nowhere sp told c)
  chained_restart p y false (Down d) here stands may ticks = (c, restands p y (Up (opened y d)) (opened_is sp c (g p).rounds (s.asked p) p y d stands), nowhere sp told c)
  chained_restart p y true Vacant here stands may ticks = absurd may
  chained_restart p y false Vacant here stands may ticks = absurd may
  chained_restart p y true (Up r) here stands may ticks = absurd may
  chained_restart p y false (Up r) here stands may ticks = absurd may
  chained_restart p y true Gone here stands may ticks = absurd may
  chained_restart p y false Gone here stands may ticks = absurd may

  pub chained_restarted : (p y : ℕ) (took : Bool) → MayRestart (home_of sp p) took (s.placed p y) → AreTold told s → AtPeerJoins (event.Restart p y took) None p y (s.placed p y)
  chained_restarted p y took may T = chained_restart p y took (s.placed p y) (G.peers p y) (C.stand p y) may (T p y)

  -- a creation
  pub chained_place : (p y : ℕ) (first : Option Config) → is_part sp.parts p ≡ true → Has_chains sp (record s { placed = placed_set s.placed p y (Up (created y first)) }) (groups_placed sp g p y) c
  chained_place p y first part = go (is_among y (first_members (sp.first p)))
    where
      go : (b : Bool) → Has_chains sp (record s { placed = placed_set s.placed p y (Up (created y first)) }) (cond b g (groups_set g p (with_peer (g p) y))) c
      go true = restands p y (Up (created y first)) (created_is sp c (g p).rounds (s.asked p) p y first part)
      go false = moved_in p y (with_peer (g p) y) refl refl (Up (created y first)) (created_is sp c (with_peer (g p) y).rounds (s.asked p) p y first part)
