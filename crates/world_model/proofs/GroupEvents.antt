-- Each event of the world moves each part's group by some of its own events, or by none.
use Rattle.std.proofs.Common.{◌≡◌, inl, ℕ, ◌<◌, Option, Some, None, Bool, true, false, cond, refl, ap, sym, subst, ◌∙◌}
use Rattle.std.specs.Prelude.{nat_lt, not, if◌then◌else◌}
use Rattle.std.proofs.lemmas.Bool.{cond-true, lt-ltb, and_from}
use Rattle.raft_log.specs.declared.config.Config.{Config}
use Rattle.raft_log.specs.Majority.{is_among}
use Rattle.raft_core.specs.declared.input.RaftInput.TheVariants.{Confirm}
use Rattle.raft_core.specs.Core.{Core}
use Rattle.raft_core.specs.Step.{stepped as raft_stepped}
use Rattle.raft_core.specs.Durable.{durable, reopened, crashed as core_crashed}
use Rattle.raft_group.specs.declared.event.GroupEvent.TheVariants.{Place as PlaceEvent}
use Rattle.raft_group.specs.Group.{Group, first_members, blank, with_crash, with_peer, may_place}
use Rattle.raft_group.specs.Facts.{GroupFacts}
use Rattle.raft_group.proofs.Members.{same_put, put_there}
use Rattle.replica_model.specs.declared.packet.Place.{Place}
use Rattle.replica_model.specs.declared.packet.Place.TheVariants as place
use Rattle.replica_model.specs.declared.packet.To.{To}
use Rattle.replica_model.specs.declared.packet.To.TheVariants as to
use Rattle.replica_model.specs.declared.packet.Body.{Body}
use Rattle.replica_model.specs.declared.packet.Body.TheVariants as body
use Rattle.meta_parts.specs.declared.table.PartTable.{PartTable}
use Rattle.replica_model.specs.declared.input.Input.{Input}
use Rattle.replica_model.specs.declared.input.Input.TheVariants as input
use Rattle.replica_model.specs.declared.input.Tick.{Tick}
use Rattle.replica_model.specs.Spelling.{values_of}
use Rattle.replica_model.specs.Replica.{Replica, opened, created}
use Rattle.replica_model.specs.Asks.{Asks, Nothing, Refuses, Points, Leads, Raft, Reads, asks}
use Rattle.replica_model.specs.Stepped.{stepped}
use Rattle.world_model.specs.declared.event.Cause.TheVariants as cause
use Rattle.world_model.specs.declared.event.Event.{Event}
use Rattle.world_model.specs.declared.event.Event.TheVariants as event
use Rattle.world_model.specs.State.{Space, home_of, Standing, Vacant, Up, Stopped, Down, Gone, Post, State, resolve, Site, AtClient, AtPeer, Nowhere}
use Rattle.world_model.specs.After.{left_by, peer_after}
use Rattle.world_model.specs.Lawful.{IsUp, MayRestart, MayPlace}
use Rattle.world_model.specs.Grouped.{IsSpace, Has, IsSent, IsCarried, IsComing, IsInput, IsHere, IsVacant, PeerAs}
use Rattle.world_model.proofs.Lists.{set_at, set_off}
use Rattle.world_model.proofs.Asking.{may_ask}
use Rattle.world_model.proofs.Grouping.{group_behind, stop_behind, core_behind, IsReached, GoesOn, facts_of, next_reached, stop_in_group, by_crash, does_core, stop_goes, crash_goes, stop_member}
use Rattle.world_model.proofs.Regroup.{groups_set, placed_set, regroup, stands_anew}
use Rattle.world_model.proofs.Groups.{Has_groups, grouped_step}

-- What comes to a peer of a group was sent to it.
abbrev site_part : Site → ℕ
site_part (AtClient c) = 0
site_part (AtPeer p y) = p
site_part Nowhere = 0

abbrev site_peer : Site → ℕ
site_peer (AtClient c) = 0
site_peer (AtPeer p y) = y
site_peer Nowhere = 0

abbrev place_part : Place → ℕ
place_part (place.Client c) = 0
place_part (place.Peer p y) = p

abbrev place_peer : Place → ℕ
place_peer (place.Client c) = 0
place_peer (place.Peer p y) = y

sent_comes : (g : ℕ → Group) (t : PartTable) (p y : ℕ) (from : Place) (whom : To) (m : _) → IsSent g from whom m → resolve t whom ≡ AtPeer p y → IsComing (g p) p y from (body.Raft m)
sent_comes g t p y (place.Peer q a) (to.Peer r b) m c e =
    let part : q ≡ p = sym c.0 ∙ ap site_part e in
    let peer : b ≡ y = ap site_peer e in
    λ a2 from. subst (λ n. Has (g n).sent (record { from = a2; to = y; message = m })) part
    (subst (λ n. Has (g q).sent (record { from = a2; to = n; message = m })) peer
    (subst (λ n. Has (g q).sent (record { from = n; to = b; message = m })) (ap place_peer from) c.1))
sent_comes g t p y (place.Peer q a) (to.Client n) m c e = absurd c
sent_comes g t p y (place.Peer q a) (to.Part n tries) m c e = absurd c
sent_comes g t p y (place.Client n) whom m c e = absurd c

pub carried_comes : (g : ℕ → Group) (t : PartTable) (p y : ℕ) (from : Place) (whom : To) (b : Body) → IsCarried g from whom b → resolve t whom ≡ AtPeer p y → IsComing (g p) p y from b
carried_comes g t p y from whom (body.Raft m) c e = sent_comes g t p y from whom m c e
carried_comes g t p y from whom (body.Chain said) c e = tt

-- a creation
abbrev pub groups_placed : Space → (ℕ → Group) → ℕ → ℕ → ℕ → Group
groups_placed sp g p y = if is_among y (first_members (sp.first p)) then g else groups_set g p (with_peer (g p) y)

-- the groups behind what comes to a replica, by how it stands
abbrev pub groups_peer : Space → (ℕ → Group) → ℕ → ℕ → Event → Option Post → Standing → ℕ → Group
groups_peer sp g p y (event.Deliver k) (Some post) (Up r) = groups_set g p (group_behind (g p) y (asks (home_of sp p) r (input.Sent post.packet)))
groups_peer sp g p y (event.Tick q z t) post (Up r) = groups_set g p (group_behind (g p) y (asks (home_of sp p) r (input.Tick t)))
groups_peer sp g p y (event.Crash q z) post (Up r) = groups_set g p (with_crash (g p) y)
groups_peer sp g p y (event.Restart q z true) post (Stopped r i) = groups_set g p (stop_behind (g p) y (asks (home_of sp p) r i))
groups_peer sp g p y (event.Restart q z false) post (Stopped r i) = groups_set g p (with_crash (g p) y)
groups_peer sp g p y (event.Place q node z first) post x = groups_placed sp g p y
groups_peer sp g p y e post x = g

-- the peer behind a stopped step
stop_core : (g : Group) (y : ℕ) (a : Asks) → (stop_behind g y a).core y ≡ core_crashed (core_behind (g.core y) a)
stop_core g y (Raft i lead sender) = set_at g.core y (core_crashed (raft_stepped (g.core y) i).core)
stop_core g y (Reads id query) = set_at g.core y (core_crashed (raft_stepped (g.core y) Confirm).core)
stop_core g y Nothing = set_at g.core y (core_crashed (g.core y))
stop_core g y (Refuses from other) = set_at g.core y (core_crashed (g.core y))
stop_core g y (Points v hint) = set_at g.core y (core_crashed (g.core y))
stop_core g y (Leads tk) = set_at g.core y (core_crashed (g.core y))

module _ (sp : Space) (is_space : IsSpace sp) (s : State) (g : ℕ → Group) (G : Has_groups sp s g) where
  facts : (p : ℕ) → GroupFacts (g p)
  facts p = facts_of (sp.first p) (g p) (is_space p) (G.reached p)

  -- the groups behind an event at a replica, and how it stands then
  abbrev pub AtPeerHolds : Event → Option Post → ℕ → ℕ → Standing → Type 0
  AtPeerHolds e post p y x = Has_groups sp (peer_after sp s e post p y x) (groups_peer sp g p y e post x)

  -- at one that is up
  module _ (p y : ℕ) (up : IsUp (s.placed p y)) where
    here : IsHere (g p) y up.0.core
    here = subst (PeerAs sp (g p) p y) up.1 (G.peers p y)

    by_up : (e : Event) (post : Option Post) → AtPeerHolds e post p y (Up up.0) → AtPeerHolds e post p y (s.placed p y)
    by_up e post holds = subst (AtPeerHolds e post p y) (sym up.1) holds

    -- an input
    pub grouped_tick : (t : Tick) → AtPeerHolds (event.Tick p y t) None p y (s.placed p y)
    grouped_tick t = by_up (event.Tick p y t) None (grouped_step sp is_space s g G p y up.0 here (input.Tick t) tt)

    pub grouped_packet : (k : ℕ) (post : Post) → IsInput (g p) p y (input.Sent post.packet) → AtPeerHolds (event.Deliver k) (Some post) p y (s.placed p y)
    grouped_packet k post comes = by_up (event.Deliver k) (Some post) (grouped_step sp is_space s g G p y up.0 here (input.Sent post.packet) comes)

    -- a stop inside a step
    pub grouped_stop_tick : (t : Tick) → AtPeerHolds (event.StepCrash p y (cause.Tick t)) None p y (s.placed p y)
    grouped_stop_tick t = by_up (event.StepCrash p y (cause.Tick t)) None (stands_anew sp s.placed s.posts s.ledger.decided g G p y (Stopped up.0 (input.Tick t)) (here, tt))

    pub grouped_stop_packet : (k : ℕ) (post : Post) → IsInput (g p) p y (input.Sent post.packet) → AtPeerHolds (event.StepCrash p y (cause.Sent k)) (Some post) p y (s.placed p y)
    grouped_stop_packet k post comes =
        by_up (event.StepCrash p y (cause.Sent k)) (Some post) (stands_anew sp s.placed s.posts s.ledger.decided g G p y (Stopped up.0 (input.Sent post.packet)) (here, comes))

  -- a crash
  module _ (p y : ℕ) (member : is_among y (g p).members ≡ true) (standing : Standing) where
    crash_there : PeerAs sp (with_crash (g p) y) p y standing → Has_groups sp (record s { placed = placed_set s.placed p y standing }) (groups_set g p (with_crash (g p) y))
    crash_there stood = regroup sp s.placed s.posts s.ledger.decided g G p y standing (with_crash (g p) y)
        (by_crash (g p) y member (sp.first p) (G.reached p)) (crash_goes (g p) y) stood s.posts (λ k post at. inl at) s.ledger.decided (λ q other. refl) (G.lists p)

  crashed_core : (p y : ℕ) (core : Core) → IsHere (g p) y core → (with_crash (g p) y).core y ≡ reopened y (durable core)
  crashed_core p y core here =
      set_at (g p).core y (core_crashed ((g p).core y)) ∙ ap (λ n. reopened n (durable ((g p).core y))) ((facts p).named y) ∙ ap (λ (c : Core). reopened y (durable c)) here.core_is

  pub grouped_crashed : (p y : ℕ) → IsUp (s.placed p y) → AtPeerHolds (event.Crash p y) None p y (s.placed p y)
  grouped_crashed p y up = (let stood = here p y up in
      by_up p y up (event.Crash p y) None (crash_there p y stood.member (Down (durable up.0.core)) (record { core_is = crashed_core p y up.0.core stood; member = stood.member })))

  -- a restart behind a stopped step whose record is there
  module _ (p y : ℕ) (r : Replica) (i : Input) (here : IsHere (g p) y r.core) (comes : IsInput (g p) p y i) where
    abbrev halted : Group
    halted = stop_behind (g p) y (asks (home_of sp p) r i)

    halted_reached : IsReached (sp.first p) halted
    halted_reached = stop_in_group (g p) y here.member (sp.first p) (G.reached p) (asks (home_of sp p) r i) (may_ask (home_of sp p) (g p) y r i comes)

    halted_core : halted.core y ≡ core_crashed (stepped (home_of sp p) r i).replica.core
    halted_core =
        stop_core (g p) y (asks (home_of sp p) r i)
        ∙ ap (λ c. core_crashed (core_behind c (asks (home_of sp p) r i))) here.core_is
        ∙ ap core_crashed (sym (does_core (home_of sp p) r i (asks (home_of sp p) r i)))

    halted_me : (stepped (home_of sp p) r i).replica.core.me ≡ y
    halted_me = ap (λ (c : Core). c.me) (sym halted_core) ∙ (facts_of (sp.first p) halted (is_space p) halted_reached).named y

    grouped_took : Has_groups sp (record s { placed = placed_set s.placed p y (Up (opened y (left_by (home_of sp p) r i true))) }) (groups_set g p halted)
    grouped_took = (let kept = stop_member (g p) y (asks (home_of sp p) r i) in
        regroup sp s.placed s.posts s.ledger.decided g G p y (Up (opened y (left_by (home_of sp p) r i true))) halted halted_reached (stop_goes (g p) y (asks (home_of sp p) r i))
        (record {
          core_is = halted_core ∙ ap (λ n. reopened n (durable (stepped (home_of sp p) r i).replica.core)) halted_me;
          member = ap (is_among y) kept.0 ∙ here.member;
        })
        s.posts (λ k post at. inl at) s.ledger.decided (λ q other. refl) (G.lists p ∙ ap (values_of sp.spelling) (sym kept.1)))

  grouped_restart : (p y : ℕ) (took : Bool) (x : Standing) → PeerAs sp (g p) p y x → MayRestart (home_of sp p) took x → AtPeerHolds (event.Restart p y took) None p y x
  grouped_restart p y true (Stopped r i) stood may = grouped_took p y r i stood.0 stood.1
  grouped_restart p y false (Stopped r i) stood may =
      crash_there p y stood.0.member (Up (opened y (durable r.core))) (record { core_is = crashed_core p y r.core stood.0; member = stood.0.member })
  grouped_restart p y true (Down d) stood may = stands_anew sp s.placed s.posts s.ledger.decided g G p y (Up (opened y d)) stood
  grouped_restart p y false (Down d) stood may = stands_anew sp s.placed s.posts s.ledger.decided g G p y (Up (opened y d)) stood
  grouped_restart p y true Vacant stood may = absurd may
  grouped_restart p y false Vacant stood may = absurd may
  grouped_restart p y true (Up r) stood may = absurd may
  grouped_restart p y false (Up r) stood may = absurd may
  grouped_restart p y true Gone stood may = absurd may
  grouped_restart p y false Gone stood may = absurd may

  pub grouped_restarted : (p y : ℕ) (took : Bool) → MayRestart (home_of sp p) took (s.placed p y) → AtPeerHolds (event.Restart p y took) None p y (s.placed p y)
  grouped_restarted p y took may = grouped_restart p y took (s.placed p y) (G.peers p y) may

  -- a new replica: one of the first configuration stood in its group from the start, any other is placed there now
  module _ (p y : ℕ) (above : 0 < y) (vacant : IsVacant sp p (g p) y) where
    first_there : is_among y (first_members (sp.first p)) ≡ true → IsHere (g p) y (created y (Some (sp.first p))).core
    first_there among = record {
      core_is = vacant.core_is ∙ cond-true (is_among y (first_members (sp.first p))) _ _ among;
      member = vacant.member among;
    }

    module _ (no : is_among y (first_members (sp.first p)) ≡ false) where
      is_new : may_place (g p) y ≡ true
      is_new = and_from (nat_lt 0 y) (not (is_among y (g p).placed)) (lt-ltb 0 y above) (ap not (vacant.new no))

      placed_reached : IsReached (sp.first p) (with_peer (g p) y)
      placed_reached = subst (IsReached (sp.first p)) (cond-true (may_place (g p) y) (with_peer (g p) y) (g p) is_new) (next_reached (sp.first p) (g p) (PlaceEvent y) (G.reached p))

      placed_goes : GoesOn (g p) (with_peer (g p) y) y
      placed_goes = record {
        core = λ z other. set_off (g p).core y z (blank y) other;
        members = λ z other. same_put y z (g p).members other;
        placed = λ z other. same_put y z (g p).placed other;
        sent = λ m has. has;
      }

      grouped_new : Has_groups sp (record s { placed = placed_set s.placed p y (Up (created y None)) }) (groups_set g p (with_peer (g p) y))
      grouped_new = regroup sp s.placed s.posts s.ledger.decided g G p y (Up (created y None)) (with_peer (g p) y) placed_reached placed_goes
          (record { core_is = set_at (g p).core y (blank y); member = put_there y (g p).members })
          s.posts (λ k post at. inl at) s.ledger.decided (λ q other. refl) (G.lists p)

  pub grouped_place : (p node y : ℕ) (first : Option Config) → MayPlace sp s p node y first → s.placed p y ≡ Vacant → AtPeerHolds (event.Place p node y first) None p y (s.placed p y)
  grouped_place p node y first may never =
      subst (λ f. Has_groups sp (record s { placed = placed_set s.placed p y (Up (created y f)) }) (groups_placed sp g p y)) (sym may.given) (go (is_among y (first_members (sp.first p))) refl)
    where
      vacant : IsVacant sp p (g p) y
      vacant = subst (PeerAs sp (g p) p y) never (G.peers p y)

      go : (b : Bool) → is_among y (first_members (sp.first p)) ≡ b
          → Has_groups sp (record s { placed = placed_set s.placed p y (Up (created y (cond b (Some (sp.first p)) None))) }) (cond b g (groups_set g p (with_peer (g p) y)))
      go true e = stands_anew sp s.placed s.posts s.ledger.decided g G p y (Up (created y (Some (sp.first p)))) (first_there p y may.peer vacant e)
      go false e = grouped_new p y may.peer vacant e
