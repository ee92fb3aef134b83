-- What replicas keep of the ticks that they were told: one whose policy is Cancel was elected with it, or its election began so;
-- and one that stopped inside a step on a tick was told that tick.
use Rattle.std.proofs.Common.{◌≡◌, inl, inr, ℕ, suc, List, [], ◌∷◌, Option, Some, None, Bool, true, false, cond, refl, sym, subst, ◌∙◌, eqb-true}
use Rattle.std.specs.Prelude.{◌==◌, ◌&&◌, nat_lt, length, if◌then◌else◌}
use Rattle.std.specs.FinMap.{contains_key}
use Rattle.std.specs.List.{AllByRecursion}
use Rattle.chain_world.specs.Places.{Among}
use Rattle.std.proofs.lemmas.Bool.{cond_both}
use Rattle.raft_log.specs.declared.message.RaftMsg.{RaftMsg}
use Rattle.raft_log.specs.declared.config.Config.{Config}
use Rattle.member_change.specs.Permit.{member_in}
use Rattle.raft_core.specs.declared.input.RaftInput.{RaftInput}
use Rattle.raft_core.specs.declared.input.RaftInput.TheVariants as raft
use Rattle.raft_core.specs.Core.{is_leading}
use Rattle.raft_core.specs.Step.{stepped as raft_stepped}
use Rattle.part_keys.specs.declared.chain.Policy.{Policy}
use Rattle.part_keys.specs.declared.entry.PartEntry.{PartEntry}
use Rattle.part_keys.specs.Spelled.{Spelling}
use Rattle.chain_leader.specs.declared.body.About.{About}
use Rattle.chain_leader.specs.declared.body.ChainBody.{ChainBody}
use Rattle.chain_leader.specs.Leading.{Leading, Taken, given_up, taken, read}
use Rattle.replica_model.specs.declared.packet.Place.{Place}
use Rattle.replica_model.specs.declared.packet.Place.TheVariants as place
use Rattle.replica_model.specs.declared.packet.Body.{Body}
use Rattle.replica_model.specs.declared.packet.Body.TheVariants as body
use Rattle.replica_model.specs.declared.input.Tick.{Tick}
use Rattle.replica_model.specs.declared.input.Tick.TheVariants as tick
use Rattle.replica_model.specs.declared.input.Input.{Input}
use Rattle.replica_model.specs.declared.input.Input.TheVariants as input
use Rattle.replica_model.specs.Spelling.{values_of}
use Rattle.replica_model.specs.Letters.{Worked, works}
use Rattle.replica_model.specs.Replica.{Home, Replica, leads, machine_of, created, no_senders}
use Rattle.replica_model.specs.Asks.{Asks, Nothing, Refuses, Points, Leads, Raft, Reads, asks, asks_tick, asks_message, asks_body, asks_leader, offers_all, proposes, may_hear, refuses, may_read, Hint, Reading, about_in, hint_in, read_in, part_from, kept_sender, is_sender, offers}
use Rattle.replica_model.specs.Stepped.{Viewed, stepped, does, raft_step, leads_on, led_by, policy_behind, senders_with}
use Rattle.world_model.specs.declared.event.Cause.TheVariants as cause
use Rattle.world_model.specs.declared.event.Event.{Event}
use Rattle.world_model.specs.declared.event.Event.TheVariants as event
use Rattle.world_model.specs.State.{Space, home_of, Standing, Vacant, Up, Stopped, Down, Gone, Post, State, resolve, Site, AtClient, AtPeer, Nowhere, at_one}
use Rattle.world_model.specs.After.{core_by, standing_after, after_at, after, Doing, Noted, Queued}
use Rattle.world_model.specs.Causes.{WasTold}
use Rattle.world_model.specs.Lawful.{IsUp, MayAt, Lawful}
use Rattle.world_model.proofs.Backed.{Elects, IsTold, forward_elects, elects_behind}
use Rattle.world_model.proofs.Steady.{taken_steady, given_up_steady, works_policy}

-- what an input asks leaves the policy
abbrev KeepsPolicy : Replica → Asks → Type 0
KeepsPolicy r (Leads tk) = tk.leading.policy ≡ r.lead.policy
KeepsPolicy r (Raft asked lead sender) = lead.policy ≡ r.lead.policy
KeepsPolicy r Nothing = Unit {0}
KeepsPolicy r (Refuses from other) = Unit {0}
KeepsPolicy r (Points v hint) = Unit {0}
KeepsPolicy r (Reads id query) = Unit {0}

module _ (home : Home) (r : Replica) where
  abbrev Keeps : Asks → Type 0
  Keeps a = KeepsPolicy r a

  keeps_proposal : (tk : Taken) (sender : Option Place) → tk.leading.policy ≡ r.lead.policy → (bytes : Option (List ℕ)) → Keeps (proposes tk sender bytes)
  keeps_proposal tk sender is None = tt
  keeps_proposal tk sender is (Some bytes) = is

  keeps_offer : (s : Spelling) (tk : Taken) (sender : Option Place) → tk.leading.policy ≡ r.lead.policy → (xs : List PartEntry) → Keeps (offers_all s tk sender xs)
  keeps_offer s tk sender is [] = is
  keeps_offer s tk sender is (x ∷ []) = keeps_proposal tk sender is (s.spell x)
  keeps_offer s tk sender is (x ∷ z ∷ more) = tt

  keeps_tick : (t : Tick) → Keeps (asks_tick home r t)
  keeps_tick (tick.Elect policy) = refl
  keeps_tick tick.Pulse = refl
  keeps_tick (tick.GiveUp id) = cond_both (leads r) _ _ Keeps (λ yes. keeps_offer home.spelling (given_up r.lead id) None (given_up_steady r.lead id).policy (given_up r.lead id).proposals) (λ no. tt)
  keeps_tick (tick.Transfer peer) = refl
  keeps_tick (tick.Change change) = cond_both (nat_lt 0 (member_in change)) _ _ Keeps (λ yes. refl) (λ no. tt)

  keeps_message : (from : Place) (m : RaftMsg) → Keeps (asks_message home r from m)
  keeps_message (place.Client c) m = tt
  keeps_message (place.Peer q a) m = cond_both ((q == home.part) && may_hear home m) _ _ Keeps (λ yes. refl) (λ no. tt)

  keeps_refusal : (from : Place) (other : Option About) → Keeps (refuses from other)
  keeps_refusal from None = tt
  keeps_refusal from (Some other) = tt

  keeps_lead : (from : Place) (said : ChainBody) (hint : Option Hint) (read : Option Reading) → Keeps (asks_leader home r from said hint read)
  keeps_lead from said (Some hint) read = cond_both (contains_key r.lead.table hint.chain) (Points hint.chain hint.peer) Nothing Keeps (λ yes. tt) (λ no. tt)
  keeps_lead from said None (Some read) = cond_both (may_read home r read) _ _ Keeps (λ yes. tt) (λ no. tt)
  keeps_lead from said None None = (let tk = taken home.ids home.parts home.part r.core.term (machine_of home r) r.lead said (part_from from) in
      cond_both (is_sender said from) (offers home.spelling tk (kept_sender from said)) Nothing Keeps
      (λ well. keeps_offer home.spelling tk (kept_sender from said) (taken_steady home.ids home.parts home.part r.core.term (machine_of home r) r.lead said (part_from from)).policy tk.proposals) (λ not_so. tt))

  keeps_body : (from : Place) (b : Body) → Keeps (asks_body home r from b)
  keeps_body from (body.Raft m) = keeps_message from m
  keeps_body from (body.Chain said) = cond_both (leads r) _ _ Keeps (λ yes. keeps_lead from said (hint_in said) (read_in said)) (λ no. keeps_refusal from (about_in home from said))

  keeps_policy : (i : Input) → Keeps (asks home r i)
  keeps_policy (input.Sent packet) = keeps_body packet.from packet.body
  keeps_policy (input.Tick t) = keeps_tick t

module _ (told : ℕ → Tick → Type 0) where
  -- a step
  module _ (p : ℕ) (home : Home) (r : Replica) (i : Input) (its : IsTold told p i) (elects : Elects told p r.lead.policy) where
    led_elects : (on : Bool) (lead : Leading) → lead.policy ≡ r.lead.policy → (policy : Policy) → Elects told p policy → Elects told p (led_by on lead policy).policy
    led_elects true lead same policy new = λ e. elects (sym same ∙ e)
    led_elects false lead same policy new = new

    raft_elects : (asked : RaftInput) (lead : Leading) (sender : Option Place) (viewed : Option Viewed) → lead.policy ≡ r.lead.policy → Elects told p (raft_step home r i (raft_stepped r.core asked) lead sender viewed).replica.lead.policy
    raft_elects asked lead sender viewed same =
        let st = raft_stepped r.core asked in
        let on = leads_on r.core st.core in
        let ours = if on then senders_with sender (length st.core.log) r.senders else no_senders in
        let led = led_by on lead (policy_behind r.lead.policy st.began i) in
        let new = led_elects on lead same (policy_behind r.lead.policy st.began i) (elects_behind told p r.lead.policy i its elects st.began) in
        cond_both (is_leading st.core.role) (works home r.core.me st.core.term ours (machine_of home r) led (suc r.core.commit) (values_of home.spelling st.committed))
        (record { leading = led; answers = []; rules = [] }) (λ (w : Worked). Elects told p w.leading.policy)
        (λ leading e. new (sym (works_policy home r.core.me st.core.term ours (machine_of home r) led (suc r.core.commit) (values_of home.spelling st.committed)) ∙ e))
        (λ not_so. new)

    does_elects : (a : Asks) → KeepsPolicy r a → Elects told p (does home r i a).replica.lead.policy
    does_elects Nothing keeps = elects
    does_elects (Refuses from other) keeps = elects
    does_elects (Points v hint) keeps = elects
    does_elects (Leads tk) keeps = λ e. elects (sym keeps ∙ e)
    does_elects (Raft asked lead sender) keeps = raft_elects asked lead sender None keeps
    does_elects (Reads id query) keeps = raft_elects raft.Confirm r.lead None (Some (record { id = id; answer = read (machine_of home r) query })) refl

    pub step_elects : Elects told p (stepped home r i).replica.lead.policy
    step_elects = does_elects (asks home r i) (keeps_policy home r i)

  -- of each replica
  abbrev pub StandsTold : ℕ → Standing → Type 0
  StandsTold p (Up r) = Elects told p r.lead.policy
  StandsTold p (Stopped r i) = Elects told p r.lead.policy × IsTold told p i
  StandsTold p Vacant = Unit {0}
  StandsTold p (Down d) = Unit {0}
  StandsTold p Gone = Unit {0}

  abbrev pub AreTold : State → Type 0
  AreTold s = (p y : ℕ) → StandsTold p (s.placed p y)

  -- what an event tells
  abbrev pub Tells : Event → Type 0
  Tells (event.Tick p y t) = told p t
  Tells (event.StepCrash p y (cause.Tick t)) = told p t
  Tells e = Unit {0}

  created_told : (p y : ℕ) (first : Option Config) → StandsTold p (Up (created y first))
  created_told p y None = forward_elects told p
  created_told p y (Some first) = forward_elects told p

  module _ (sp : Space) (s : State) (T : AreTold s) where
    set_told : (p y : ℕ) (x : Standing) → StandsTold p x → (q z : ℕ) → StandsTold q (at_one s.placed p y x q z)
    set_told p y x is q z = go (q == p) refl (z == y)
      where
        go : (b : Bool) → q == p ≡ b → (d : Bool) → StandsTold q (cond (b && d) x (s.placed q z))
        go true e true = subst (λ n. StandsTold n x) (sym (eqb-true q p e)) is
        go true e false = T q z
        go false e d = T q z

    abbrev Behind : Event → Option Post → ℕ → ℕ → Standing → Type 0
    Behind e post p y x = StandsTold p (standing_after (home_of sp p) y e post x)

    -- at one that is up
    by_up : (p y : ℕ) (e : Event) (post : Option Post) → IsUp (s.placed p y) → ((r : Replica) → Elects told p r.lead.policy → Behind e post p y (Up r)) → Behind e post p y (s.placed p y)
    by_up p y e post up holds = subst (Behind e post p y) (sym up.1) (holds up.0 (subst (StandsTold p) up.1 (T p y)))

    restarted : (p y : ℕ) (took : Bool) (x : Standing) → StandsTold p x → Behind (event.Restart p y took) None p y x
    restarted p y took (Down d) is = forward_elects told p
    restarted p y took (Stopped r i) is = forward_elects told p
    restarted p y took (Up r) is = is
    restarted p y took Vacant is = tt
    restarted p y took Gone is = tt

    received : (k : ℕ) (post : Post) (site : Site) → MayAt sp s (event.Deliver k) site → AreTold (after_at sp s (event.Deliver k) (Some post) site)
    received k post (AtClient n) may = T
    received k post (AtPeer p y) may = set_told p y (standing_after (home_of sp p) y (event.Deliver k) (Some post) (s.placed p y))
        (by_up p y (event.Deliver k) (Some post) may (λ r is. step_elects p (home_of sp p) r (input.Sent post.packet) tt is))
    received k post Nowhere may = T

    pub told_after : (e : Event) → Tells e → Lawful sp s e → AreTold (after sp s e)
    told_after (event.Invoke id op) its may = T
    told_after (event.Deliver k) its may = subst (λ o. AreTold (after_at sp s (event.Deliver k) o (core_by s.table (event.Deliver k) o))) (sym may.mail.sent)
        (received k may.mail.post (resolve s.table may.mail.post.packet.to) (subst (λ o. MayAt sp s (event.Deliver k) (core_by s.table (event.Deliver k) o)) may.mail.sent may.core))
    told_after (event.Lose k) its may = T
    told_after (event.Tick p y t) its may = set_told p y (standing_after (home_of sp p) y (event.Tick p y t) None (s.placed p y))
        (by_up p y (event.Tick p y t) None may.core (λ r is. step_elects p (home_of sp p) r (input.Tick t) its is))
    told_after (event.Crash p y) its may = set_told p y (standing_after (home_of sp p) y (event.Crash p y) None (s.placed p y)) (by_up p y (event.Crash p y) None may.core (λ r is. tt))
    told_after (event.StepCrash p y (cause.Tick t)) its may = set_told p y (standing_after (home_of sp p) y (event.StepCrash p y (cause.Tick t)) None (s.placed p y))
        (by_up p y (event.StepCrash p y (cause.Tick t)) None may.core (λ r is. (is, its)))
    told_after (event.StepCrash p y (cause.Sent k)) its may = subst (λ o. AreTold (after_at sp s (event.StepCrash p y (cause.Sent k)) o (AtPeer p y))) (sym may.mail.sent)
        (set_told p y (standing_after (home_of sp p) y (event.StepCrash p y (cause.Sent k)) (Some may.mail.post) (s.placed p y))
        (by_up p y (event.StepCrash p y (cause.Sent k)) (Some may.mail.post) may.core (λ r is. (is, tt))))
    told_after (event.Restart p y took) its may = set_told p y (standing_after (home_of sp p) y (event.Restart p y took) None (s.placed p y)) (restarted p y took (s.placed p y) (T p y))
    told_after (event.Place p node y first) its may = set_told p y (Up (created y first)) (created_told p y first)
    told_after (event.Wipe p y) its may = set_told p y Gone tt
    told_after (event.Meta b) its may = T
    told_after (event.Round n) its may = T
    told_after (event.Reply id a) its may = T

-- What the doings of a run tell was told among them.
abbrev pub TellsBy : (ℕ → Tick → Type 0) → Doing → Type 0
TellsBy told (Noted e) = Tells told e
TellsBy told (Queued n statement) = Unit {0}

module _ (doings : List Doing) where
  tells_of : (e : Event) → Among (Noted e) doings → Tells (WasTold doings) e
  tells_of (event.Tick p y t) among = (y, inl among)
  tells_of (event.StepCrash p y (cause.Tick t)) among = (y, inr among)
  tells_of (event.StepCrash p y (cause.Sent k)) among = tt
  tells_of (event.Invoke id op) among = tt
  tells_of (event.Deliver k) among = tt
  tells_of (event.Lose k) among = tt
  tells_of (event.Crash p y) among = tt
  tells_of (event.Restart p y took) among = tt
  tells_of (event.Place p node y first) among = tt
  tells_of (event.Wipe p y) among = tt
  tells_of (event.Meta b) among = tt
  tells_of (event.Round n) among = tt
  tells_of (event.Reply id a) among = tt

  tells_by : (d : Doing) → Among d doings → TellsBy (WasTold doings) d
  tells_by (Noted e) among = tells_of e among
  tells_by (Queued n statement) among = tt

  tell_all : (some : List Doing) → ((d : Doing) → Among d some → Among d doings) → AllByRecursion (TellsBy (WasTold doings)) some
  tell_all [] within = tt
  tell_all (d ∷ some) within = (tells_by d (within d (inl refl)), tell_all some (λ x among. within x (inr among)))

  pub they_tell : AllByRecursion (TellsBy (WasTold doings)) doings
  they_tell = tell_all doings (λ d among. among)
