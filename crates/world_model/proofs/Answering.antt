-- What an input asks of a leader, prepared in the world of chains.
use Rattle.std.proofs.Common.{◌≡◌, ℕ, ◌<◌, List, [], ◌∷◌, ◌++◌, map, Option, Some, None, true, refl, ap, sym, subst, ◌∙◌, append-nil}
use Rattle.std.specs.Prelude.{nat_lt, Ok, Err}
use Rattle.std.proofs.lemmas.Bool.{cond-true, cond_both}
use Rattle.std.proofs.lemmas.Option.{none-some}
use Rattle.raft_log.specs.declared.entry.Entry.{Entry}
use Rattle.member_change.specs.declared.change.Change.{Change as MemberChange}
use Rattle.member_change.specs.Permit.{Answer as Permitted, member_in}
use Rattle.raft_core.specs.Core.{Core}
use Rattle.raft_core.specs.Members.{permitted, members_entry}
use Rattle.raft_core.specs.Step.{payload}
use Rattle.raft_core.specs.Laws.{IsProposedTo, IsChangedBy}
use Rattle.raft_core.specs.declared.input.RaftInput.{RaftInput}
use Rattle.raft_core.specs.declared.input.RaftInput.TheVariants as raft
use Rattle.graph_model.specs.declared.call_id.CallId.{CallId}
use Rattle.graph_model.specs.declared.query.Query.{Query}
use Rattle.part_keys.specs.declared.entry.PartEntry.{PartEntry}
use Rattle.part_keys.specs.declared.entry.PartEntry.TheVariants as entry
use Rattle.part_keys.specs.declared.proposal.Proposal.{Proposal}
use Rattle.part_keys.specs.declared.proposal.Proposal.TheVariants.{Members, Made}
use Rattle.chain_leader.specs.declared.body.ChainBody.TheVariants as says
use Rattle.chain_leader.specs.declared.letter.Letter.{Letter}
use Rattle.chain_leader.specs.Leading.{Leading, Taken, given_up, pulsed}
use Rattle.chain_world.specs.declared.packet.ChainEnd.{ChainEnd}
use Rattle.chain_world.specs.declared.packet.ChainEnd.TheVariants as ends
use Rattle.chain_world.specs.State.{Chains, Leader}
use Rattle.chain_world.specs.World.{is_part}
use Rattle.replica_model.specs.declared.packet.Place.{Place}
use Rattle.replica_model.specs.declared.input.Tick.{Tick}
use Rattle.replica_model.specs.declared.input.Tick.TheVariants as tick
use Rattle.replica_model.specs.declared.input.Input.{Input}
use Rattle.replica_model.specs.declared.input.Input.TheVariants as input
use Rattle.replica_model.specs.Spelling.{value_of, made_of}
use Rattle.replica_model.specs.Replica.{Replica, leads}
use Rattle.replica_model.specs.Asks.{Asks, Nothing, Refuses, Points, Leads, Raft, Reads, asks_tick, offers_all, proposes}
use Rattle.replica_model.specs.Stepped.{again_of}
use Rattle.world_model.specs.State.{Space, home_of}
use Rattle.world_model.specs.Grouped.{Has}
use Rattle.world_model.specs.Chained.{chain_post}
use Rattle.world_model.proofs.Making.{proposals_of}
use Rattle.world_model.proofs.Preparing.{Prepared, nothing_prepared, give_up_prepared, pulse_prepared, members_prepared}

-- what an input of a leader's peer puts behind its log
abbrev pub added_by : Core → Permitted → List Entry
added_by core (Ok config) = members_entry core.term config ∷ []
added_by core (Err refused) = []

abbrev pub added : Core → RaftInput → List Entry
added core (raft.Msg from message) = []
added core raft.Elect = []
added core raft.Pulse = []
added core (raft.Propose bytes) = payload core.term bytes ∷ []
added core (raft.Transfer peer) = []
added core (raft.Change change) = added_by core (permitted core change)
added core raft.Confirm = []

changed_is : (core : Core) (a : Permitted) (log : List Entry) → IsChangedBy core a log → log ≡ core.log ++ added_by core a
changed_is core (Ok config) log is = is
changed_is core (Err refused) log is = is ∙ sym (append-nil core.log)

-- a leader's log grows by just that
pub grown_is : (core : Core) (i : RaftInput) (log : List Entry) → IsProposedTo core i log → log ≡ core.log ++ added core i
grown_is core (raft.Msg from message) log is = is ∙ sym (append-nil core.log)
grown_is core raft.Elect log is = is ∙ sym (append-nil core.log)
grown_is core raft.Pulse log is = is ∙ sym (append-nil core.log)
grown_is core (raft.Propose bytes) log is = is
grown_is core (raft.Transfer peer) log is = is ∙ sym (append-nil core.log)
grown_is core (raft.Change change) log is = changed_is core (permitted core change) log is
grown_is core raft.Confirm log is = is ∙ sym (append-nil core.log)

module _ (sp : Space) (told : ℕ → Tick → Type 0) (p : ℕ) (part : is_part sp.parts p ≡ true) (c : Chains) (r : Replica) (above : 0 < r.core.term) (l : Leader) (here : c.leaders p r.core.term ≡ Some l) (lead_is : l.lead ≡ r.lead) where
  abbrev Ready : Leading → List Proposal → Option Place → List Letter → Type 0
  Ready lead more sender letters = Prepared sp told p r.core.term part c l here lead more sender letters

  -- a sender is kept of one entry alone that is proposed
  abbrev pub IsAlone : RaftInput → Option Place → Type 0
  IsAlone asked None = Unit {0}
  IsAlone asked (Some s) = (x : PartEntry) × (e : Entry) × (added r.core asked ≡ e ∷ []) × (e.term ≡ r.core.term) × (value_of sp.spelling e.item ≡ Made x)

  -- a read is asked of a ready leader, and its Request was sent to this part
  pub record IsRead (i : Input) (id : CallId) (query : Query) : Type 0 where
    pub ready : r.lead.ready ≡ true
    pub no_again : again_of true r.lead i ≡ []
    pub number : ℕ
    pub from : ChainEnd
    pub moment : ℕ
    pub there : Has c.posts (chain_post from (ends.Part p) (says.Request number (entry.Read id query)) moment)

  -- what is asked is prepared
  abbrev pub IsPrepared : Input → Asks → Type 0
  IsPrepared i (Raft asked lead sender) = Ready lead (proposals_of sp.spelling (added r.core asked)) sender (again_of true r.lead i) × IsAlone asked sender
  IsPrepared i (Leads tk) = Ready tk.leading [] None tk.letters
  IsPrepared i Nothing = Unit {0}
  IsPrepared i (Refuses from other) = Unit {0}
  IsPrepared i (Points v hint) = Unit {0}
  IsPrepared i (Reads id query) = IsRead i id query

  -- a read and a message change nothing of the leader
  pub quiet : Ready r.lead [] None []
  quiet = subst (λ lead. Ready lead [] None []) lead_is (nothing_prepared sp told p r.core.term part c l here)

  rules_alone : (tk : Taken) (sender : Option Place) → Ready tk.leading [] sender tk.letters → Ready tk.leading [] None tk.letters
  rules_alone tk sender pre = record {
    events = pre.events;
    behind = pre.behind;
    is = pre.is;
    backed = pre.backed;
    leader = pre.leader;
    moves = pre.moves;
    lead_is = pre.lead_is;
    applied_is = pre.applied_is;
    made = pre.made;
    ready = pre.ready;
    others = pre.others;
    own = λ x one s given. absurd (none-some s given);
    sent = pre.sent;
  }

  without_letters : {lead : Leading} {more : List Proposal} {sender : Option Place} {letters : List Letter} → Ready lead more sender letters → Ready lead more sender []
  without_letters pre = record {
    events = pre.events;
    behind = pre.behind;
    is = pre.is;
    backed = pre.backed;
    leader = pre.leader;
    moves = pre.moves;
    lead_is = pre.lead_is;
    applied_is = pre.applied_is;
    made = pre.made;
    ready = pre.ready;
    others = pre.others;
    own = pre.own;
    sent = tt;
  }

  module _ (i : Input) (no_again : again_of true r.lead i ≡ []) (tk : Taken) (sender : Option Place) where
    proposed : (x : PartEntry) → Ready tk.leading (Made x ∷ []) sender tk.letters → (o : Option (List ℕ)) → sp.spelling.spell x ≡ o → IsPrepared i (proposes tk sender o)
    proposed x pre None is = tt
    proposed x pre (Some bytes) is = (
      subst (λ letters. Ready tk.leading (made_of (sp.spelling.read bytes) ∷ []) sender letters) (sym no_again)
          (subst (λ o. Ready tk.leading (made_of o ∷ []) sender []) (sym (sp.spelling.back x bytes is)) (without_letters pre)),
      alone sender,
    )
      where
        alone : (o : Option Place) → IsAlone (raft.Propose bytes) o
        alone None = tt
        alone (Some s) = (x, payload r.core.term bytes, refl, refl, ap made_of (sp.spelling.back x bytes is))

    -- a rule's entry is proposed in both worlds
    pub offered : (xs : List PartEntry) → Ready tk.leading (map Made xs) sender tk.letters → IsPrepared i (offers_all sp.spelling tk sender xs)
    offered [] pre = rules_alone tk sender pre
    offered (x ∷ []) pre = proposed x pre (sp.spelling.spell x) refl
    offered (x ∷ y ∷ more) pre = tt

  changed : (change : MemberChange) (a : Permitted) → Ready r.lead (proposals_of sp.spelling (added_by r.core a)) None []
  changed change (Ok config) = subst (λ lead. Ready lead (Members config ∷ []) None []) lead_is (members_prepared sp told p r.core.term part c l here above config)
  changed change (Err refused) = quiet

  -- a tick at a leader
  pub tick_prepared : (t : Tick) → told p t → leads r ≡ true → IsPrepared (input.Tick t) (asks_tick (home_of sp p) r t)
  tick_prepared (tick.Elect policy) its led = (quiet, tt)
  tick_prepared tick.Pulse its led = (subst (λ lead. Ready lead [] None (pulsed lead)) lead_is (pulse_prepared sp told p r.core.term part c l here), tt)
  tick_prepared (tick.GiveUp id) its led = subst (IsPrepared (input.Tick (tick.GiveUp id))) (sym (cond-true (leads r) _ Nothing led))
      (offered (input.Tick (tick.GiveUp id)) refl (given_up r.lead id) None (given_up r.lead id).proposals
      (subst (λ lead. Ready (given_up lead id).leading (map Made (given_up lead id).proposals) None (given_up lead id).letters) lead_is (give_up_prepared sp told p r.core.term part c l here id its)))
  tick_prepared (tick.Transfer peer) its led = (quiet, tt)
  tick_prepared (tick.Change change) its led = cond_both (nat_lt 0 (member_in change)) (Raft (raft.Change change) r.lead None) Nothing (IsPrepared (input.Tick (tick.Change change)))
      (λ named. (changed change (permitted r.core change), tt)) (λ not. tt)
