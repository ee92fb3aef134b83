-- What an input makes of a leader before its Raft step, in the world of chains: one event of it, or none.
use Rattle.std.proofs.Common.{◌≡◌, inl, inr, ℕ, ◌<◌, List, [], ◌∷◌, ◌++◌, length, map, Option, Some, None, Bool, true, false, refl, ap, sym, subst, ◌∙◌, arith, append-nil}
use Rattle.std.specs.Prelude.{◌==◌, ◌&&◌, slice_get, if◌then◌else◌}
use Rattle.std.specs.List.{AllByRecursion}
use Rattle.std.proofs.lemmas.Bool.{both_ways, cond-true, cond-false, cond_both, ne_eqb, eq-eqb, cases_Bool}
use Rattle.std.proofs.lemmas.Option.{same_Some, none-some}
use Rattle.raft_log.specs.declared.config.Config.{Config}
use Rattle.graph_model.specs.declared.call_id.CallId.{CallId}
use Rattle.part_keys.specs.declared.entry.PartEntry.{PartEntry}
use Rattle.part_keys.specs.declared.entry.PartEntry.TheVariants as entry
use Rattle.part_keys.specs.declared.proposal.Proposal.{Proposal}
use Rattle.part_keys.specs.declared.proposal.Proposal.TheVariants.{Start, Members, Made, Blank}
use Rattle.part_keys.specs.Routing.{is_payload}
use Rattle.part_rules.specs.Part.{Part}
use Rattle.chain_leader.specs.declared.body.ChainBody.{ChainBody}
use Rattle.chain_leader.specs.declared.body.ChainBody.TheVariants as says
use Rattle.chain_leader.specs.declared.letter.Letter.{Letter}
use Rattle.chain_leader.specs.Leading.{Leading, Taken, taken, given_up, pulsed, still, proposing}
use Rattle.chain_world.proofs.Occurring.{after_is}
use Rattle.chain_world.specs.declared.event.ChainEvent.{ChainEvent}
use Rattle.chain_world.specs.declared.event.ChainEvent.TheVariants as event
use Rattle.chain_world.specs.declared.packet.ChainEnd.{ChainEnd}
use Rattle.chain_world.specs.declared.packet.ChainEnd.TheVariants as ends
use Rattle.chain_world.specs.State.{Chains, Leader, machine_behind as machine_of, posts_of, with_leader}
use Rattle.chain_world.specs.World.{is_part, sender_of, is_to, part_from as chain_part_from, kept_sender as chain_kept_sender, behind_taking, with_taken, with_made, after, run_from}
use Rattle.chain_world.proofs.Occurring.{member_proposed, told_waits, told_again}
use Rattle.replica_model.specs.declared.packet.Place.{Place}
use Rattle.replica_model.specs.declared.packet.Place.TheVariants as place
use Rattle.replica_model.specs.Asks.{part_from, kept_sender}
use Rattle.replica_model.specs.declared.input.Tick.{Tick}
use Rattle.replica_model.specs.declared.input.Tick.TheVariants as tick
use Rattle.world_model.specs.State.{Space}
use Rattle.world_model.specs.Chained.{end_in, IsSender, IsMailed, AreSendersOf, chain_post}
use Rattle.world_model.proofs.Lists.{get_left, has_right}
use Rattle.world_model.proofs.Own.{IsOwn, own_taken}
use Rattle.world_model.proofs.Sending.{AreSentThere, letters_sent}
use Rattle.world_model.proofs.Steady.{taken_steady, given_up_steady}
use Rattle.world_model.proofs.Moving.{Moves, moves_with, take_one}
use Rattle.world_model.proofs.Backed.{Backed}

-- one entry that is proposed
abbrev entry_in : Proposal → Option PartEntry
entry_in (Made x) = Some x
entry_in Start = None
entry_in (Members config) = None
entry_in Blank = None

abbrev with_first : Option Proposal → Option PartEntry
with_first None = None
with_first (Some x) = entry_in x

one_made : (xs : List PartEntry) (x : PartEntry) → map Made xs ≡ Made x ∷ [] → xs ≡ x ∷ []
one_made [] x e = absurd (none-some (Made x) (ap (λ ys. slice_get ys 0) e))
one_made (y ∷ []) x e = ap (λ z. z ∷ []) (same_Some y x (ap (λ ys. with_first (slice_get ys 0)) e))
one_made (y ∷ z ∷ xs) x e = absurd (none-some (Made z) (sym (ap (λ ys. slice_get ys 1) e)))

module _ (sp : Space) (told : ℕ → Tick → Type 0) (p t : ℕ) (part : is_part sp.parts p ≡ true) (c : Chains) (l : Leader) (here : c.leaders p t ≡ Some l) where
  -- One event, or none, and the leader has this: what its rules keep, what it proposes, the sender of that, and these
  -- letters were sent.
  pub record Prepared (lead : Leading) (more : List Proposal) (sender : Option Place) (letters : List Letter) : Type 0 where
    pub events : List ChainEvent
    pub behind : Chains
    pub is : run_from sp.ids sp.parts c events ≡ behind
    pub backed : AllByRecursion (Backed told) events
    pub leader : Leader
    pub moves : Moves c behind p t leader
    pub lead_is : leader.lead ≡ lead
    pub applied_is : leader.applied ≡ l.applied
    pub made : leader.made ≡ l.made ++ more
    pub ready : lead.ready ≡ l.lead.ready
    pub others : (n : ℕ) → n < length l.made → leader.senders n ≡ l.senders n
    pub own : (x : PartEntry) → more ≡ Made x ∷ [] → (s : Place) → sender ≡ Some s → (e : ChainEnd) × (leader.senders (length l.made) ≡ Some e) × AreSendersOf x s e
    pub sent : AreSentThere behind.posts p t letters

  pub nothing_prepared : Prepared l.lead [] None []
  nothing_prepared = record {
    events = [];
    behind = c;
    is = refl;
    backed = tt;
    leader = l;
    moves = record { ledger = refl; founded = refl; clients = refl; here = here; others = λ q u other. refl; posts = λ x h. h };
    lead_is = refl;
    applied_is = refl;
    made = sym (append-nil l.made);
    ready = refl;
    others = λ n low. refl;
    own = λ x one s is. absurd (none-some s is);
    sent = tt;
  }

  -- what a leader took
  module _ (tk : Taken) (known : Option ChainEnd) (letters_own : AllByRecursion (IsOwn t) tk.letters) (steady : tk.leading.ready ≡ l.lead.ready) (e : ChainEvent) (its : Backed told e) (is : after sp.ids sp.parts c e ≡ with_taken c p t l tk known) where
    new_leader_is : Leader
    new_leader_is = behind_taking l tk known

    taken_prepared : (sender : Option Place) → ((x : PartEntry) → tk.proposals ≡ x ∷ [] → (s : Place) → sender ≡ Some s → (k : ChainEnd) × (known ≡ Some k) × AreSendersOf x s k)
        → Prepared tk.leading (map Made tk.proposals) sender tk.letters
    taken_prepared sender own = record {
      events = e ∷ [];
      behind = with_taken c p t l tk known;
      is = is;
      backed = (its, tt);
      leader = behind_taking l tk known;
      moves = moves_with c p t (behind_taking l tk known) (posts_of p t None tk.letters);
      lead_is = refl;
      applied_is = refl;
      made = refl;
      ready = steady;
      others = λ n low. cond-false (n == length l.made) (sender_of tk.proposals known) (l.senders n) (ne_eqb n (length l.made) (λ same. (let q = low in omega arith)));
      own = λ x one s given. (let proposed = one_made tk.proposals x one in let o = own x proposed s given in (
        o.0,
        cond-true (length l.made == length l.made) (sender_of tk.proposals known) (l.senders (length l.made)) (eq-eqb (length l.made) (length l.made) refl)
            ∙ ap (λ xs. sender_of xs known) proposed ∙ o.1,
        o.2,
      ));
      sent = letters_sent (with_taken c p t l tk known).posts p t None tk.letters letters_own (λ x h. has_right c.posts (posts_of p t None tk.letters) x h);
    }

  -- a call is given up
  pub give_up_prepared : (id : CallId) → told p (tick.GiveUp id) → Prepared (given_up l.lead id).leading (map Made (given_up l.lead id).proposals) None (given_up l.lead id).letters
  give_up_prepared id its = taken_prepared (given_up l.lead id) None own (given_up_steady l.lead id).ready (event.GiveUp p t id) its
      (after_is sp.ids sp.parts c (event.GiveUp p t id) ∙ cond-true (is_part sp.parts p) (told_waits c p t id (c.leaders p t)) c part ∙ ap (told_waits c p t id) here)
      None (λ x one s is. absurd (none-some s is))
    where
      own : AllByRecursion (IsOwn t) (given_up l.lead id).letters
      own = cond_both l.lead.ready _ (still l.lead) (λ (tk : Taken). AllByRecursion (IsOwn t) tk.letters) (λ ready. tt) (λ not. tt)

  -- a pulse
  pub pulse_prepared : Prepared l.lead [] None (pulsed l.lead)
  pulse_prepared = record {
    events = event.Pulse p t ∷ [];
    behind = record c { posts = c.posts ++ posts_of p t None (pulsed l.lead) };
    is = after_is sp.ids sp.parts c (event.Pulse p t) ∙ cond-true (is_part sp.parts p) (told_again c p t (c.leaders p t)) c part ∙ ap (told_again c p t) here;
    backed = (tt, tt);
    leader = l;
    moves = record { ledger = refl; founded = refl; clients = refl; here = here; others = λ q u other. refl; posts = λ x h. (h.0, get_left c.posts _ h.0 x h.1) };
    lead_is = refl;
    applied_is = refl;
    made = sym (append-nil l.made);
    ready = refl;
    others = λ n low. refl;
    own = λ x one s is. absurd (none-some s is);
    sent = letters_sent (c.posts ++ posts_of p t None (pulsed l.lead)) p t None (pulsed l.lead)
        (cond_both l.lead.ready _ [] (λ (xs : List Letter). AllByRecursion (IsOwn t) xs) (λ ready. (tt, tt)) (λ not. tt)) (λ x h. has_right c.posts _ x h);
  }

  -- a configuration is proposed
  pub members_prepared : 0 < t → (config : Config) → Prepared l.lead (Members config ∷ []) None []
  members_prepared above config = record {
    events = event.Members p t config ∷ [];
    behind = with_leader c p t (with_made l (Members config ∷ []));
    is = after_is sp.ids sp.parts c (event.Members p t config) ∙ cond-true (is_part sp.parts p) _ c part
        ∙ cond-false (t == 0) _ (member_proposed c p t config (c.leaders p t)) (ne_eqb t 0 (λ z. (let a = above in omega arith)))
        ∙ ap (member_proposed c p t config) here;
    backed = (tt, tt);
    leader = with_made l (Members config ∷ []);
    moves = (let m = moves_with c p t (with_made l (Members config ∷ [])) [] in
        record { ledger = refl; founded = refl; clients = refl; here = m.here; others = m.others; posts = λ x h. h });
    lead_is = refl;
    applied_is = refl;
    made = refl;
    ready = refl;
    others = λ n low. refl;
    own = λ x one s is. absurd (none-some s is);
    sent = tt;
  }

  -- The part from which a body came matters of a Remote and a Fence alone.
  taken_from : (m : Part) (lead : Leading) (sender : Place) (said : ChainBody) (from : ChainEnd) → IsSender sender said from
      → taken sp.ids sp.parts p t m lead said (chain_part_from from) ≡ taken sp.ids sp.parts p t m lead said (part_from sender)
  taken_from m lead (place.Peer q y) (says.Remote u v list) from is = ap (λ e. taken sp.ids sp.parts p t m lead (says.Remote u v list) (chain_part_from e)) is
  taken_from m lead (place.Peer q y) (says.Fence u v edges) from is = ap (λ e. taken sp.ids sp.parts p t m lead (says.Fence u v edges) (chain_part_from e)) is
  taken_from m lead (place.Client n) (says.Remote u v list) from is = absurd is
  taken_from m lead (place.Client n) (says.Fence u v edges) from is = absurd is
  taken_from m lead sender (says.Request number x) from is = refl
  taken_from m lead sender (says.Answer number answer) from is = refl
  taken_from m lead sender (says.NotLeader other q hint) from is = refl
  taken_from m lead sender (says.Done u v) from is = refl
  taken_from m lead sender (says.Stale u v above) from is = refl
  taken_from m lead sender (says.Fenced u v written) from is = refl
  taken_from m lead sender (says.Resume u after) from is = refl

  one_proposed : (lead : Leading) (x0 x : PartEntry) → (proposing sp.ids sp.parts p lead x0).proposals ≡ x ∷ [] → x0 ≡ x
  one_proposed lead x0 x = cond_both (is_payload sp.ids sp.parts p x0) (record { leading = lead; proposals = x0 ∷ []; letters = [] }) (still lead) (λ (tk : Taken). tk.proposals ≡ x ∷ [] → x0 ≡ x)
      (λ is e. same_Some x0 x (ap (λ ys. slice_get ys 0) e))
      (λ not e. absurd (none-some x (ap (λ ys. slice_get ys 0) e)))

  module _ (machine : Part) (machine_is : machine ≡ machine_of sp.parts c p l.applied) where
    kept_knows : (sender : Place) (said : ChainBody) (from : ChainEnd) → IsSender sender said from → (x : PartEntry) → (taken sp.ids sp.parts p t machine l.lead said (part_from sender)).proposals ≡ x ∷ []
        → (s : Place) → kept_sender sender said ≡ Some s → (k : ChainEnd) × (chain_kept_sender from said ≡ Some k) × AreSendersOf x s k
    kept_knows (place.Peer q y) (says.Remote u v list) from is x one s given = (
      from,
      refl,
      subst (λ z. AreSendersOf z s from) (one_proposed l.lead (entry.Remote q u v list) x one)
          (record { peer = y; is = sym (same_Some (place.Peer q y) s given); known_is = is }),
    )
    kept_knows (place.Peer q y) (says.Fence u v edges) from is x one s given = (
      from,
      refl,
      subst (λ z. AreSendersOf z s from) (one_proposed l.lead (entry.Fence q u v edges) x one)
          (record { peer = y; is = sym (same_Some (place.Peer q y) s given); known_is = is }),
    )
    kept_knows (place.Client n) (says.Remote u v list) from is x one s given = absurd is
    kept_knows (place.Client n) (says.Fence u v edges) from is x one s given = absurd is
    kept_knows sender (says.Request number y) from is x one s given = absurd (none-some s given)
    kept_knows sender (says.Answer number answer) from is x one s given = absurd (none-some s given)
    kept_knows sender (says.NotLeader other q hint) from is x one s given = absurd (none-some s given)
    kept_knows sender (says.Done u v) from is x one s given = absurd (none-some s given)
    kept_knows sender (says.Stale u v above) from is x one s given = absurd (none-some s given)
    kept_knows sender (says.Fenced u v written) from is x one s given = absurd (none-some s given)
    kept_knows sender (says.Resume u after) from is x one s given = absurd (none-some s given)

    abbrev Takes : Place → ChainBody → Taken → Type 0
    Takes sender said tk = Prepared tk.leading (map Made tk.proposals) (kept_sender sender said) tk.letters

    -- what is for a leader of another term is nothing to this one
    not_mine : (u : ℕ) → ((p == p) && (u == t)) ≡ false → u == t ≡ false
    not_mine u e = sym (ap (λ b. b && (u == t)) (eq-eqb p p refl)) ∙ e

    of_other_term : (b : Bool) (made : Taken) (u : ℕ) → ((p == p) && (u == t)) ≡ false → (if b && (u == t) then made else still l.lead) ≡ still l.lead
    of_other_term true made u e = cond-false (u == t) made (still l.lead) (not_mine u e)
    of_other_term false made u e = refl

    mine : is_to p t (ends.Part p) ≡ true
    mine = eq-eqb p p refl

    not_taken : (sender : Place) (said : ChainBody) → is_to p t (end_in p said) ≡ false → Takes sender said (taken sp.ids sp.parts p t machine l.lead said (part_from sender))
    not_taken sender (says.Done u v) e = subst (Takes sender (says.Done u v)) (sym (of_other_term l.lead.ready _ u e)) nothing_prepared
    not_taken sender (says.Stale u v above) e = nothing_prepared
    not_taken sender (says.Fenced u v written) e = subst (Takes sender (says.Fenced u v written)) (sym (of_other_term l.lead.ready _ u e)) nothing_prepared
    not_taken sender (says.Resume u after) e = subst (Takes sender (says.Resume u after)) (sym (of_other_term l.lead.ready _ u e)) nothing_prepared
    not_taken sender (says.Request number x) e = absurd (both_ways (p == p) e mine)
    not_taken sender (says.Answer number answer) e = absurd (both_ways (p == p) e mine)
    not_taken sender (says.NotLeader other q hint) e = absurd (both_ways (p == p) e mine)
    not_taken sender (says.Remote u v list) e = absurd (both_ways (p == p) e mine)
    not_taken sender (says.Fence u v edges) e = absurd (both_ways (p == p) e mine)

    -- Take: the chains' leader makes of the counterpart what the replica makes of the packet
    pub take_prepared : (sender : Place) (said : ChainBody) (m : ℕ) → IsMailed c.posts sender (end_in p said) said m → Takes sender said (taken sp.ids sp.parts p t machine l.lead said (part_from sender))
    take_prepared sender said m mail = elim (cases_Bool (is_to p t (end_in p said))) [
      | inr other ↦ not_taken sender said other
      | inl own ↦
          (let known = chain_kept_sender mail.from said in
          let tk = taken sp.ids sp.parts p t machine l.lead said (part_from sender) in
          let is = take_one sp.ids sp.parts p t part c l mail.there.0 (chain_post mail.from (end_in p said) said m) here mail.there.1 own
          ∙ ap (λ made. with_taken c p t l made known)
          (ap (λ x. taken sp.ids sp.parts p t x l.lead said (chain_part_from mail.from)) (sym machine_is) ∙ taken_from machine l.lead sender said mail.from mail.sent) in
          taken_prepared tk known (own_taken sp.ids sp.parts p t machine l.lead said (part_from sender)) (taken_steady sp.ids sp.parts p t machine l.lead said (part_from sender)).ready (event.Take p t mail.there.0) tt is (kept_sender sender said) (kept_knows sender said mail.from mail.sent))
    ]
