-- What the program keeps of a group, through each event.
use Rattle.std.proofs.Common.{◌≡◌, ◌≢◌, inl, inr, ℕ, List, [], ◌∷◌, ◌++◌, map, Option, Some, None, Bool, true, false, cond, not, ◌&&◌, ◌||◌, refl, ap, sym, subst, ◌∙◌}
use Rattle.std.specs.Prelude.{◌==◌, nat_lt, is_some}
use Rattle.std.specs.FinMap.{get, insert, remove}
use Rattle.std.specs.Ordering.{eq_by_cmp, nat_cmp}
use Rattle.std.proofs.lemmas.Bool.{cond_both, cond-true, cond-false, ne_eqb, eq-eqb}
use Rattle.maps.proofs.Keys.{nat_keys, same_or_apart, not_apart}
use Rattle.maps.proofs.Updates.{insert_here, insert_apart, remove_apart}
use Rattle.raft_log.specs.declared.message.RaftMsg.{RaftMsg}
use Rattle.raft_log.specs.Log.{config_of}
use Rattle.raft_log.specs.Majority.{is_among}
use Rattle.raft_log.specs.Peers.{put_among, but}
use Rattle.member_change.specs.Permit.{is_member}
use Rattle.raft_core.specs.declared.input.RaftInput.{RaftInput}
use Rattle.raft_core.specs.Ahead.{IsMessage, AreMessages}
use Rattle.raft_core.specs.Core.{Core, Sends}
use Rattle.raft_core.specs.Durable.{crashed}
use Rattle.raft_core.specs.Peer.{core_of}
use Rattle.raft_core.specs.Step.{stepped}
use Rattle.raft_core.proofs.Lists.{all_both, all_through-map}
use Rattle.raft_group.specs.declared.event.Spur.{Spur}
use Rattle.raft_group.specs.declared.event.GroupEvent.TheVariants.{Step, StepCrash, Crash, Place, Wipe}
use Rattle.raft_group.specs.declared.group.Group as program
use Rattle.raft_group.specs.declared.placed.PlacedPeer.{PlacedPeer}
use Rattle.raft_group.specs.declared.sent.Sent.{Sent}
use Rattle.raft_group.specs.Group.{Group, blank, core_set, sent_by, decided_after, with_step, with_crash, with_peer, without_peer, input_from, input_of, at_member, took, stopped, may_place, may_wipe, after}
use Rattle.raft_group.specs.Held.{Peers, is_member_at, core_at, HoldsPeers, Holds, AreSent, stopped_by}
use Rattle.raft_group.proofs.Members.{same_put, put_there, same_but}

-- the map has this peer under the id, and at others what it had
pub record IsWritten (before behind : Peers) (peer : ℕ) (now : PlacedPeer) : Type 0 where
  pub here : get behind peer ≡ Some now
  pub others : (id : ℕ) → eq_by_cmp nat_cmp id peer ≡ false → get behind id ≡ get before id

pub put_in : (m : Peers) (peer : ℕ) (now : PlacedPeer) → IsWritten m (insert m peer now) peer now
put_in m peer now = record { here = insert_here nat_keys m peer now; others = λ id apart. insert_apart nat_keys m peer now id apart }

pub put_back : (m : Peers) (peer : ℕ) (now : PlacedPeer) → IsWritten m (insert (remove m peer) peer now) peer now
put_back m peer now = record {
  here = insert_here nat_keys (remove m peer) peer now;
  others = λ id apart. insert_apart nat_keys (remove m peer) peer now id apart ∙ remove_apart nat_keys m peer id apart;
}

-- other lists and states, which differ at one id alone
pub record DiffersAt (peer : ℕ) (members others placed others_placed : List ℕ) (core other : ℕ → Core) : Type 0 where
  pub belong : (id : ℕ) → id ≢ peer → is_among id others ≡ is_among id members
  pub stand : (id : ℕ) → id ≢ peer → is_among id others_placed ≡ is_among id placed
  pub are : (id : ℕ) → id ≢ peer → other id ≡ core id

-- what they say of that id
pub record Tells (peer : ℕ) (members placed : List ℕ) (core : ℕ → Core) (now : PlacedPeer) : Type 0 where
  pub belongs : is_among peer members ≡ now.is_member
  pub stands : is_among peer placed ≡ true
  pub is : core peer ≡ core_of now.core

pub written : (m n : Peers) (peer : ℕ) (now : PlacedPeer) (members others placed others_placed : List ℕ) (core other : ℕ → Core)
    → IsWritten m n peer now → DiffersAt peer members others placed others_placed core other → Tells peer others others_placed other now
    → HoldsPeers m members placed core → HoldsPeers n others others_placed other
written m n peer now members others placed others_placed core other w d t h = record {
  belong = λ id. elim (same_or_apart nat_keys id peer) as (λ _. is_among id others ≡ is_member_at (get n id)) [
    | inl same ↦ subst (λ (x : ℕ). is_among x others ≡ is_member_at (get n x)) (sym same) (t.belongs ∙ sym (ap is_member_at w.here))
    | inr apart ↦ d.belong id (λ same. not_apart nat_keys id peer same apart) ∙ h.belong id ∙ sym (ap is_member_at (w.others id apart))
  ];
  stand = λ id. elim (same_or_apart nat_keys id peer) as (λ _. is_among id others_placed ≡ is_some (get n id)) [
    | inl same ↦ subst (λ (x : ℕ). is_among x others_placed ≡ is_some (get n x)) (sym same) (t.stands ∙ sym (ap is_some w.here))
    | inr apart ↦ d.stand id (λ same. not_apart nat_keys id peer same apart) ∙ h.stand id ∙ sym (ap is_some (w.others id apart))
  ];
  are = λ id. elim (same_or_apart nat_keys id peer) as (λ _. other id ≡ core_at id (get n id)) [
    | inl same ↦ subst (λ (x : ℕ). other x ≡ core_at x (get n x)) (sym same) (t.is ∙ sym (ap (core_at peer) w.here))
    | inr apart ↦ d.are id (λ same. not_apart nat_keys id peer same apart) ∙ h.are id ∙ sym (ap (core_at id) (w.others id apart))
  ];
}

-- messages that leave may be taken as those that were sent before
pub sent_on : (from : ℕ) (sent : List Sent) (sends : Sends) → AreSent sent → AreMessages sends → AreSent (sent ++ map (sent_by from) sends)
sent_on from sent sends are leave =
    all_both (λ (s : Sent). IsMessage s.message) sent (map (sent_by from) sends) are
    (all_through-map (λ (send : ℕ × RaftMsg). IsMessage send.1) (λ (s : Sent). IsMessage s.message) (sent_by from) (λ send is. is) sends leave)

-- ---- a member's state

pub set_here : (core : ℕ → Core) (peer : ℕ) (behind : Core) → core_set core peer behind peer ≡ behind
set_here core peer behind = cond-true (peer == peer) behind (core peer) (eq-eqb peer peer refl)

pub set_apart : (core : ℕ → Core) (peer id : ℕ) (behind : Core) → id ≢ peer → core_set core peer behind id ≡ core id
set_apart core peer id behind ne = cond-false (id == peer) behind (core id) (ne_eqb id peer ne)

-- a member stands in the map, and has another state behind its step
pub record IsMember (m : Peers) (peer : ℕ) (was : PlacedPeer) : Type 0 where
  pub there : get m peer ≡ Some was
  pub member : is_member_at (get m peer) ≡ true

with_state : (m : Peers) (members placed : List ℕ) (core : ℕ → Core) (peer : ℕ) (was now : PlacedPeer) (behind : Core)
    → HoldsPeers m members placed core → IsMember m peer was → now.is_member ≡ was.is_member → behind ≡ core_of now.core
    → HoldsPeers (insert (remove m peer) peer now) members placed (core_set core peer behind)
with_state m members placed core peer was now behind h is same state =
    written m (insert (remove m peer) peer now) peer now members members placed placed core (core_set core peer behind) (put_back m peer now)
    (record { belong = λ id ne. refl; stand = λ id ne. refl; are = λ id ne. set_apart core peer id behind ne })
    (record {
      belongs = h.belong peer ∙ ap is_member_at is.there ∙ sym same;
      stands = h.stand peer ∙ ap is_some is.there;
      is = set_here core peer behind ∙ state;
    })
    h

module _ (held : program.Group) (g : Group) (h : Holds held g) (peer : ℕ) where
  state_of : (was : PlacedPeer) → IsMember held.peers peer was → g.core peer ≡ core_of was.core
  state_of was is = h.peers.are peer ∙ ap (core_at peer) is.there

  -- nothing happens at who is no member
  absent : (behind : Group) → is_member_at (get held.peers peer) ≡ false → Holds held (at_member g peer behind)
  absent behind none = subst (Holds held) (sym (cond-false (is_among peer g.members) behind g (h.peers.belong peer ∙ none))) h

  present : (was : PlacedPeer) (new : program.Group) (behind : Group) → IsMember held.peers peer was → Holds new behind → Holds new (at_member g peer behind)
  present was new behind is there = subst (Holds new) (sym (cond-true (is_among peer g.members) behind g (h.peers.belong peer ∙ is.member))) there

  input_is : (spur : Spur) (input : Option RaftInput) → input_from held.sent peer spur ≡ input → input_of g peer spur ≡ input
  input_is spur input e = ap (λ s. input_from s peer spur) (sym h.sent) ∙ e

  still_there : Holds held (at_member g peer g)
  still_there = cond_both (is_among peer g.members) g g (Holds held) (λ _. h) (λ _. h)

  -- ---- steps

  pub step_none : (spur : Spur) → input_from held.sent peer spur ≡ None → Holds held (after g (Step peer spur))
  step_none spur e = subst (λ (o : Option RaftInput). Holds held (at_member g peer (took g peer o))) (sym (input_is spur None e)) still_there

  pub step_absent : (spur : Spur) → is_member_at (get held.peers peer) ≡ false → Holds held (after g (Step peer spur))
  step_absent spur none = absent (took g peer (input_of g peer spur)) none

  pub step_taken : (spur : Spur) (input : RaftInput) (was now : PlacedPeer) (sends : Sends) (new : program.Group)
      → input_from held.sent peer spur ≡ Some input → IsMember held.peers peer was → now.is_member ≡ was.is_member
      → core_of now.core ≡ (stepped (core_of was.core) input).core → sends ≡ (stepped (core_of was.core) input).sends
      → new.peers ≡ insert (remove held.peers peer) peer now → new.sent ≡ held.sent ++ map (sent_by peer) sends
      → new.decided ≡ decided_after held.decided (core_of now.core)
      → Holds new (after g (Step peer spur))
  step_taken spur input was now sends new e is same state out peers sent decided =
      let st = stepped (g.core peer) input in
      let from = ap (λ (c : Core). stepped c input) (state_of was is) in
      let behind : st.core ≡ core_of now.core = ap (λ s. s.core) from ∙ sym state in
      let step : Holds new (with_step g peer st) = record {
        peers = subst (λ m. HoldsPeers m g.members g.placed (core_set g.core peer st.core)) (sym peers) (with_state held.peers g.members g.placed g.core peer was now st.core h.peers is same behind);
        sent = sent ∙ ap (λ s. s ++ map (sent_by peer) sends) h.sent ∙ ap (λ s. g.sent ++ map (sent_by peer) s) (out ∙ sym (ap (λ s. s.sends) from));
        decided = decided ∙ ap (λ d. decided_after d (core_of now.core)) h.decided ∙ ap (decided_after g.decided) (sym behind);
      } in
      present was new (took g peer (input_of g peer spur)) is (subst (λ (o : Option RaftInput). Holds new (took g peer o)) (sym (input_is spur (Some input) e)) step)

  -- ---- crashes

  -- a member has another state, and all else is as it was
  in_state : (was now : PlacedPeer) (new : program.Group) (behind : Core)
      → IsMember held.peers peer was → now.is_member ≡ was.is_member → behind ≡ core_of now.core
      → new.peers ≡ insert (remove held.peers peer) peer now → new.sent ≡ held.sent → new.decided ≡ held.decided
      → HoldsPeers new.peers g.members g.placed (core_set g.core peer behind) × ((new.sent ≡ g.sent) × (new.decided ≡ g.decided))
  in_state was now new behind is same state peers sent decided = (
    subst (λ m. HoldsPeers m g.members g.placed (core_set g.core peer behind)) (sym peers) (with_state held.peers g.members g.placed g.core peer was now behind h.peers is same state),
    (sent ∙ h.sent, decided ∙ h.decided),
  )

  pub stop_none : (spur : Spur) (kept : Bool) → input_from held.sent peer spur ≡ None → Holds held (after g (StepCrash peer spur kept))
  stop_none spur kept e = subst (λ (o : Option RaftInput). Holds held (at_member g peer (stopped g peer o kept))) (sym (input_is spur None e)) still_there

  pub stop_absent : (spur : Spur) (kept : Bool) → is_member_at (get held.peers peer) ≡ false → Holds held (after g (StepCrash peer spur kept))
  stop_absent spur kept none = absent (stopped g peer (input_of g peer spur) kept) none

  stop_by : (kept : Bool) (input : RaftInput) (was now : PlacedPeer) (new : program.Group)
      → IsMember held.peers peer was → now.is_member ≡ was.is_member → core_of now.core ≡ stopped_by (core_of was.core) input kept
      → new.peers ≡ insert (remove held.peers peer) peer now → new.sent ≡ held.sent → new.decided ≡ held.decided
      → Holds new (stopped g peer (Some input) kept)
  stop_by true input was now new is same state peers sent decided =
      let left : crashed (stepped (g.core peer) input).core ≡ core_of now.core = ap (λ (c : Core). crashed (stepped c input).core) (state_of was is) ∙ sym state in
      let all = in_state was now new (crashed (stepped (g.core peer) input).core) is same left peers sent decided in
      record { peers = all.0; sent = all.1.0; decided = all.1.1 }
  stop_by false input was now new is same state peers sent decided =
      let left : crashed (g.core peer) ≡ core_of now.core = ap crashed (state_of was is) ∙ sym state in
      let all = in_state was now new (crashed (g.core peer)) is same left peers sent decided in
      record { peers = all.0; sent = all.1.0; decided = all.1.1 }

  pub stop_taken : (spur : Spur) (kept : Bool) (input : RaftInput) (was now : PlacedPeer) (new : program.Group)
      → input_from held.sent peer spur ≡ Some input → IsMember held.peers peer was → now.is_member ≡ was.is_member
      → core_of now.core ≡ stopped_by (core_of was.core) input kept
      → new.peers ≡ insert (remove held.peers peer) peer now → new.sent ≡ held.sent → new.decided ≡ held.decided
      → Holds new (after g (StepCrash peer spur kept))
  stop_taken spur kept input was now new e is same state peers sent decided =
      present was new (stopped g peer (input_of g peer spur) kept) is
      (subst (λ (o : Option RaftInput). Holds new (stopped g peer o kept)) (sym (input_is spur (Some input) e)) (stop_by kept input was now new is same state peers sent decided))

  pub crash_absent : is_member_at (get held.peers peer) ≡ false → Holds held (after g (Crash peer))
  crash_absent none = absent (with_crash g peer) none

  pub crash_taken : (was now : PlacedPeer) (new : program.Group)
      → IsMember held.peers peer was → now.is_member ≡ was.is_member → core_of now.core ≡ crashed (core_of was.core)
      → new.peers ≡ insert (remove held.peers peer) peer now → new.sent ≡ held.sent → new.decided ≡ held.decided
      → Holds new (after g (Crash peer))
  crash_taken was now new is same state peers sent decided =
      let left : crashed (g.core peer) ≡ core_of now.core = ap crashed (state_of was is) ∙ sym state in
      let all = in_state was now new (crashed (g.core peer)) is same left peers sent decided in
      present was new (with_crash g peer) is (record { peers = all.0; sent = all.1.0; decided = all.1.1 })

  -- ---- who comes, and who goes

  pub place_zero : peer ≡ 0 → Holds held (after g (Place peer))
  place_zero zero =
      let no : may_place g peer ≡ false = ap (λ n. nat_lt 0 n && not (is_among n g.placed)) zero in
      subst (Holds held) (sym (cond-false (may_place g peer) (with_peer g peer) g no)) h

  pub place_again : is_some (get held.peers peer) ≡ true → Holds held (after g (Place peer))
  place_again stands =
      let there : is_among peer g.placed ≡ true = h.peers.stand peer ∙ stands in
      let no : may_place g peer ≡ false = ap (λ b. nat_lt 0 peer && not b) there ∙ and_none (nat_lt 0 peer) in
      subst (Holds held) (sym (cond-false (may_place g peer) (with_peer g peer) g no)) h
    where
      and_none : (b : Bool) → (b && false) ≡ false
      and_none true = refl
      and_none false = refl

  pub place_taken : (now : PlacedPeer) (new : program.Group)
      → nat_lt 0 peer ≡ true → is_some (get held.peers peer) ≡ false → now.is_member ≡ true → core_of now.core ≡ blank peer
      → new.peers ≡ insert held.peers peer now → new.sent ≡ held.sent → new.decided ≡ held.decided
      → Holds new (after g (Place peer))
  place_taken now new above fresh member state peers sent decided =
      let there : is_among peer g.placed ≡ false = h.peers.stand peer ∙ fresh in
      let may : may_place g peer ≡ true = ap (λ b. nat_lt 0 peer && not b) there ∙ ap (λ b. b && true) above in
      let placed : Holds new (with_peer g peer) = record {
        peers = subst (λ m. HoldsPeers m (put_among peer g.members) (put_among peer g.placed) (core_set g.core peer (blank peer))) (sym peers)
            (written held.peers (insert held.peers peer now) peer now g.members (put_among peer g.members) g.placed (put_among peer g.placed) g.core (core_set g.core peer (blank peer))
            (put_in held.peers peer now)
            (record { belong = λ id ne. same_put peer id g.members ne; stand = λ id ne. same_put peer id g.placed ne; are = λ id ne. set_apart g.core peer id (blank peer) ne })
            (record { belongs = put_there peer g.members ∙ sym member; stands = put_there peer g.placed; is = set_here g.core peer (blank peer) ∙ sym state })
            h.peers);
        sent = sent ∙ h.sent;
        decided = decided ∙ h.decided;
      } in
      subst (Holds new) (sym (cond-true (may_place g peer) (with_peer g peer) g may)) placed

  pub wipe_absent : is_member_at (get held.peers peer) ≡ false → Holds held (after g (Wipe peer))
  wipe_absent none = absent _ none

  pub wipe_kept : is_member peer (config_of held.decided) ≡ true → Holds held (after g (Wipe peer))
  wipe_kept stays =
      let no : may_wipe g peer ≡ false = ap (λ d. not (is_member peer (config_of d))) (sym h.decided) ∙ ap not stays in
      subst (λ (x : Group). Holds held (at_member g peer x)) (sym (cond-false (may_wipe g peer) (without_peer g peer) g no)) still_there

  none_left : (ids : List ℕ) → is_among peer (but peer ids) ≡ false
  none_left [] = refl
  none_left (o ∷ ids) = go (o == peer) refl (none_left ids)
    where
      go : (b : Bool) → o == peer ≡ b → is_among peer (but peer ids) ≡ false → is_among peer (cond (not b) (o ∷ but peer ids) (but peer ids)) ≡ false
      go true same rest = rest
      go false off rest = ap (λ b. b || is_among peer (but peer ids)) off ∙ rest

  pub wipe_taken : (was now : PlacedPeer) (new : program.Group)
      → is_member peer (config_of held.decided) ≡ false → IsMember held.peers peer was → now.is_member ≡ false → now.core ≡ was.core
      → new.peers ≡ insert (remove held.peers peer) peer now → new.sent ≡ held.sent → new.decided ≡ held.decided
      → Holds new (after g (Wipe peer))
  wipe_taken was now new gone is member same peers sent decided =
      let may : may_wipe g peer ≡ true = ap (λ d. not (is_member peer (config_of d))) (sym h.decided) ∙ ap not gone in
      let wiped : Holds new (without_peer g peer) = record {
        peers = subst (λ m. HoldsPeers m (but peer g.members) g.placed g.core) (sym peers)
            (written held.peers (insert (remove held.peers peer) peer now) peer now g.members (but peer g.members) g.placed g.placed g.core g.core
            (put_back held.peers peer now)
            (record { belong = λ id ne. same_but peer id g.members ne; stand = λ id ne. refl; are = λ id ne. refl })
            (record { belongs = none_left g.members ∙ sym member; stands = h.peers.stand peer ∙ ap is_some is.there; is = state_of was is ∙ sym (ap core_of same) })
            h.peers);
        sent = sent ∙ h.sent;
        decided = decided ∙ h.decided;
      } in
      present was new _ is (subst (Holds new) (sym (cond-true (may_wipe g peer) (without_peer g peer) g may)) wiped)
