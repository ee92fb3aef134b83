-- What a program makes ahead of a step that the Raft peer takes is what the step makes.
use Rattle.std.proofs.Common.{◌≡◌, ℕ, suc, ◌+◌, ◌-◌, ◌<◌, ◌^◌, Bool, true, List, [], ◌++◌, map, length, take, Option, None, refl, ap, sym, subst, ◌∙◌, arith}
use Rattle.std.specs.Prelude.{◌==◌, ◌&&◌, if◌then◌else◌}
use Rattle.std.specs.List.{filter, list_any}
use Rattle.std.specs.Option.{option_to_list}
use Rattle.std.proofs.lemmas.List.{length-append, length-drop, length-take-le}
use Rattle.kv_part.specs.Store.{Contents}
use Rattle.raft_log.specs.declared.entry.Entry.{Entry}
use Rattle.raft_log.specs.Config.{AreEntries}
use Rattle.raft_core.specs.Core.{Core, is_leading}
use Rattle.raft_core.specs.Durable.{durable, kept}
use Rattle.raft_core.specs.Laws.{IsPeer, KeptIsAll, Commits, KeepsDecided}
use Rattle.raft_core.specs.Outcome.{stepped_by}
use Rattle.raft_core.specs.Peer.{core_of, core_next, IsNextBy}
use Rattle.raft_core.specs.Step.{Stepped as RaftStepped, stepped as raft_stepped}
use Rattle.raft_core.specs.declared.effects.RaftEffects.{RaftEffects}
use Rattle.raft_core.specs.declared.input.RaftInput.{RaftInput}
use Rattle.raft_core.specs.declared.next_peer.NextPeer.{NextPeer}
use Rattle.chain_leader.specs.Leading.{pulsed}
use Rattle.chain_leader.specs.declared.letter.Letter.{Letter}
use Rattle.replica_model.specs.Asks.{are_entries}
use Rattle.replica_model.specs.Letters.{packets_of}
use Rattle.replica_model.specs.Replica.{Home, Row, Replica, no_hints, machine_of}
use Rattle.replica_model.specs.Stepped.{Viewed, leaving, leads_on, keeps_rows, is_confirmed, answer_row, message_of, again_of, raft_step}
use Rattle.replica_model.specs.declared.input.Input.{Input}
use Rattle.replica_model.specs.declared.packet.Place.{Place}
use Rattle.replica_state.specs.Asked.{ruled}
use Rattle.replica_state.specs.Leaving.{leaving_of}
use Rattle.replica_state.specs.State.{row_of}
use Rattle.replica_state.specs.declared.asked.Rule.{Rule}
use Rattle.replica_state.specs.declared.leaving.Leaving.{Leaving}
use Rattle.replica_state.specs.declared.told.Told.{Told}
use Rattle.replica_state.specs.declared.waiting.WaitingRead.{WaitingRead}
use Rattle.replica_peer.specs.Along.{IsWorked}
use Rattle.replica_peer.specs.Next.{core_behind, senders_left, reads_left, FitsSteps}
use Rattle.replica_peer.specs.Peer.{home_of, replica_of, IsReplica}
use Rattle.replica_peer.specs.Placed.{senders_behind}
use Rattle.replica_peer.specs.Room.{HoldsEntries, IsRoomOf, IsSame}
use Rattle.replica_peer.specs.Stages.{told_by, row_begun, ready_left, policy_left, appended_at, IsTold}
use Rattle.replica_peer.specs.Worked.{entries_at, Sent, sent_where}
use Rattle.replica_peer.specs.declared.next.Next.TheVariants as next
use Rattle.replica_peer.specs.declared.next.Steps.{Steps}
use Rattle.replica_peer.specs.declared.onward.Onward.{Onward}
use Rattle.replica_peer.specs.declared.peer.Peer.{Peer}
use Rattle.replica_peer.specs.declared.worked.WorkedAhead.{WorkedAhead}
use Rattle.replica_peer.proofs.Owned.{between_are, holds}
use Rattle.replica_peer.proofs.Planned.{same_sound}
use Rattle.replica_peer.proofs.Staged.{told_about, row_is, ready_is, policy_is, senders_put, senders_seen}
use Rattle.replica_peer.proofs.Stepping.{IsOnward, IsAhead, items, first, says, senders_now, lead_left, rows_now, step_room}

module _ (home : Home) (r : Replica) (st : RaftStepped) (i : Input) (rule : Rule) (sender : Option Place) (viewed : Option Viewed) (at : Onward) (told : Told) where
  -- what is seen at once of the step
  pub record IsSeen : Type 0 where
    pub on : at.on ≡ leads_on r.core st.core
    pub leads : at.leads ≡ is_leading st.core.role
    pub keeps : at.keeps ≡ keeps_rows r.core st.core
    pub ready : at.ready ≡ ready_left at.on r.lead.ready
    pub policy : at.policy ≡ policy_left at.on st.began r.lead.policy told.policy
    pub appended : at.appended ≡ appended_at at.on (length st.core.log) sender
    pub by : at.by ≡ record { part = home.part; me = r.core.me; term = st.core.term }

  -- what is sent of the entries
  abbrev pub sent_at : Sent
  sent_at = sent_where at.leads home at.by.me at.by.term (senders_behind at.on at.appended r.senders) (machine_of home r) at.ready (first home r st) (items home r st)

  -- what leaves behind that
  abbrev pub IsLeftBehind : Replica → WorkedAhead → Option WaitingRead → List Leaving → Type 0
  IsLeftBehind x w begun leaves = map leaving_of leaves ≡ map leaving_of w.leaves
      ++ map (answer_row at.by.part at.by.me) (filter (is_confirmed st.confirmed) (if at.keeps then x.rows ++ map row_of (option_to_list begun) else []))
      ++ map leaving (packets_of at.by.part at.by.me at.by.term (if at.on then x.hints else no_hints) None (w.rules.items ++ (if at.on && told.pulses then pulsed x.lead else [])))

  -- what is made of it
  pub record IsMade (w : WorkedAhead) (begun : Option WaitingRead) (s : Steps) (leaves : List Leaving) : Type 0 where
    pub core : core_behind r.core s.core ≡ st.core
    pub on : s.on ≡ at.on
    pub rules : s.rule ≡ rule
    pub policy : s.policy ≡ at.policy
    pub ready : s.ready ≡ w.ready
    pub appended : s.sender ≡ at.appended
    pub reads : (rows : List Row) → reads_left s.reads rows ≡ (if at.keeps then rows ++ map row_of (option_to_list begun) else [])
    pub confirmed : s.confirmed ≡ st.confirmed
    pub placed : s.placed ≡ entries_at (first home r st) (items home r st)
    pub begins : s.begins.items ≡ w.begins.items
    pub tells : s.told.items ≡ told_by w.rules.items
    pub round : map row_of (option_to_list begun) ≡ row_begun viewed r.core.round st.core.round
    pub worked : IsWorked (map leaving (map (message_of at.by.part at.by.me) st.sends)) sent_at w
    pub left : IsLeftBehind r w begun leaves

  pub ahead : IsTold i told → IsSeen → (w : WorkedAhead) (begun : Option WaitingRead) (s : Steps) (leaves : List Leaving) → IsMade w begun s leaves → IsAhead home r st i rule sender viewed s leaves
  ahead telling seen w begun s leaves made =
      let on : Bool = leads_on r.core st.core in
      let last : ℕ = length st.core.log in
      let all : Sent = says home r st i rule sender viewed in
      let senders : senders_behind at.on at.appended r.senders ≡ senders_now home r st i rule sender viewed =
      ap (λ a. senders_behind at.on a r.senders) seen.appended
      ∙ ap (λ (b : Bool). senders_behind b (appended_at b last sender) r.senders) seen.on
      ∙ senders_seen on sender last r.senders in
      let ready : at.ready ≡ (lead_left home r st i rule sender viewed).ready =
      seen.ready ∙ ap (λ (b : Bool). ready_left b r.lead.ready) seen.on ∙ ready_is on rule r.lead _ in
      let all_is : sent_at ≡ all = λ j. sent_where (seen.leads j) home (seen.by j).me (seen.by j).term (senders j) (machine_of home r) (ready j) (first home r st) (items home r st) in
      let rows : (if at.keeps then r.rows ++ map row_of (option_to_list begun) else []) ≡ rows_now home r st i rule sender viewed =
      λ j. if seen.keeps j then r.rows ++ (made.round ∙ row_is viewed r.core st.core) j else [] in
      let rules : w.rules.items ≡ all.rules = made.worked.rules ∙ ap (λ (x : Sent). x.rules) all_is in
      let leaves : map leaving_of w.leaves ≡ map leaving (map (message_of home.part r.core.me) st.sends) ++ map leaving all.answers =
      made.worked.leaves ∙ (λ j. map leaving (map (message_of (seen.by j).part (seen.by j).me) st.sends) ++ map leaving (all_is j).answers) in
      let again : (if at.on && told.pulses then pulsed r.lead else []) ≡ again_of on r.lead i = sym (telling.again r.lead at.on) ∙ ap (λ (b : Bool). again_of b r.lead i) seen.on in
      record {
        core = made.core;
        leads = made.on ∙ seen.on;
        rules = made.rules;
        policy = made.policy ∙ seen.policy ∙ ap (λ (b : Bool). policy_left b st.began r.lead.policy told.policy) seen.on ∙ policy_is on st.began rule r.lead told.policy i telling.policy;
        ready = made.ready ∙ made.worked.ready ∙ ap (λ (x : Sent). x.ready) all_is;
        senders = (λ j. senders_left (made.on j) (made.appended j) r.senders)
            ∙ ap (λ a. senders_left at.on a r.senders) seen.appended
            ∙ ap (λ (b : Bool). senders_left b (appended_at b last sender) r.senders) seen.on
            ∙ senders_put on sender last r.senders;
        rows = made.reads r.rows ∙ rows;
        confirmed = made.confirmed;
        placed = made.placed;
        begins = made.begins ∙ made.worked.begins ∙ ap (λ (x : Sent). x.begins) all_is;
        told = λ v. ap (λ (ls : List ℕ). list_any (λ w. v == w) ls) made.tells ∙ ap (λ (ls : List Letter). list_any (λ w. v == w) (told_by ls)) rules ∙ told_about all.rules v;
        left = made.left ∙ (λ j. leaves j
            ++ map (answer_row (seen.by j).part (seen.by j).me) (filter (is_confirmed st.confirmed) (rows j))
            ++ map leaving (packets_of (seen.by j).part (seen.by j).me (seen.by j).term (if seen.on j then r.hints else no_hints) None (rules j ++ again j)));
      }

module _ {S : Type 0} (a : Peer S) (asked : RaftInput) (effects : RaftEffects) (behind : NextPeer) (by : IsNextBy a.state.core asked effects behind) where
  abbrev pub st_of : RaftStepped
  st_of = stepped_by (core_next (core_of a.state.core).log behind) effects

  -- what holds of a step of the peer, from what it was before
  pub record HasLaws : Type 0 where
    pub peer : IsPeer (replica_of a).core
    pub are : AreEntries (replica_of a).core.log
    pub all : KeptIsAll (replica_of a).core (raft_stepped (replica_of a).core asked)
    pub commits : Commits (replica_of a).core (raft_stepped (replica_of a).core asked)
    pub decided : KeepsDecided (replica_of a).core (raft_stepped (replica_of a).core asked)
    pub own : are_entries (home_of a) st_of.core.log ≡ true

  pub laws_of : IsPeer (replica_of a).core → AreEntries (replica_of a).core.log
      → ((core : Core) (input : RaftInput) → IsPeer core → KeptIsAll core (raft_stepped core input)) → ((core : Core) (input : RaftInput) → IsPeer core → Commits core (raft_stepped core input))
      → ((core : Core) (input : RaftInput) → IsPeer core → KeepsDecided core (raft_stepped core input)) → are_entries (home_of a) st_of.core.log ≡ true → HasLaws
  laws_of peer are all commits decided own = record {
    peer = peer;
    are = are;
    all = all (replica_of a).core asked peer;
    commits = commits (replica_of a).core asked peer;
    decided = decided (replica_of a).core asked peer;
    own = own;
  }

  onward_of : HasLaws → IsOnward (home_of a) (replica_of a) st_of
  onward_of laws =
      let commits = subst (Commits (replica_of a).core) (sym by.is) laws.commits in
      record {
        inside = laws.peer.within;
        rises = commits.falls_not;
        within = commits.within;
        between = commits.between;
        decided = subst (KeepsDecided (replica_of a).core) (sym by.is) laws.decided;
      }

  -- what is committed stands in the log of the part, and not too far in it
  pub committed_are : HasLaws → are_entries (home_of a) effects.committed ≡ true
  committed_are laws =
      ap (are_entries (home_of a)) (onward_of laws).between
      ∙ between_are (home_of a) (replica_of a).core.commit st_of.core.commit st_of.core.log laws.own

  pub committed_small : HasLaws → length (replica_of a).core.log < 2 ^ 63 → length behind.entries.items < 2 ^ 63 → suc (replica_of a).core.commit + length effects.committed < 2 ^ 64
  committed_small laws log more =
      let on = onward_of laws in
      let rises = on.rises in
      let within = on.within in
      let count : length effects.committed ≡ st_of.core.commit - (replica_of a).core.commit =
      ap length on.between
      ∙ length-drop (replica_of a).core.commit (take st_of.core.commit st_of.core.log)
      ∙ ap (λ n. n - (replica_of a).core.commit) (length-take-le st_of.core.commit st_of.core.log on.within) in
      let long : length st_of.core.log ≡ behind.keep + length behind.entries.items =
      length-append (take behind.keep (replica_of a).core.log) behind.entries.items
      ∙ ap (λ n. n + length behind.entries.items) (length-take-le behind.keep (replica_of a).core.log by.within) in
      let keep = by.within in
      omega arith

module _ {S : Type 0} (meaning : S → Contents) (has_at : S → List ℕ → Bool) (a b : Peer S) (sound : IsReplica meaning has_at a) (same : IsSame meaning has_at a b) where
  -- a room holds the step of what a peer was, where it stayed the same
  abbrev RoomOf : RaftStepped → Input → Rule → Option Place → Option Viewed → Steps → List Leaving → Home × Replica → Type 0
  RoomOf st i rule sender viewed s leaves x =
      IsOnward x.0 x.1 st → durable st.core ≡ kept (durable x.1.core) st.kept → are_entries x.0 st.core.log ≡ true → IsAhead x.0 x.1 st i rule sender viewed s leaves
      → IsRoomOf meaning has_at b (raft_step x.0 x.1 i st (ruled rule x.1.lead) sender viewed) (record { kept = st.kept; leaves = leaves; change = st.change; next = next.Steps s })

  pub same_room : (st : RaftStepped) → HoldsEntries st.kept → (i : Input) (rule : Rule) (sender : Option Place) (viewed : Option Viewed) (s : Steps) (leaves : List Leaving) → FitsSteps meaning has_at b s
      → RoomOf st i rule sender viewed s leaves (home_of a, replica_of a)
  same_room st holding i rule sender viewed s leaves fits =
      subst (RoomOf st i rule sender viewed s leaves) (λ j. (same.home j, same.replica j))
      (λ onward lasts entries is. step_room meaning has_at b (same_sound meaning has_at a b sound same) st onward lasts holding entries i rule sender viewed s leaves is fits)

  pub taken_room : (asked : RaftInput) (effects : RaftEffects) (behind : NextPeer) (by : IsNextBy a.state.core asked effects behind) → HasLaws a asked effects behind by → (i : Input) (rule : Rule) (sender : Option Place) (viewed : Option Viewed) (s : Steps) (leaves : List Leaving) → IsAhead (home_of a) (replica_of a) (st_of a asked effects behind by) i rule sender viewed s leaves → FitsSteps meaning has_at b s
      → IsRoomOf meaning has_at b (raft_step (home_of a) (replica_of a) i (raft_stepped (replica_of a).core asked) (ruled rule (replica_of a).lead) sender viewed) (record { kept = effects.kept; leaves = leaves; change = effects.change; next = next.Steps s })
  taken_room asked effects behind by laws i rule sender viewed s leaves is fits =
      let st : RaftStepped = st_of a asked effects behind by in
      let lasts = subst (KeptIsAll (replica_of a).core) (sym by.is) laws.all in
      let log : List Entry = (replica_of a).core.log in
      subst (λ (x : RaftStepped). IsRoomOf meaning has_at b (raft_step (home_of a) (replica_of a) i x (ruled rule (replica_of a).lead) sender viewed) (record { kept = effects.kept; leaves = leaves; change = effects.change; next = next.Steps s })) by.is
      (same_room st (holds log behind.entries.items behind.keep st.core (durable (replica_of a).core) effects.kept laws.are by.items refl lasts) i rule sender viewed s leaves fits (onward_of a asked effects behind by laws) lasts laws.own is)
