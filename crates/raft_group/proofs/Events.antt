-- Each event keeps the invariant.
use Rattle.std.proofs.Common.{◌≡◌, ◌⊎◌, inl, inr, ℕ, zero, suc, ◌<◌, List, [], ◌∷◌, length, map, take, drop, length-append, ◌&&◌, Option, Some, None, Bool, true, false, not, refl, ap, sym, subst, ◌∙◌, arith, eqb-true, append-nil}
use Rattle.std.specs.Prelude.{◌==◌, nat_lt, slice_get}
use Rattle.std.specs.List.{AllByRecursion}
use Rattle.std.proofs.lemmas.Bool.{cond_both, cond-true, cond-false, eq-eqb, and_parts, ne_eqb, ltb-true, not-true, cases_Bool, true≢false}
use Rattle.std.proofs.lemmas.Option.{same_Some, none-some}
use Rattle.raft_log.specs.declared.config.Config.{Config}
use Rattle.raft_log.specs.declared.entry.Entry.{Entry}
use Rattle.raft_log.specs.Majority.{is_among}
use Rattle.raft_core.specs.declared.input.RaftInput.{RaftInput}
use Rattle.raft_core.specs.Core.{Core, Made, is_leading}
use Rattle.raft_core.specs.Appends.{led}
use Rattle.raft_core.specs.Step.{stepped, made_of}
use Rattle.raft_core.specs.Durable.{crashed}
use Rattle.raft_history.specs.Logs.{Agree}
use Rattle.raft_log.specs.Decided.{Leadership}
use Rattle.raft_log.specs.declared.entry.Item.{Item}
use Rattle.member_change.specs.Permit.{member_in}
use Rattle.raft_history.specs.History.{Grows}
use Rattle.raft_group.specs.declared.event.Spur.{Spur}
use Rattle.raft_group.specs.declared.event.Spur.TheVariants.{Sent as SentSpur, Elect, Pulse, Propose, Transfer, Change, Confirm}
use Rattle.raft_group.specs.declared.event.GroupEvent.{GroupEvent}
use Rattle.raft_group.specs.declared.event.GroupEvent.TheVariants.{Step, StepCrash, Crash, Place, Wipe}
use Rattle.raft_log.specs.Peers.{put_among}
use Rattle.std.proofs.lemmas.List.{take-append-le}
use Rattle.raft_group.specs.Group.{Sent, Round, Group, decided_after, blank, start, with_peer, without_peer, may_place, may_wipe, core_set, sent_by, with_step, with_stop, with_crash, leaders_after, sent_to, input_of, at_member, took, stopped, after, run_from, run, peer_of}
use Rattle.raft_group.specs.Invariant.{Past, IsHeld, IsMeant, IsSaid, Invariant, IsFirst, ArePlaced, AreLed}
use Rattle.raft_group.specs.Sound.{IsSound}
use Rattle.raft_group.specs.Rounds.{IsOfRound, AreRounds}
use Rattle.raft_group.proofs.Rounding.{IsHeard, unled_rounds, step_rounds}
use Rattle.raft_history.proofs.Agreement.{agree_itself}
use Rattle.raft_group.proofs.Led.{led_behind}
use Rattle.raft_group.proofs.Stepping.{Holds, IsDecidedBy, Shifts, set_own, stands_still, grows_twice, begins, held_here, quietly, sends_on}
use Rattle.raft_group.proofs.Quiet.{held_crashed}
use Rattle.raft_group.proofs.Members.{among_put, put_there, put_keeps, but_among}
use Rattle.raft_group.proofs.Messages.{IsTaken, ends_rules, ends_step}
use Rattle.raft_group.proofs.Starting.{starts}

-- what is decided behind a step begins with what was decided
decided_begins : (decided : List Entry) (behind : Core) → Agree decided (decided_after decided behind) (length decided)
decided_begins decided behind = cond_both (is_leading behind.role && nat_lt (length decided) behind.commit) _ decided (λ more. Agree decided more (length decided))
    (λ longer. (let n = length-append decided (drop (length decided) (take behind.commit behind.log)) in record {
      left = omega arith;
      right = omega arith;
      same = sym (take-append-le (length decided) decided (drop (length decided) (take behind.commit behind.log)) (omega arith));
    }))
    (λ no. agree_itself decided (length decided) (omega arith))

-- a message that was sent holds what all do
all_get : {A : Type 0} (P : A → Type 0) (xs : List A) (k : ℕ) (x : A) → AllByRecursion P xs → slice_get xs k ≡ Some x → P x
all_get P [] k x all e = absurd (none-some x e)
all_get P (y ∷ xs) zero x all e = subst P (same_Some y x e) all.0
all_get P (y ∷ xs) (suc k) x all e = all_get P xs k x all.1 e

-- What an event at a peer leaves: the invariant, with a history that grew; and what is newly decided is decided by a
-- leader of the peer's term.
pub record Goes (first : Config) (g : Group) (sound : IsSound first g) (peer : ℕ) (behind : Group) : Type 0 where
  pub sound_behind : IsSound first behind
  pub grows : Grows sound.past sound_behind.past
  pub by : (behind.decided ≡ g.decided) ⊎ IsDecidedBy sound_behind.past (behind.core peer).term behind.decided

module _ (first : Config) (g : Group) (sound : IsSound first g) where
  -- nothing happens
  stays_as_is : (peer : ℕ) → Goes first g sound peer g
  stays_as_is peer = record { sound_behind = sound; grows = (stands_still sound.past peer).grows; by = inl refl }

  -- what holds of the input of a spur
  abbrev IsTakenIf : ℕ → Option RaftInput → Type 0
  IsTakenIf peer None = Unit {0}
  IsTakenIf peer (Some input) = ((above : 0 < peer) → IsTaken first g.core g.sent peer above g.decided sound.past input) × IsHeard sound.rounds.begun input

  sent_taken : (peer : ℕ) (o : Option Sent) → ((s : Sent) → o ≡ Some s → IsSaid sound.past g.decided s) → ((s : Sent) → o ≡ Some s → IsOfRound sound.rounds.begun s.from s.message) → IsTakenIf peer (sent_to peer o)
  sent_taken peer None said rounds = tt
  sent_taken peer (Some s) said rounds = cond_both (s.to == peer) _ _ (IsTakenIf peer)
      (λ same. (λ above. (let m = said s refl in (m.sender, subst (λ to. IsMeant sound.past g.decided s.from to s.message) (eqb-true s.to peer same) m.meant)), rounds s refl))
      (λ other. tt)

  spur_taken : (peer : ℕ) (spur : Spur) → IsTakenIf peer (input_of g peer spur)
  spur_taken peer (SentSpur k) = sent_taken peer (slice_get g.sent k) (λ s e. all_get (IsSaid sound.past g.decided) g.sent k s sound.holds.said e) (λ s e. all_get (λ (s : Sent). IsOfRound sound.rounds.begun s.from s.message) g.sent k s sound.rounds.said e)
  spur_taken peer Elect = (λ above. tt, tt)
  spur_taken peer Pulse = (λ above. tt, tt)
  spur_taken peer (Propose bytes) = (λ above. tt, tt)
  spur_taken peer (Transfer to) = (λ above. tt, tt)
  spur_taken peer (Change change) = cond_both (nat_lt 0 (member_in change)) _ _ (IsTakenIf peer) (λ some_one. (λ above. tt, tt)) (λ none. tt)
  spur_taken peer Confirm = (λ above. tt, tt)

  -- another state of a peer that was placed
  still_placed : (peer : ℕ) → is_among peer g.placed ≡ true → (behind : Core) → (id : ℕ) → is_among id g.placed ≡ false → core_set g.core peer behind id ≡ blank id
  still_placed peer there behind id not = cond-false (id == peer) behind (g.core id) (ne_eqb id peer (λ same. true≢false (sym there ∙ ap (λ n. is_among n g.placed) (sym same) ∙ not))) ∙ sound.members.blank id not

  module _ (peer : ℕ) (above : 0 < peer) (there : is_among peer g.placed ≡ true) where
    -- the members are as they were
    same_members : (behind : Core) (sent : List Sent) (decided : List Entry) (leaders : List (Leadership Item)) (rounds : List Round)
        → ArePlaced (record { first = g.first; members = g.members; placed = g.placed; core = core_set g.core peer behind; sent = sent; decided = decided; leaders = leaders; rounds = rounds })
    same_members behind sent decided leaders rounds = record { above = sound.members.above; placed = sound.members.placed; blank = still_placed peer there behind }

    now : Holds first g.core g.sent peer (g.core peer) [] g.decided sound.past
    now = begins first g.core g.sent peer g.decided sound.past sound.holds

    before_held : IsHeld first sound.past g.decided peer (g.core peer)
    before_held = sound.holds.peers peer

    -- the leaderships behind it
    led_there : {decided : List Entry} (behind : Core) (k : Past) → Shifts sound.past k (g.core peer) behind → IsHeld first k decided peer behind → AreLed first k (leaders_after g.leaders (g.core peer) behind)
    led_there behind k shifts held = led_behind first sound.past g.leaders sound.led sound.holds.safe k peer (g.core peer) behind shifts before_held.leads held.leads held.peer.leading held.me

    -- a step
    step_kept : (input : RaftInput) → IsTaken first g.core g.sent peer above g.decided sound.past input → IsHeard sound.rounds.begun input → Goes first g sound peer (with_step g peer (stepped (g.core peer) input))
    step_kept input taken heard =
        let s = ends_step first g.core g.sent peer above (g.core peer) g.decided sound.past now input taken in
        let e = s.ends in
        let behind : Core = (stepped (g.core peer) input).core in
        let here : core_set g.core peer behind peer ≡ behind = cond-true (peer == peer) behind (g.core peer) (eq-eqb peer peer refl) in
        let h = sends_on first g.core g.sent peer (stepped (g.core peer) input).core [] _ e.past e.holds (map (sent_by peer) (stepped (g.core peer) input).sends) e.said in
        record {
          grows = e.shifts.grows;
          by = elim s.by [
            | inl same ↦ inl same
            | inr new ↦ inr (record { commit = new.commit; stands = new.stands; term = new.term ∙ sym (ap (λ (c : Core). c.term) here); is = new.is })
          ];
          sound_behind = record {
            members = same_members _ _ _ _ _;
            past = e.past;
            rounds = step_rounds first g.core g.sent g.decided sound.past g.rounds sound.rounds sound.holds peer above input heard e.past e.shifts _ (decided_begins g.decided (stepped (g.core peer) input).core) h;
            holds = sends_on first g.core g.sent peer (stepped (g.core peer) input).core [] _ e.past e.holds (map (sent_by peer) (stepped (g.core peer) input).sends) e.said;
            led = led_there (led (made_of (g.core peer) input)).core e.past e.shifts (held_here first g.core g.sent peer (led (made_of (g.core peer) input)).core [] _ e.past e.holds);
          };
        }

    -- a crash
    crashes : (c : Core) (h : Past) → Holds first g.core g.sent peer c [] g.decided h → Invariant first (core_set g.core peer (crashed c)) g.sent g.decided h
    crashes c h inv =
        let held = held_here first g.core g.sent peer c [] g.decided h inv in
        subst (λ (all : List Sent). Invariant first (core_set g.core peer (crashed c)) all g.decided h) (append-nil g.sent)
        (quietly first g.core g.sent peer c [] g.decided h inv (crashed c) (omega arith) (held_crashed first h g.decided peer c held))

    crash_rounds : (k : Past) → Grows sound.past k → (d : Core) → is_leading d.role ≡ false → AreRounds first (core_set g.core peer d) g.sent g.decided k g.rounds
    crash_rounds k grows d not = unled_rounds first g.core g.sent g.decided sound.past g.rounds sound.rounds peer d not k grows g.decided (agree_itself g.decided (length g.decided) (omega arith))

    crash_kept : Goes first g sound peer (with_crash g peer)
    crash_kept = record { grows = (stands_still sound.past peer).grows; by = inl refl; sound_behind = record { members = same_members _ _ _ _ _; past = sound.past; holds = crashes (g.core peer) sound.past now; led = sound.led; rounds = crash_rounds sound.past (stands_still sound.past peer).grows (crashed (g.core peer)) refl } }

    -- What a leader does behind its step a crash undoes.
    crashed_led : (made : Made) → crashed (led made).core ≡ crashed made.core
    crashed_led made = cond_both (is_leading made.core.role) _ made (λ (m : Made). crashed m.core ≡ crashed made.core) (λ leads. refl) (λ not. refl)

    leaders_led : (made : Made) → leaders_after g.leaders (g.core peer) (led made).core ≡ leaders_after g.leaders (g.core peer) made.core
    leaders_led made = cond_both (is_leading made.core.role) _ made (λ (m : Made). leaders_after g.leaders (g.core peer) m.core ≡ leaders_after g.leaders (g.core peer) made.core) (λ leads. refl) (λ not. refl)

    -- a crash inside a step, behind its record
    stop_kept : (input : RaftInput) → IsTaken first g.core g.sent peer above g.decided sound.past input → Goes first g sound peer (with_stop g peer (stepped (g.core peer) input))
    stop_kept input taken =
        let e = ends_rules first g.core g.sent peer above (g.core peer) g.decided sound.past now input taken in
        record {
          grows = e.shifts.grows;
          by = inl refl;
          sound_behind = record {
            members = same_members _ _ _ _ _;
            past = e.past;
            rounds = crash_rounds e.past e.shifts.grows (crashed (stepped (g.core peer) input).core) refl;
            holds = subst (λ (c : Core). Invariant first (core_set g.core peer c) g.sent g.decided e.past) (sym (crashed_led (made_of (g.core peer) input)))
                (crashes (made_of (g.core peer) input).core e.past e.holds);
            led = subst (AreLed first e.past) (sym (leaders_led (made_of (g.core peer) input)))
                (led_there (made_of (g.core peer) input).core e.past e.shifts (held_here first g.core g.sent peer (made_of (g.core peer) input).core [] g.decided e.past e.holds));
          };
        }

    took_kept : (o : Option RaftInput) → IsTakenIf peer o → Goes first g sound peer (took g peer o)
    took_kept None taken = stays_as_is peer
    took_kept (Some input) taken = step_kept input (taken.0 above) taken.1

    stopped_kept : (o : Option RaftInput) (kept : Bool) → IsTakenIf peer o → Goes first g sound peer (stopped g peer o kept)
    stopped_kept None kept taken = stays_as_is peer
    stopped_kept (Some input) true taken = stop_kept input (taken.0 above)
    stopped_kept (Some input) false taken = crash_kept

  at_member_kept : (peer : ℕ) (behind : Group) → (0 < peer → is_among peer g.placed ≡ true → Goes first g sound peer behind) → Goes first g sound peer (at_member g peer behind)
  at_member_kept peer behind kept = cond_both (is_among peer g.members) _ g (Goes first g sound peer)
      (λ there. kept (sound.members.above peer there) (sound.members.placed peer there))
      (λ not. stays_as_is peer)

  -- a new peer
  place_kept : (peer : ℕ) → may_place g peer ≡ true → Goes first g sound peer (with_peer g peer)
  place_kept peer may =
      let p = and_parts (nat_lt 0 peer) (not (is_among peer g.placed)) may in
      let new : is_among peer g.placed ≡ false = not-true (is_among peer g.placed) p.1 in
      let same : core_set g.core peer (blank peer) ≡ g.core = ap (λ (c : Core). core_set g.core peer c) (sym (sound.members.blank peer new)) ∙ set_own g.core peer in
      record {
        grows = (stands_still sound.past peer).grows;
        by = inl refl;
        sound_behind = record {
          members = record {
            above = λ id there. elim (among_put peer id g.members there) [
              | inl is ↦ (let a = ltb-true 0 peer p.0 in omega arith)
              | inr old ↦ sound.members.above id old
            ];
            placed = λ id there. elim (among_put peer id g.members there) [
              | inl is ↦ subst (λ n. is_among n (put_among peer g.placed) ≡ true) (sym is) (put_there peer g.placed)
              | inr old ↦ put_keeps peer id g.placed (sound.members.placed id old)
            ];
            blank = λ id not_there. ap (λ (core : ℕ → Core). core id) same ∙ sound.members.blank id (elim (cases_Bool (is_among id g.placed)) [
              | inl old ↦ absurd (true≢false (sym (put_keeps peer id g.placed old) ∙ not_there))
              | inr none ↦ none
            ]);
          };
          past = sound.past;
          holds = subst (λ (core : ℕ → Core). Invariant first core g.sent g.decided sound.past) (sym same) sound.holds;
          led = sound.led;
          rounds = subst (λ (core : ℕ → Core). AreRounds first core g.sent g.decided sound.past g.rounds) (sym same) sound.rounds;
        };
      }

  -- a peer less
  wipe_kept : (peer : ℕ) → Goes first g sound peer (without_peer g peer)
  wipe_kept peer = record {
    grows = (stands_still sound.past peer).grows;
    by = inl refl;
    sound_behind = record {
      members = record {
        above = λ id there. sound.members.above id (but_among peer id g.members there);
        placed = λ id there. sound.members.placed id (but_among peer id g.members there);
        blank = sound.members.blank;
      };
      past = sound.past;
      holds = sound.holds;
      led = sound.led;
      rounds = sound.rounds;
    };
  }

  pub goes : (e : GroupEvent) → Goes first g sound (peer_of e) (after g e)
  goes (Step peer spur) = at_member_kept peer _ (λ above there. took_kept peer above there (input_of g peer spur) (spur_taken peer spur))
  goes (StepCrash peer spur kept) = at_member_kept peer _ (λ above there. stopped_kept peer above there (input_of g peer spur) kept (spur_taken peer spur))
  goes (Crash peer) = at_member_kept peer _ (λ above there. crash_kept peer above there)
  goes (Place peer) = cond_both (may_place g peer) (with_peer g peer) g (Goes first g sound peer)
      (λ may. place_kept peer may) (λ not. stays_as_is peer)
  goes (Wipe peer) = at_member_kept peer _ (λ above there. cond_both (may_wipe g peer) (without_peer g peer) g (Goes first g sound peer)
      (λ may. wipe_kept peer) (λ not. stays_as_is peer))

-- the invariant holds behind more events, with a history that grew
pub record GoesOn (first : Config) (g : Group) (sound : IsSound first g) (behind : Group) : Type 0 where
  pub sound_behind : IsSound first behind
  pub grows : Grows sound.past sound_behind.past

pub goes_far : (first : Config) (events : List GroupEvent) (g : Group) (sound : IsSound first g) → GoesOn first g sound (run_from g events)
goes_far first [] g sound = record { sound_behind = sound; grows = (stands_still sound.past 0).grows }
goes_far first (e ∷ events) g sound =
    let a = goes first g sound e in
    let b = goes_far first events (after g e) a.sound_behind in
    record { sound_behind = b.sound_behind; grows = grows_twice a.grows b.grows }

-- the invariant holds behind each list of events
pub every_run_is_sound : (first : Config) → IsFirst first → (events : List GroupEvent) → IsSound first (run first events)
every_run_is_sound first is events = (goes_far first events (start first) (starts first is)).sound_behind
