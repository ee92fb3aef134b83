-- Each event keeps a world safe, so it is safe behind each list of events.
use Rattle.std.proofs.Common.{◌≡◌, inl, inr, ℕ, zero, suc, ◌≤◌, List, [], ◌∷◌, ◌++◌, Option, Some, None, true, refl, sym, subst, ◌∙◌, arith, eqb-true}
use Rattle.std.specs.Prelude.{◌==◌, nat_le, take, slice_get, if◌then◌else◌}
use Rattle.std.proofs.lemmas.Bool.{cond_both, and_parts}
use Rattle.std.proofs.lemmas.Option.{none-some}
use Rattle.std.specs.FinMap.{get, get-empty}
use Rattle.std.specs.Ordering.{nat_cmp}
use Rattle.raft_log.specs.Decided.{count_term}
use Rattle.part_keys.specs.declared.proposal.Proposal.{Proposal}
use Rattle.part_keys.specs.declared.vid_kind.VidKind.{VidKind}
use Rattle.chain_world.specs.declared.event.ChainEvent.{ChainEvent}
use Rattle.chain_world.specs.declared.event.ChainEvent.TheVariants as event
use Rattle.chain_world.specs.Places.{Among, At}
use Rattle.chain_world.specs.Course.{no_courses}
use Rattle.chain_world.specs.Ledger.{Ledger, caller_of, machine_of, next_applied, steps_of_item}
use Rattle.chain_world.specs.State.{Post, Leader, Chains, with_leader, start, decided_of, made_by}
use Rattle.chain_world.specs.World.{may_invoke, with_invoke, are_at_most, may_decide, after, run_from, run, is_to, taking, applying, is_unfounded, may_lead, new_leader}
use Rattle.chain_world.proofs.Occurring.{deciding, is_in_range, occurs, took, applied_next, applies, told_waits, told_again, founding, member_proposed, after_is}
use Rattle.chain_world.specs.Invariant.Sound.{IsSound}
use Rattle.chain_world.specs.Invariant.Discipline.{IsOneOf}
use Rattle.chain_world.proofs.Steps.{one_of_left, one_of_either, none_outward, item_inward}
use Rattle.graph_model.specs.Run.{is_outward}
use Rattle.graph_model.specs.declared.graph_step.GStep.{GStep}
use Rattle.graph_model.specs.declared.graph_step.GStep.TheVariants.{Invoke, Reply}
use Rattle.graph_model.specs.declared.call_id.CallId.{CallId}
use Rattle.raft_log.specs.declared.config.Config.{Config}
use Rattle.part_keys.specs.declared.chain.Policy.{Policy}
use Rattle.part_rules.specs.Folded.{folded}
use Rattle.chain_world.specs.Invariant.Protocol.{IsKept}
use Rattle.chain_world.specs.Invariant.Safe.{IsSafe}
use Rattle.chain_world.proofs.Ledgers.{blank_sound}
use Rattle.chain_world.proofs.Packets.{take_kept}
use Rattle.chain_world.proofs.Telling.{pulse_kept, give_up_kept}
use Rattle.chain_world.proofs.Applying.{apply_kept}
use Rattle.chain_world.proofs.Decided.{decided_courses, may, sound_then}
use Rattle.chain_world.proofs.Founding.{founded_blank, founded_decided}
use Rattle.chain_world.proofs.EdgesLaws.{last_blank, last_decided, equal_then}
use Rattle.chain_world.proofs.Known.{are_known}
use Rattle.chain_world.proofs.EdgesEach.{given_or_not}
use Rattle.chain_world.specs.Founded.{AreFounded}
use Rattle.chain_world.specs.Edges.{AreLast, LastChainGives, EqualWhenNoneStands}
use Rattle.chain_world.proofs.Behind.{decided_kept}
use Rattle.chain_world.proofs.Leaders.{member_event, lead_event}
use Rattle.chain_world.proofs.Asking.{invoke_safe}
use Rattle.chain_world.proofs.Seeing.{see_event, reply_event}

-- the first world
module _ (ids : VidKind) (parts : ℕ) where
  none_stands : (n v : ℕ) (rec : _) → n ≤ 0 → get (folded parts (take n [])).chains v ≡ Some rec → ⊥
  none_stands zero v rec h at = none-some rec (sym (get-empty nat_cmp v) ∙ at)
  none_stands (suc n) v rec h at = absurd (omega arith)

  starts : IsKept parts start no_courses
  starts = record {
    rising = λ p i j e f at also le. absurd (none-some e at);
    follows = λ p i e at. absurd (none-some e at);
    standing = λ p n v rec h at. absurd (none_stands n v rec h at);
    one_mode = λ p t v h. absurd h.2.1;
    aborted = λ p v u c known fate. absurd (none-some c known);
    unput = λ p t v u c h. absurd h.2.1;
    meant = λ post none. absurd none;
    proposed = λ p t x among. absurd (cond_both (t == 0) [] [] (λ (xs : List Proposal). Among x xs → ⊥) (λ _ none. none) (λ _ none. none) among);
    denied = λ q i u p t v edges was. absurd (none-some _ was.there);
    leaders = λ p t l is. absurd (none-some l is);
  }

  pub start_safe : IsSafe parts start
  start_safe = record {
    courses = no_courses;
    kept = starts;
    ledger = blank_sound parts;
    asking = record { asks = λ c id op e. absurd (none-some (id, op) e); invoked = λ id op none. absurd none; replied = λ id h. absurd h.1 };
    founded = founded_blank parts;
    last = last_blank parts;
  }

  module _ (s : Chains) (safe : IsSafe parts s) where
    -- an event that changes neither the ledger nor a client
    pub record Beside (z : Chains) : Type 0 where
      pub ledger : z.ledger ≡ s.ledger
      pub clients : z.clients ≡ s.clients

    beside_safe : (z : Chains) → Beside z → IsKept parts z safe.courses → IsSafe parts z
    beside_safe z beside kept = record {
      courses = safe.courses;
      kept = kept;
      ledger = subst (λ (l : Ledger). IsSound parts l safe.courses) (sym beside.ledger) safe.ledger;
      founded = subst (λ (l : Ledger). AreFounded parts l.decided safe.courses) (sym beside.ledger) safe.founded;
      last = subst (λ (l : Ledger). AreLast parts (machine_of parts l) safe.courses) (sym beside.ledger) safe.last;
      asking = record {
        asks = rw (beside.ledger, beside.clients) safe.asking.asks;
        invoked = rw (beside.ledger, beside.clients) safe.asking.invoked;
        replied = rw (beside.ledger, beside.clients) safe.asking.replied;
      };
    }

    itself : Beside s
    itself = record { ledger = refl; clients = refl }

    pub took_beside : (p t : ℕ) (o : Option Leader) (post : Option Post) → Beside (took ids parts s p t o post)
    took_beside p t None post = itself
    took_beside p t (Some l) None = itself
    took_beside p t (Some l) (Some post) = cond_both (is_to p t post.packet.to) (taking ids parts s p t l post.packet) s Beside (λ _. record { ledger = refl; clients = refl }) (λ _. itself)

    next_beside : (p t : ℕ) (l : Leader) (o : Option (ℕ × Proposal)) → Beside (applied_next parts s p t l o)
    next_beside p t l None = itself
    next_beside p t l (Some e) = cond_both (nat_le e.0 t) (applying parts s p t l e) s Beside (λ _. record { ledger = refl; clients = refl }) (λ _. itself)

    pub applies_beside : (p t : ℕ) (o : Option Leader) → Beside (applies parts s p t o)
    applies_beside p t None = itself
    applies_beside p t (Some l) = next_beside p t l (slice_get (decided_of s p) l.applied)

    pub waits_beside : (p t : ℕ) (id : CallId) (o : Option Leader) → Beside (told_waits s p t id o)
    waits_beside p t id None = itself
    waits_beside p t id (Some l) = record { ledger = refl; clients = refl }

    pub again_beside : (p t : ℕ) (o : Option Leader) → Beside (told_again s p t o)
    again_beside p t None = itself
    again_beside p t (Some l) = record { ledger = refl; clients = refl }

    pub member_beside : (p t : ℕ) (config : Config) (o : Option Leader) → Beside (if t == 0 then founding s p config else member_proposed s p t config o)
    member_beside p t config o = cond_both (t == 0) (founding s p config) (member_proposed s p t config o) Beside
        (λ _. cond_both (is_unfounded s p) _ s Beside (λ _. record { ledger = refl; clients = refl }) (λ _. itself)) (λ _. by_leader o)
      where
        by_leader : (o : Option Leader) → Beside (member_proposed s p t config o)
        by_leader None = itself
        by_leader (Some l) = record { ledger = refl; clients = refl }

    pub lead_beside : (p t : ℕ) (policy : Policy) (a : ℕ) → Beside (if may_lead s p t a then with_leader s p t (new_leader policy a) else s)
    lead_beside p t policy a = cond_both (may_lead s p t a) (with_leader s p t (new_leader policy a)) s Beside (λ _. record { ledger = refl; clients = refl }) (λ _. itself)

    -- Decide
    decide_safe : (p t : ℕ) (x : Proposal) → are_at_most t (decided_of s p) ≡ true → At (made_by s p t) (count_term (decided_of s p) t) x → IsSafe parts (deciding parts s p t (Some x))
    decide_safe p t x all next = record {
      courses = decided_courses parts s safe.courses safe.kept safe.ledger p t x all next;
      kept = decided_kept parts s safe.courses safe.kept safe.ledger p t x all next;
      ledger = sound_then parts s safe.courses safe.kept safe.ledger p t x all next;
      founded = founded_decided parts s.ledger safe.courses safe.ledger.graph p (t, x) safe.ledger.sound (may parts s safe.courses safe.kept safe.ledger p t x all next) safe.founded;
      last = last_decided parts s.ledger safe.courses safe.ledger.graph p (t, x) safe.ledger.sound (may parts s safe.courses safe.kept safe.ledger p t x all next) safe.last;
      asking = record {
        asks = λ c id op e. (let old = safe.asking.asks c id op e in (old.0, one_of_left s.ledger.steps more (Invoke id op) old.1, λ h. old.2 (h.0, inner (Reply id h.0) refl h.1)));
        invoked = λ id op h. safe.asking.invoked id op (inner (Invoke id op) refl h);
        replied = λ id h. safe.asking.replied id (h.0, inner (Reply id h.0) refl h.1);
      };
    }
      where
        more : List GStep
        more = steps_of_item (caller_of s.ledger) (machine_of parts s.ledger p) x (next_applied parts s.ledger p x).1

        inner : (g : GStep) → is_outward g ≡ true → IsOneOf (s.ledger.steps ++ more) g → IsOneOf s.ledger.steps g
        inner g out h = elim (one_of_either s.ledger.steps more g h) [
          | inl old ↦ old
          | inr new ↦ absurd (none_outward more (item_inward (caller_of s.ledger) (machine_of parts s.ledger p) x (next_applied parts s.ledger p x).1) g out new)
        ]

    decide_event : (p t n : ℕ) → IsSafe parts (if may_decide s p t n then deciding parts s p t (slice_get (made_by s p t) n) else s)
    decide_event p t n = cond_both (may_decide s p t n) (deciding parts s p t (slice_get (made_by s p t) n)) s (IsSafe parts)
        (λ may. (let a = and_parts (are_at_most t (decided_of s p)) (n == count_term (decided_of s p) t) may in by_made a.0 (eqb-true n (count_term (decided_of s p) t) a.1) (slice_get (made_by s p t) n) refl)) (λ _. safe)
      where
        by_made : are_at_most t (decided_of s p) ≡ true → n ≡ count_term (decided_of s p) t → (o : Option Proposal) → slice_get (made_by s p t) n ≡ o → IsSafe parts (deciding parts s p t o)
        by_made all same None e = safe
        by_made all same (Some x) e = decide_safe p t x all (subst (λ (m : ℕ). At (made_by s p t) m x) same e)

    -- any event
    pub occurs_safe : (e : ChainEvent) → IsSafe parts (occurs ids parts s e)
    occurs_safe (event.Invoke id op) = cond_both (may_invoke ids parts (s.clients id.client) id op) (with_invoke parts s id op) s (IsSafe parts) (λ may. invoke_safe parts s safe ids id op may) (λ _. safe)
    occurs_safe (event.Members p t config) = beside_safe _ (member_beside p t config (s.leaders p t)) (member_event parts s safe.courses safe.kept p t config)
    occurs_safe (event.Lead p t policy a) = beside_safe _ (lead_beside p t policy a) (lead_event parts s safe.courses safe.kept p t policy a)
    occurs_safe (event.Take p t n) = beside_safe _ (took_beside p t (s.leaders p t) (slice_get s.posts n)) (take_kept ids parts s safe.courses safe.kept p t n)
    occurs_safe (event.Decide p t n) = decide_event p t n
    occurs_safe (event.Apply p t) = beside_safe _ (applies_beside p t (s.leaders p t)) (apply_kept parts s safe.courses safe.kept safe.ledger p t)
    occurs_safe (event.GiveUp p t id) = beside_safe _ (waits_beside p t id (s.leaders p t)) (give_up_kept parts s safe.courses safe.kept p t id)
    occurs_safe (event.Pulse p t) = beside_safe _ (again_beside p t (s.leaders p t)) (pulse_kept parts s safe.courses safe.kept p t)
    occurs_safe (event.See p t id) = see_event parts s safe p t id
    occurs_safe (event.Reply id a n) = reply_event parts s safe id a n

    pub after_safe : (e : ChainEvent) → IsSafe parts (after ids parts s e)
    after_safe e = subst (IsSafe parts) (sym (after_is ids parts s e)) (cond_both (is_in_range parts e) (occurs ids parts s e) s (IsSafe parts) (λ _. occurs_safe e) (λ _. safe))

  safe_from : (events : List ChainEvent) (s : Chains) → IsSafe parts s → IsSafe parts (run_from ids parts s events)
  safe_from [] s safe = safe
  safe_from (e ∷ events) s safe = safe_from events (after ids parts s e) (after_safe s safe e)

  -- Behind each list of events the world is safe.
  pub always_safe : (events : List ChainEvent) → IsSafe parts (run ids parts events)
  always_safe events = safe_from events start start_safe

-- In each run the chains are what the lists say, and the halves are those of the last chains.
pub last_chain_gives : LastChainGives
last_chain_gives ids parts events =
    let safe = always_safe ids parts events in
    record { courses = safe.courses; founded = safe.founded; known = are_known parts (run ids parts events) safe.courses safe.kept safe.founded; given = given_or_not parts (run ids parts events).ledger safe.courses safe.ledger.graph safe.ledger.sound; last = safe.last }

-- In each run both halves of an edge without a standing chain are the same.
pub equal_when_none_stands : EqualWhenNoneStands
equal_when_none_stands ids parts events =
    let safe = always_safe ids parts events in
    equal_then parts (run ids parts events).ledger safe.courses safe.ledger.graph safe.ledger.sound
