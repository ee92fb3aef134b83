-- The graph steps of a run, as they are seen from outside.
use Rattle.std.proofs.Common.{◌≡◌, ℕ, List, [], ◌∷◌, ◌++◌, Option, Some, None, Bool, true, false, refl, ap, sym, ◌∙◌, append_assoc, append-nil}
use Rattle.std.specs.Prelude.{if◌then◌else◌, slice_get, ◌==◌}
use Rattle.std.proofs.lemmas.Bool.{cond_both}
use Rattle.graph_model.specs.declared.graph_step.GStep.{GStep}
use Rattle.graph_model.specs.declared.graph_step.GStep.TheVariants.{Invoke}
use Rattle.graph_model.specs.Run.{trace}
use Rattle.part_keys.specs.declared.proposal.Proposal.{Proposal}
use Rattle.chain_world.specs.declared.event.ChainEvent.{ChainEvent}
use Rattle.chain_world.specs.declared.event.ChainEvent.TheVariants as event
use Rattle.chain_world.specs.Ledger.{Ledger, reply_steps}
use Rattle.chain_world.specs.State.{Chains, start, made_by}
use Rattle.chain_world.specs.World.{where_some, with_decided, next_entry, first_asked, moment_of, rule, after, run_from, run}
use Rattle.chain_world.specs.Outside.{seen_of, outside_of, outside_from, ChainsRefine}
use Rattle.chain_world.proofs.Worlds.{always_safe}
use Rattle.part_keys.specs.declared.vid_kind.VidKind.{VidKind}
use Rattle.raft_log.specs.declared.config.Config.{Config}
use Rattle.chain_world.proofs.Deciding.{decides_trace}
use Rattle.chain_world.proofs.Ledgers.{trace_both, reply_trace}

module _ (ids : VidKind) (parts : ℕ) (s : Chains) where
  abbrev steps : List GStep
  steps = s.ledger.steps

  -- nothing is seen where the ledger is the same
  unseen : (z : Chains) → z.ledger ≡ s.ledger → trace z.ledger.steps ≡ trace steps ++ []
  unseen z same = ap (λ (l : Ledger). trace l.steps) same ∙ sym (append-nil (trace steps))

  -- the same, of what is made where something is there
  unmade : {A : Type 0} (o : Option A) (make : A → Chains) → ((x : A) → (make x).ledger ≡ s.ledger) → (where_some s o make).ledger ≡ s.ledger
  unmade None make same = refl
  unmade (Some x) make same = same x

  member_same : (p t : ℕ) (config : Config) → (rule ids parts s (event.Members p t config)).effect.ledger ≡ s.ledger
  member_same p t config = cond_both (t == 0) _ _ (λ (z : Chains). z.ledger ≡ s.ledger) (λ _. refl) (λ _. unmade (s.leaders p t) _ (λ l. refl))

  decide_seen : (p t : ℕ) (o : Option Proposal) → trace (where_some s o (λ (x : Proposal). with_decided parts s p t x)).ledger.steps ≡ trace steps ++ []
  decide_seen p t None = unseen s refl
  decide_seen p t (Some x) = decides_trace parts s.ledger p (t, x) ∙ sym (append-nil (trace steps))

  abbrev effect : ChainEvent → Chains
  effect e = (rule ids parts s e).effect

  -- an event's effect adds to the trace what is seen of it
  effect_seen : (e : ChainEvent) → trace (effect e).ledger.steps ≡ trace steps ++ seen_of e
  effect_seen (event.Invoke id op) = trace_both steps (Invoke id op ∷ [])
  effect_seen (event.Members p t config) = unseen (effect (event.Members p t config)) (member_same p t config)
  effect_seen (event.Lead p t policy a) = unseen (effect (event.Lead p t policy a)) refl
  effect_seen (event.Take p t k) = unseen (effect (event.Take p t k)) (unmade (s.leaders p t) _ (λ l. unmade (slice_get s.posts k) _ (λ post. refl)))
  effect_seen (event.Decide p t n) = decide_seen p t (slice_get (made_by s p t) n)
  effect_seen (event.Apply p t) = unseen (effect (event.Apply p t)) (unmade (s.leaders p t) _ (λ l. unmade (next_entry s p l) _ (λ entry. refl)))
  effect_seen (event.GiveUp p t id) = unseen (effect (event.GiveUp p t id)) (unmade (s.leaders p t) _ (λ l. refl))
  effect_seen (event.Pulse p t) = unseen (effect (event.Pulse p t)) (unmade (s.leaders p t) _ (λ l. refl))
  effect_seen (event.See p t id) = unseen (effect (event.See p t id)) (unmade (s.leaders p t) _ (λ l. unmade (first_asked p id s.posts) _ (λ query. refl)))
  effect_seen (event.Reply id a k) = let m = moment_of (slice_get s.posts k) in trace_both steps (reply_steps id m a) ∙ ap (λ (t : List GStep). trace steps ++ t) (reply_trace id m a)

  after_seen : (e : ChainEvent) → trace (after ids parts s e).ledger.steps ≡ trace steps ++ outside_of ids parts s e
  after_seen e = by_test (rule ids parts s e).lawful
    where
      by_test : (b : Bool) → trace (if b then (rule ids parts s e).effect else s).ledger.steps ≡ trace steps ++ (if b then seen_of e else [])
      by_test true = effect_seen e
      by_test false = unseen s refl

run_seen : (ids : VidKind) (parts : ℕ) (events : List ChainEvent) (s : Chains) → trace (run_from ids parts s events).ledger.steps ≡ trace s.ledger.steps ++ outside_from ids parts s events
run_seen ids parts [] s = sym (append-nil (trace s.ledger.steps))
run_seen ids parts (e ∷ events) s = run_seen ids parts events (after ids parts s e)
    ∙ ap (λ (t : List GStep). t ++ outside_from ids parts (after ids parts s e) events) (after_seen ids parts s e)
    ∙ append_assoc (trace s.ledger.steps) (outside_of ids parts s e) (outside_from ids parts (after ids parts s e) events)

-- Chains refine the graph machine.
pub chains_refine : ChainsRefine
chains_refine ids parts events =
    let safe = always_safe ids parts events in
    record { graph = safe.ledger.graph; run = safe.ledger.sound.run; same_trace = run_seen ids parts events start }

-- a run with one event more is the run, and then that event
more : (ids : VidKind) (parts : ℕ) (events : List ChainEvent) (s : Chains) (e : ChainEvent) → run_from ids parts s (events ++ e ∷ []) ≡ after ids parts (run_from ids parts s events) e
more ids parts [] s e = refl
more ids parts (x ∷ events) s e = more ids parts events (after ids parts s x) e

pub runs_on : (ids : VidKind) (parts : ℕ) (events : List ChainEvent) (e : ChainEvent) → run ids parts (events ++ e ∷ []) ≡ after ids parts (run ids parts events) e
runs_on ids parts events e = more ids parts events start e
