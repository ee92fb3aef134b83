-- The ticks behind the events of the chains: behind a GiveUp the tick that gave the call up, behind a Lead of policy Cancel the
-- tick that elected with it. All others need none.
use Rattle.std.proofs.Common.{◌≡◌, ℕ, List, [], Bool, true, false, refl, subst}
use Rattle.std.specs.List.{AllByRecursion}
use Rattle.raft_core.proofs.Lists.{all_weaker}
use Rattle.part_keys.specs.declared.chain.Policy.{Policy}
use Rattle.part_keys.specs.declared.chain.Policy.TheVariants.{Forward, Cancel}
use Rattle.chain_world.specs.declared.event.ChainEvent.{ChainEvent}
use Rattle.chain_world.specs.declared.event.ChainEvent.TheVariants as event
use Rattle.chain_world.specs.State.{Chains}
use Rattle.chain_world.specs.World.{run_from}
use Rattle.replica_model.specs.declared.input.Tick.{Tick}
use Rattle.replica_model.specs.declared.input.Tick.TheVariants as tick
use Rattle.replica_model.specs.declared.input.Input.{Input}
use Rattle.replica_model.specs.declared.input.Input.TheVariants as input
use Rattle.replica_model.specs.Stepped.{policy_in, policy_behind}
use Rattle.world_model.specs.State.{Space}

-- a policy Cancel was told; so was a tick that comes
abbrev pub Elects : (ℕ → Tick → Type 0) → ℕ → Policy → Type 0
Elects told p policy = policy ≡ Cancel → told p (tick.Elect Cancel)

abbrev pub IsTold : (ℕ → Tick → Type 0) → ℕ → Input → Type 0
IsTold told p (input.Tick t) = told p t
IsTold told p (input.Sent packet) = Unit {0}

abbrev pub Backed : (ℕ → Tick → Type 0) → ChainEvent → Type 0
Backed told (event.GiveUp p t id) = told p (tick.GiveUp id)
Backed told (event.Lead p t policy a) = Elects told p policy
Backed told e = Unit {0}

abbrev pub IsPlain : ChainEvent → Type 0
IsPlain (event.GiveUp p t id) = ⊥
IsPlain (event.Lead p t policy a) = ⊥
IsPlain e = Unit {0}

-- Some events of the chains, each with its tick.
pub record Onward (sp : Space) (told : ℕ → Tick → Type 0) (c d : Chains) : Type 0 where
  pub events : List ChainEvent
  pub is : run_from sp.ids sp.parts c events ≡ d
  pub backed : AllByRecursion (Backed told) events

abbrev pub nowhere : (sp : Space) (told : ℕ → Tick → Type 0) (c : Chains) → Onward sp told c c
nowhere sp told c = record { events = []; is = refl; backed = tt }

module _ (told : ℕ → Tick → Type 0) where
  plain_backed : (e : ChainEvent) → IsPlain e → Backed told e
  plain_backed (event.GiveUp p t id) plain = absurd plain
  plain_backed (event.Lead p t policy a) plain = absurd plain
  plain_backed (event.Invoke id op) plain = tt
  plain_backed (event.Members p t config) plain = tt
  plain_backed (event.Take p t k) plain = tt
  plain_backed (event.Decide p t n) plain = tt
  plain_backed (event.Apply p t) plain = tt
  plain_backed (event.Pulse p t) plain = tt
  plain_backed (event.See p t id) plain = tt
  plain_backed (event.Reply id a k) plain = tt

  pub plain_all : (events : List ChainEvent) → AllByRecursion IsPlain events → AllByRecursion (Backed told) events
  plain_all events plain = all_weaker IsPlain (Backed told) plain_backed events plain

  -- no other tick and no packet elects
  pub forward_elects : (p : ℕ) → Elects told p Forward
  forward_elects p e = absurd (let f : Forward ≡ Cancel = e in cc)

  elects_in : (p : ℕ) (i : Input) → IsTold told p i → Elects told p (policy_in i)
  elects_in p (input.Tick (tick.Elect policy)) its = λ e. subst (λ x. told p (tick.Elect x)) e its
  elects_in p (input.Tick tick.Pulse) its = forward_elects p
  elects_in p (input.Tick (tick.GiveUp id)) its = forward_elects p
  elects_in p (input.Tick (tick.Transfer peer)) its = forward_elects p
  elects_in p (input.Tick (tick.Change change)) its = forward_elects p
  elects_in p (input.Sent packet) its = forward_elects p

  pub elects_behind : (p : ℕ) (policy : Policy) (i : Input) → IsTold told p i → Elects told p policy → (began : Bool) → Elects told p (policy_behind policy began i)
  elects_behind p policy i its elects true = elects_in p i its
  elects_behind p policy i its elects false = elects
