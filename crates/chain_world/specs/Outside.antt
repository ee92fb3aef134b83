-- What a run of a world is seen as from outside, and the theorem: it is a run of the graph machine.
use Rattle.std.specs.Prelude.{◌≡◌, ℕ, List, [], ◌∷◌, ◌++◌, if◌then◌else◌}
use Rattle.graph_model.specs.declared.graph_step.GStep.{GStep}
use Rattle.graph_model.specs.declared.graph_step.GStep.TheVariants.{Invoke, Reply}
use Rattle.graph_model.specs.State.{GraphState, start as empty_graph}
use Rattle.graph_model.specs.Run.{Run, trace}
use Rattle.part_keys.specs.declared.vid_kind.VidKind.{VidKind}
use Rattle.chain_world.specs.declared.event.ChainEvent.{ChainEvent}
use Rattle.chain_world.specs.declared.event.ChainEvent.TheVariants as event
use Rattle.chain_world.specs.State.{Chains, start}
use Rattle.chain_world.specs.World.{rule, after, run}

-- what is seen of an event: a call that is made, and a call that ends
abbrev pub seen_of : ChainEvent → List GStep
seen_of (event.Invoke id op) = Invoke id op ∷ []
seen_of (event.Reply id a k) = Reply id a ∷ []
seen_of other = []

abbrev pub outside_of : VidKind → ℕ → Chains → ChainEvent → List GStep
outside_of ids parts s e = if (rule ids parts s e).lawful then seen_of e else []

-- the lawful Invokes and Replies of a list of events, in order
abbrev pub outside_from : VidKind → ℕ → Chains → List ChainEvent → List GStep
outside_from ids parts s [] = []
outside_from ids parts s (e ∷ events) = outside_of ids parts s e ++ outside_from ids parts (after ids parts s e) events

abbrev pub outside : VidKind → ℕ → List ChainEvent → List GStep
outside ids parts events = outside_from ids parts start events

-- steps are a run of the graph machine, and this is its trace
pub record IsGraphRun (steps outside : List GStep) : Type 0 where
  pub graph : GraphState
  pub run : Run empty_graph steps graph
  pub same_trace : trace steps ≡ outside

-- Chains refine the graph machine: for every list of events the ledger's steps are a graph run, whose trace is the lawful
-- Invokes and Replies in order.
abbrev pub ChainsRefine : Type 0
ChainsRefine = (ids : VidKind) (parts : ℕ) (events : List ChainEvent) → IsGraphRun (run ids parts events).ledger.steps (outside ids parts events)
