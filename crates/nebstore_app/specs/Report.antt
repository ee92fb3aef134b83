-- The words of a run, and what is said of its journal.
use Rattle.std.specs.Prelude.{◌≡◌, ℕ, List, [], ◌∷◌, ◌++◌, Bool, false, codes, bytes_eq}
use Rattle.first_graph.specs.declared.graph_step.GStep.{GStep}
use Rattle.first_graph.specs.Machine.{Machine, start as nothing_yet}
use Rattle.first_graph.specs.Run.{Run as GraphRun}
use Rattle.first_graph.specs.Laws.{HasEqualHalves, HasEachOnce, CancelsNoneAcknowledged, StaysVisible}
use Rattle.nebstore_app.specs.declared.event.Event.{Event}
use Rattle.nebstore_app.specs.declared.journal.Journal.{Journal}
use Rattle.nebstore_app.specs.World.{World, start, Run}
use Rattle.nebstore_app.specs.Steps.{steps_of}

-- the words are `run` alone
abbrev pub is_run : List (List ℕ) → Bool
is_run [] = false
is_run (word ∷ []) = bytes_eq word (codes "run")
is_run (word ∷ next ∷ words) = false

-- the journal is a run of the world, with all packets that were sent
abbrev pub IsJournal : Journal → Type 0
IsJournal j = (w : World) × Run start j.events w × (j.packets ≡ w.passed ++ w.waiting)

-- the laws of every run of the graph machine: equal halves and acknowledged is never cancelled at each moment of the run,
-- once each and acknowledged stays visible of the whole
pub record ObeysLaws (steps : List GStep) (g : Machine) : Type 0 where
  pub equal_halves : (before after : List GStep) (mid : Machine) → steps ≡ before ++ after → GraphRun nothing_yet before mid → GraphRun mid after g → HasEqualHalves mid
  pub once_each : HasEachOnce steps
  pub never_cancelled : (before after : List GStep) (mid : Machine) → steps ≡ before ++ after → GraphRun nothing_yet before mid → GraphRun mid after g → CancelsNoneAcknowledged before mid after
  pub stays_visible : StaysVisible steps g

-- where the graph steps of events lead, the laws hold
abbrev pub IsLawful : List Event → Type 0
IsLawful events = (g : Machine) → GraphRun nothing_yet (steps_of events) g → ObeysLaws (steps_of events) g
