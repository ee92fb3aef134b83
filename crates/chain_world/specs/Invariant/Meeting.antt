-- Each decision of a run meets the discipline of the ledger.
use Rattle.std.specs.Prelude.{◌≡◌, ℕ, List, Some, true, slice_get}
use Rattle.part_keys.specs.declared.proposal.Proposal.{Proposal}
use Rattle.part_keys.specs.declared.vid_kind.VidKind.{VidKind}
use Rattle.chain_world.specs.declared.event.ChainEvent.{ChainEvent}
use Rattle.chain_world.specs.Course.{Courses}
use Rattle.chain_world.specs.Invariant.Discipline.{MayDecide}
use Rattle.chain_world.specs.Ledger.{Ledger}
use Rattle.chain_world.specs.Invariant.Sound.{IsSound}
use Rattle.chain_world.specs.State.{made_by}
use Rattle.chain_world.specs.World.{may_decide, run}

-- what became of the chains is so that the ledger is sound, and that the decision meets the discipline
pub record IsMet (parts : ℕ) (l : Ledger) (p : ℕ) (d : ℕ × Proposal) : Type 0 where
  pub courses : Courses
  pub sound : IsSound parts l courses
  pub meets : MayDecide parts l courses p d

abbrev pub DecisionsMeet : Type 0
DecisionsMeet = (ids : VidKind) (parts : ℕ) (events : List ChainEvent) (p t n : ℕ) (x : Proposal) → may_decide (run ids parts events) p t n ≡ true → slice_get (made_by (run ids parts events) p t) n ≡ Some x
    → IsMet parts (run ids parts events).ledger p (t, x)
