use Rattle.std.proofs.Common.{◌≡◌, drop}
use Rattle.replica_model.specs.Asks.{are_entries}
use Rattle.replica_state.specs.State.{home_in}
use Rattle.replica_state.proofs.entries.are_entries.Given as goal

-- what is left tells
abbrev pub invariant-loop-entry : goal.invariant-loop-entry
invariant-loop-entry l = are_entries (home_in l.s) (drop l.entry-index l.entries) ≡ are_entries (home_in l.s) l.entries
