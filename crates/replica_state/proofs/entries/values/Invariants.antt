use Rattle.std.proofs.Common.{◌≡◌, ℕ, take}
use Rattle.std.specs.List.{AllByRecursion}
use Rattle.part_keys.specs.declared.proposal.Proposal.{Proposal}
use Rattle.replica_model.specs.Bytes.{spelling_of}
use Rattle.replica_model.specs.Spelling.{values_of}
use Rattle.replica_state.specs.State.{version}
use Rattle.replica_state.specs.Written.{IsWritten}
use Rattle.replica_state.proofs.entries.values.Given as goal

-- the values so far
abbrev pub invariant-loop-entry : goal.invariant-loop-entry
invariant-loop-entry l = record {
  values : l.list.items ≡ values_of (spelling_of version) (take l.entry-index l.entries);
  written : AllByRecursion (λ (value : ℕ × Proposal). IsWritten value.1) l.list.items;
}
