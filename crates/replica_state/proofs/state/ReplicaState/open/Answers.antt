use Rattle.std.proofs.Common.{ap, map, ◌∙◌}
use Rattle.replica_state.specs.State.{row_of}
use Rattle.replica_state.specs.Places.{held, number_held}
use Rattle.replica_state.proofs.Empty.{none_held, no_number}
use Rattle.replica_state.proofs.state.ReplicaState.open.Goals as goal

pub returns-clause-opened : goal.returns-clause-opened
returns-clause-opened c = λ i. record {
  core = c.open.ensures i;
  lead = c.idle.ensures i;
  senders = (ap (λ es. held es) c.new.ensures.empty ∙ none_held) i;
  hints = (ap (λ es. number_held es) c.new-2.ensures.empty ∙ no_number) i;
  rows = ap (map row_of) c.new-3.ensures.items i;
}
