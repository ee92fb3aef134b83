use Rattle.std.proofs.Common.{◌≡◌, ◌++◌, map, drop}
use Rattle.std.specs.List.{filter}
use Rattle.replica_model.specs.Stepped as steps
use Rattle.replica_state.specs.Leaving.{leaving_of}
use Rattle.replica_state.specs.State.{row_of}
use Rattle.replica_state.proofs.posting.answers.Given as goal

-- what is left is yet to be answered
abbrev pub invariant-loop-row : goal.invariant-loop-row
invariant-loop-row l =
    map leaving_of l.leaves ++ map (steps.answer_row l.by.part l.by.me) (filter (steps.is_confirmed l.confirmed) (map row_of (drop l.row-index l.rows)))
    ≡ map (steps.answer_row l.by.part l.by.me) (filter (steps.is_confirmed l.confirmed) (map row_of l.rows))
