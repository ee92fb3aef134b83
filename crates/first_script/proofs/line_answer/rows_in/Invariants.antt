use Rattle.std.proofs.Common.{◌≡◌, take}
use Rattle.std.specs.Prelude.{map}
use Rattle.first_script.specs.Answers.{shown_row}
use Rattle.first_script.proofs.line_answer.rows_in.Given as goal

-- so far the rows of the front
abbrev pub invariant-loop-item : goal.invariant-loop-item
invariant-loop-item l = l.rows ≡ map (shown_row (λ edge. edge.src)) (take l.item-index l.found)
