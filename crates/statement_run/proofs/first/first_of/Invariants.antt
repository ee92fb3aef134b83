use Rattle.std.proofs.Common.{◌≡◌, length}
use Rattle.std.specs.List.{AllByRecursion}
use Rattle.statement_run.specs.Statement.{unended}
use Rattle.statement_run.specs.Kept.{noted_in, lines_waiting}
use Rattle.statement_run.specs.Waiting.{Waits, fresh_all}
use Rattle.statement_run.proofs.first.first_of.Given as goal

-- the statements so far are over
abbrev pub invariant-loop-next : goal.invariant-loop-next
invariant-loop-next l = (unended (fresh_all l.waiting.items) ≡ unended (fresh_all l.fn.waiting.items)) × AllByRecursion Waits l.waiting.items
    × (noted_in (lines_waiting l.waiting.items) (fresh_all l.waiting.items) l.lines ≡ noted_in (lines_waiting l.fn.waiting.items) (fresh_all l.fn.waiting.items) l.fn.lines)

abbrev pub decreases-loop-next : goal.decreases-loop-next
decreases-loop-next l = length l.waiting.items
