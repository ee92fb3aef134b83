use Rattle.std.proofs.Common.{◌≡◌, drop}
use Rattle.std.specs.List.{find}
use Rattle.meta_parts.specs.Table as rules
use Rattle.table_writing.proofs.rows.open_task.Given as goal

abbrev pub invariant-loop-task : goal.invariant-loop-task
invariant-loop-task l = find (rules.is_open_on l.part) (drop l.task-index l.tasks) ≡ find (rules.is_open_on l.part) l.tasks
