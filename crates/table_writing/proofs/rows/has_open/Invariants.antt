use Rattle.std.proofs.Common.{◌≡◌, drop}
use Rattle.std.specs.List.{list_any}
use Rattle.meta_parts.specs.Table as rules
use Rattle.table_writing.proofs.rows.has_open.Given as goal

abbrev pub invariant-loop-task : goal.invariant-loop-task
invariant-loop-task l = list_any (rules.is_open_on l.part) (drop l.task-index l.tasks) ≡ list_any (rules.is_open_on l.part) l.tasks
