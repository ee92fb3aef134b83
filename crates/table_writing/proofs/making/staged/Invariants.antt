use Rattle.std.proofs.Common.{◌≡◌, ◌++◌, map, drop}
use Rattle.meta_parts.specs.Table as rules
use Rattle.table_writing.proofs.making.staged.Given as goal

abbrev pub invariant-loop-task : goal.invariant-loop-task
invariant-loop-task l = l.list ++ map (rules.staged l.part l.stage) (drop l.task-index l.tasks) ≡ map (rules.staged l.part l.stage) l.tasks
