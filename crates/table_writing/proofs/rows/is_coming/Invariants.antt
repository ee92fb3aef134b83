use Rattle.std.proofs.Common.{◌≡◌, ◌==◌, ◌&&◌, drop}
use Rattle.std.specs.List.{list_any}
use Rattle.meta_parts.specs.declared.table.TaskRow.{TaskRow as Task}
use Rattle.meta_parts.specs.Table as rules
use Rattle.table_writing.proofs.rows.is_coming.Given as goal

abbrev pub invariant-loop-task : goal.invariant-loop-task
invariant-loop-task l = list_any (λ (task : Task). rules.is_open_on l.part task && (task.new_peer == l.peer) && (task.to == l.node)) (drop l.task-index l.tasks) ≡ list_any (λ (task : Task). rules.is_open_on l.part task && (task.new_peer == l.peer) && (task.to == l.node)) l.tasks
