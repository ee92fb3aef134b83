use Rattle.std.proofs.Common.{◌≡◌, ◌==◌, drop}
use Rattle.std.specs.List.{find}
use Rattle.meta_parts.specs.declared.table.PartRow.{PartRow as Row}
use Rattle.table_writing.proofs.rows.row_of.Given as goal

abbrev pub invariant-loop-row : goal.invariant-loop-row
invariant-loop-row l = find (λ (row : Row). row.part == l.part) (drop l.row-index l.rows) ≡ find (λ (row : Row). row.part == l.part) l.rows
