use Rattle.std.proofs.Common.{◌≡◌, drop}
use Rattle.meta_parts.specs.Table as rules
use Rattle.table_writing.proofs.rows.are_rising.Given as goal

abbrev pub invariant-loop-number : goal.invariant-loop-number
invariant-loop-number l = rules.are_rising l.below (drop l.number-index l.numbers) ≡ rules.are_rising 0 l.numbers
