use Rattle.std.proofs.Common.{◌≡◌, ◌++◌, take}
use Rattle.std.specs.Prelude.{flat_map}
use Rattle.line_print.specs.Print.{part_line}
use Rattle.line_print.proofs.print.print_parts.Given as goal

-- so far the lines of the front
abbrev pub invariant-loop-part : goal.invariant-loop-part
invariant-loop-part l = l.out.items ≡ l.fn.out.items ++ flat_map part_line (take l.part-index l.parts)
