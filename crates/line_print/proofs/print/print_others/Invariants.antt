use Rattle.std.proofs.Common.{◌≡◌, ◌++◌, take}
use Rattle.std.specs.Prelude.{flat_map}
use Rattle.line_print.specs.Print.{next_text}
use Rattle.line_print.proofs.print.print_others.Given as goal

-- so far the front of the values
abbrev pub invariant-loop-value : goal.invariant-loop-value
invariant-loop-value l = l.out.items ≡ l.fn.out.items ++ flat_map next_text (take l.value-index l.others)
