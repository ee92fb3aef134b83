use Rattle.std.proofs.Common.{◌≡◌, ◌++◌, take}
use Rattle.std.specs.Prelude.{flat_map, codes}
use Rattle.line_print.specs.Print.{escaped}
use Rattle.line_print.proofs.print.print_words.Given as goal

-- so far the quote and the front of the text
abbrev pub invariant-loop-b : goal.invariant-loop-b
invariant-loop-b l = l.out.items ≡ l.fn.out.items ++ codes "\"" ++ flat_map escaped (take l.b-index l.text)
