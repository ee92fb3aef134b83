use Rattle.std.proofs.Common.{◌≡◌, ◌≤◌, length}
use Rattle.ngql_parser.specs.Conds.{from_not, reads_on}
use Rattle.ngql_parser.specs.Rules.{reads, cond}
use Rattle.ngql_parser.proofs.cond.read_cond.Given as goal

-- what is read on from the next condition is the whole
abbrev pub invariant-conditions : goal.invariant-conditions
invariant-conditions l = record {
  same : reads l.d cond l.fn.tokens ≡ from_not l.reader.level (reads_on l.reader.outer.items) l.reader.made l.rest;
  left : l.reader.level.left ≤ l.reader.level.d;
}

abbrev pub decreases-conditions : goal.decreases-conditions
decreases-conditions l = length l.rest
