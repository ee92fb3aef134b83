use Rattle.std.proofs.Common.{◌≡◌, ◌≤◌, length, vec_len}
use Rattle.ngql_parser.specs.Conds.{behind_not, reads_on}
use Rattle.ngql_parser.proofs.cond.CondReader.end_levels.Given as goal

-- what is read on is the same, from the level that is whole
abbrev pub invariant-levels : goal.invariant-levels
invariant-levels l = record {
  same : behind_not l.fn.self.level (reads_on l.fn.self.outer.items) l.fn.self.made l.fn.tokens
      ≡ behind_not l.self.level (reads_on l.self.outer.items) l.self.made l.rest;
  within : length l.rest ≤ length l.fn.tokens;
}

abbrev pub decreases-levels : goal.decreases-levels
decreases-levels l = vec_len l.self.outer
