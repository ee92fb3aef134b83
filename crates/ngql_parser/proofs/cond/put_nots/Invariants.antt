use Rattle.std.proofs.Common.{◌≡◌, ◌-◌}
use Rattle.ngql_parser.specs.Conds.{with_nots}
use Rattle.ngql_parser.proofs.cond.put_nots.Given as goal

-- the NOTs that are left complete those that were put
abbrev pub invariant-nots : goal.invariant-nots
invariant-nots l = with_nots (l.d - l._turn) l.made ≡ with_nots (l.d - l.left) l.initial.made
