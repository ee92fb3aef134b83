use Rattle.std.proofs.Common.{◌≡◌, ◌≤◌, ◌^◌, drop}
use Rattle.ngql_parser.specs.Numbers as spec
use Rattle.ngql_parser.proofs.number.magnitude.Given as goal

-- the number so far isn't too large, and the digits that are left write the rest
abbrev pub invariant-loop-digit : goal.invariant-loop-digit
invariant-loop-digit l = record {
  small : l.number ≤ 2 ^ 63;
  so_far : spec.magnitude 0 l.digits ≡ spec.magnitude l.number (drop l.digit-index l.digits);
}
