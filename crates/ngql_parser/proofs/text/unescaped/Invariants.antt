use Rattle.std.proofs.Common.{◌≡◌, ◌++◌, false, drop}
use Rattle.ngql_parser.specs.Texts as spec
use Rattle.ngql_parser.proofs.text.unescaped.Given as goal

abbrev pub invariant-loop-byte : goal.invariant-loop-byte
invariant-loop-byte l = spec.unescaped false l.bytes ≡ l.made ++ spec.unescaped l.escaped (drop l.byte-index l.bytes)
