use Rattle.std.proofs.Common.{◌≡◌, ◌++◌, drop}
use Rattle.ngql_parser.specs.Tokens as spec
use Rattle.ngql_parser.proofs.tokens.add_statement.Given as goal

abbrev pub invariant-loop-at : goal.invariant-loop-at
invariant-loop-at l = record {
  placed : spec.ArePlaced (drop l.at l.tokens);
  so_far : l.fn.made ++ spec.tokens_from l.version l.line spec.none_seen l.tokens
      ≡ l.made ++ spec.tokens_from l.version l.line l.seen (drop l.at l.tokens);
}
