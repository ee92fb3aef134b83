use Rattle.std.proofs.Common.{◌≡◌, Some, false, ◌-◌, ◌≤◌}
use Rattle.grammar.specs.Reading.{items_read}
use Rattle.ngql_parser.specs.Fronts.{behind_these}
use Rattle.ngql_parser.specs.Rules.{kind_of}
use Rattle.ngql_parser.specs.Kinds.{code}
use Rattle.ngql_parser.specs.declared.kind.Kind.TheVariants as kind
use Rattle.ngql_parser.proofs.list.read_limited.Given as goal

-- what was read, within the limit, and then the reading of the rest
abbrev pub invariant-loop-turn : goal.invariant-loop-turn
invariant-loop-turn g l = record {
  within : l.turn ≤ l.limit;
  so_far : items_read kind_of 0 false g.T.Item.begin (g.T.Item.reading l.d) (code kind.Comma) l.d (Some l.limit) l.fn.tokens
      ≡ behind_these l.made (items_read kind_of 0 false g.T.Item.begin (g.T.Item.reading l.d) (code kind.Comma) (l.d - l.turn) (Some (l.limit - l.turn)) l.rest);
}
