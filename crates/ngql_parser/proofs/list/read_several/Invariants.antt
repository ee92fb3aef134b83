use Rattle.std.proofs.Common.{◌≡◌, None, false, ◌-◌}
use Rattle.grammar.specs.Reading.{items_read}
use Rattle.ngql_parser.specs.Fronts.{behind_these}
use Rattle.ngql_parser.specs.Rules.{kind_of}
use Rattle.ngql_parser.specs.Kinds.{code}
use Rattle.ngql_parser.specs.declared.kind.Kind.TheVariants as kind
use Rattle.ngql_parser.proofs.list.read_several.Given as goal

-- what was read, and then the reading of the rest
abbrev pub invariant-loop-turn : goal.invariant-loop-turn
invariant-loop-turn g l =
    items_read kind_of 0 false g.T.Item.begin (g.T.Item.reading l.d) (code kind.Comma) l.d None l.fn.tokens
    ≡ behind_these l.made (items_read kind_of 0 false g.T.Item.begin (g.T.Item.reading l.d) (code kind.Comma) (l.d - l.turn) None l.rest)
