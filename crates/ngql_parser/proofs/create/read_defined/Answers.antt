use Rattle.std.proofs.Common.{◌≡◌, false, ◌∷◌, [], sym, ◌∙◌}
use Rattle.grammar.specs.Reading.{begins_with}
use Rattle.ngql_parser.specs.declared.kind.Kind.TheVariants as kind
use Rattle.ngql_parser.specs.Kinds.{code}
use Rattle.ngql_parser.specs.Rules.{kind_of, defined, space, tag}
use Rattle.ngql_parser.proofs.create.read_defined.Goals as goal

pub returns : goal.returns
unfolding defined space tag
returns c =
    let b0 : begins_with kind_of (code kind.Space ∷ []) c.args.tokens.now ≡ false = sym c.is_next.ensures ∙ c.if-is_next.false in
    let b1 : begins_with kind_of (code kind.Tag ∷ []) c.args.tokens.now ≡ false = sym c.is_next-2.ensures ∙ c.if-is_next-2.false in
    rw (b0, b1) c.read_edge.ensures
