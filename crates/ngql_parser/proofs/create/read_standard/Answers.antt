use Rattle.std.proofs.Common.{◌≡◌, true, ◌∷◌, [], refl, sym, ◌∙◌}
use Rattle.std.proofs.lemmas.Result.{err_from_is_err_and}
use Rattle.grammar.specs.Reading.{begins_with}
use Rattle.ngql_parser.specs.declared.kind.Kind.TheVariants as kind
use Rattle.ngql_parser.specs.Kinds.{code}
use Rattle.ngql_parser.specs.Rules.{standard, kind_of}
use Rattle.ngql_parser.proofs.Refused.{value_refused}
use Rattle.ngql_parser.proofs.create.read_standard.Goals as goal

pub returns-in_err-lit : goal.returns-in_err-lit
unfolding standard
returns-in_err-lit c =
    let p = err_from_is_err_and c.from_residual-in_err-lit.result c.from_residual-in_err-lit.ensures.1 in
    let b : begins_with kind_of (code kind.Default ∷ []) c.args.tokens.now ≡ true = sym c.is_next.ensures ∙ c.if-not-is_next.false in
    rw (p.1, p.2, b, c.in_ok-rest.ensures) (value_refused _ _ _ (value_refused _ _ _ c.in_err-lit.ensures))

pub returns : goal.returns
unfolding standard
returns c =
    let b : begins_with kind_of (code kind.Default ∷ []) c.args.tokens.now ≡ true = sym c.is_next.ensures ∙ c.if-not-is_next.false in
    rw (b, c.in_ok-rest.ensures, c.in_ok-lit.ensures) refl
