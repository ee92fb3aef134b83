use Rattle.std.proofs.Common.{◌≤◌, length, sym, ap, ◌∙◌, subst, arith}
use Rattle.ngql_lex.specs.Lines.{without_cr}
use Rattle.ngql_parser.specs.Tokens.{ArePlaced, line_from}
use Rattle.ngql_parser.specs.Promise.{Tokens}
use Rattle.ngql_parser.proofs.LineLemmas.{placed}
use Rattle.ngql_parser.proofs.whole.tokens_in.Goals as goal

pub tokens_of-requires : goal.tokens_of-requires
tokens_of-requires c =
    let short : length (without_cr c.args.line.now) ≤ length c.args.line.now = subst (λ bytes. length bytes ≤ length c.args.line.now) c.without_cr.ensures.is c.without_cr.ensures.shorter in
    subst ArePlaced (sym c.as_slice.ensures) (placed (without_cr c.args.line.now) c.in-Ok.tokens c.in-Ok.ensures.ok (omega (arith, short, c.requires)))

pub returns-in-Ok-tokens_of-clause-ok : goal.returns-in-Ok-tokens_of-clause-ok
returns-in-Ok-tokens_of-clause-ok c =
    let t : Tokens c.args.version c.args.line.now = record { lexed = c.in-Ok.tokens; are = c.in-Ok.ensures.ok } in
    (t, c.in-Ok-tokens_of.ensures ∙ (ap (λ bytes. line_from c.args.version bytes c.as_slice.result.now) c.without_cr.ensures.is ∙ ap (line_from c.args.version (without_cr c.args.line.now)) c.as_slice.ensures))
