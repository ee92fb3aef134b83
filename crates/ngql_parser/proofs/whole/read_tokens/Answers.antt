use Rattle.std.proofs.Common.{sym, ◌∙◌}
use Rattle.std.proofs.lemmas.Bool.{eqb-true, eqb-false}
use Rattle.ngql_parser.proofs.LineLemmas.{whole_spelled, whole_only, more_only, more_misfit, err_only, err_misfit}
use Rattle.ngql_parser.proofs.whole.read_tokens.Goals as goal

pub returns-then-is_empty-clause-ok : goal.returns-then-is_empty-clause-ok
returns-then-is_empty-clause-ok c = whole_spelled c.args.tokens.now c.in-Ok.line c.in-Ok.rest.now c.in-Ok.ensures (eqb-true _ _ (sym c.is_empty.ensures ∙ c.if-is_empty.true))

pub returns-then-is_empty-clause-only : goal.returns-then-is_empty-clause-only
returns-then-is_empty-clause-only c = whole_only c.args.tokens.now c.in-Ok.line c.in-Ok.rest.now c.in-Ok.ensures

pub returns-else-is_empty-clause-only : goal.returns-else-is_empty-clause-only
returns-else-is_empty-clause-only c = more_only c.args.tokens.now c.in-Ok.line c.in-Ok.rest.now c.in-Ok.ensures (eqb-false _ _ (sym c.is_empty.ensures ∙ c.if-is_empty.false))

pub returns-else-is_empty-clause-misfit : goal.returns-else-is_empty-clause-misfit
returns-else-is_empty-clause-misfit c = more_misfit c.args.tokens.now c.in-Ok.line c.in-Ok.rest.now c.in-Ok.ensures (eqb-false _ _ (sym c.is_empty.ensures ∙ c.if-is_empty.false))

pub returns-in-Err-clause-only : goal.returns-in-Err-clause-only
returns-in-Err-clause-only c = err_only c.args.tokens.now c.in-Err.e c.in-Err.ensures

pub returns-in-Err-clause-misfit : goal.returns-in-Err-clause-misfit
returns-in-Err-clause-misfit c = err_misfit c.args.tokens.now c.in-Err.e c.in-Err.ensures
