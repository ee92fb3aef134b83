use Rattle.std.proofs.Common.{refl}
use Rattle.std.proofs.lemmas.Result.{err_from_is_err_and}
use Rattle.ngql_parser.specs.Rules.{space}
use Rattle.ngql_parser.proofs.Refused.{value_refused, then_refused}
use Rattle.ngql_parser.proofs.create.read_space.Goals as goal

pub returns-in_err-absent : goal.returns-in_err-absent
unfolding space
returns-in_err-absent c =
    let p = err_from_is_err_and c.from_residual-in_err-absent.result c.from_residual-in_err-absent.ensures.1 in
    rw (p.1, p.2, c.in_ok-rest.ensures) (value_refused _ _ _ (then_refused _ _ _ c.in_err-absent.ensures))

pub returns-in_err-name : goal.returns-in_err-name
unfolding space
returns-in_err-name c =
    let p = err_from_is_err_and c.from_residual-in_err-name.result c.from_residual-in_err-name.ensures.1 in
    rw (p.1, p.2, c.in_ok-rest.ensures, c.in_ok-absent.ensures) (value_refused _ _ _ (value_refused _ _ _ (then_refused _ _ _ c.in_err-name.ensures)))

pub returns-in_err-options : goal.returns-in_err-options
unfolding space
returns-in_err-options c =
    let p = err_from_is_err_and c.from_residual-in_err-options.result c.from_residual-in_err-options.ensures.1 in
    rw (p.1, p.2, c.in_ok-rest.ensures, c.in_ok-absent.ensures, c.in_ok-name.ensures) (value_refused _ _ _ (value_refused _ _ _ (value_refused _ _ _ c.in_err-options.ensures)))

pub returns : goal.returns
unfolding space
returns c =
    rw (c.in_ok-rest.ensures, c.in_ok-absent.ensures, c.in_ok-name.ensures, c.in_ok-options.ensures) refl
