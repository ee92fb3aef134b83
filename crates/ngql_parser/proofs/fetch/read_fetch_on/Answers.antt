use Rattle.std.proofs.Common.{refl}
use Rattle.std.proofs.lemmas.Result.{err_from_is_err_and}
use Rattle.ngql_parser.specs.Rules.{fetch_on}
use Rattle.ngql_parser.proofs.Refused.{value_refused, then_refused}
use Rattle.ngql_parser.proofs.fetch.read_fetch_on.Goals as goal

pub returns-in_err-rest-2 : goal.returns-in_err-rest-2
unfolding fetch_on
returns-in_err-rest-2 c =
    let p = err_from_is_err_and c.from_residual-in_err-rest-2.result c.from_residual-in_err-rest-2.ensures.1 in
    rw (p.1, p.2, c.in_ok-rest.ensures) (value_refused _ _ _ (then_refused _ _ _ c.in_err-rest-2.ensures))

pub returns-in_err-rest-3 : goal.returns-in_err-rest-3
unfolding fetch_on
returns-in_err-rest-3 c =
    let p = err_from_is_err_and c.from_residual-in_err-rest-3.result c.from_residual-in_err-rest-3.ensures.1 in
    rw (p.1, p.2, c.in_ok-rest.ensures, c.in_ok-rest-2.ensures) (value_refused _ _ _ (value_refused _ _ _ (then_refused _ _ _ c.in_err-rest-3.ensures)))

pub returns-in_err-name : goal.returns-in_err-name
unfolding fetch_on
returns-in_err-name c =
    let p = err_from_is_err_and c.from_residual-in_err-name.result c.from_residual-in_err-name.ensures.1 in
    rw (p.1, p.2, c.in_ok-rest.ensures, c.in_ok-rest-2.ensures, c.in_ok-rest-3.ensures) (value_refused _ _ _ (value_refused _ _ _ (value_refused _ _ _ c.in_err-name.ensures)))

pub returns : goal.returns
unfolding fetch_on
returns c =
    rw (c.in_ok-rest.ensures, c.in_ok-rest-2.ensures, c.in_ok-rest-3.ensures, c.in_ok-name.ensures) refl
