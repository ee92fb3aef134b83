use Rattle.std.proofs.Common.{rules}
use Rattle.std.proofs.lemmas.Result.{err_from_is_err_and}
use Rattle.ngql_parser.specs.Rules.{client_mark}
use Rattle.ngql_parser.proofs.Refused.{value_refused, then_refused}
use Rattle.ngql_parser.proofs.statement.read_client_mark.Goals as goal

pub returns-in_err-number : goal.returns-in_err-number
unfolding client_mark
returns-in_err-number c =
    let p = err_from_is_err_and c.from_residual-in_err-number.result c.from_residual-in_err-number.ensures.1 in
    rw (p.1, p.2, c.in_ok-rest.ensures) (value_refused _ _ _ (then_refused _ _ _ c.in_err-number.ensures))

pub returns-in_err-rest-2 : goal.returns-in_err-rest-2
unfolding client_mark
returns-in_err-rest-2 c =
    let p = err_from_is_err_and c.from_residual-in_err-rest-2.result c.from_residual-in_err-rest-2.ensures.1 in
    rw (p.1, p.2, c.in_ok-rest.ensures, c.in_ok-number.ensures) (value_refused _ _ _ (value_refused _ _ _ c.in_err-rest-2.ensures))

pub returns : goal.returns
unfolding client_mark
returns c =
    rw (c.in_ok-rest.ensures, c.in_ok-number.ensures, c.in_ok-rest-2.ensures) (search rules)
