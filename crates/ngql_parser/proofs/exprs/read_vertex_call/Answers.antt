use Rattle.std.proofs.Common.{refl}
use Rattle.std.proofs.lemmas.Result.{err_from_is_err_and}
use Rattle.ngql_parser.specs.Rules.{vertex_call}
use Rattle.ngql_parser.proofs.Refused.{value_refused}
use Rattle.ngql_parser.proofs.exprs.read_vertex_call.Goals as goal

pub returns-in_err-rest-2 : goal.returns-in_err-rest-2
unfolding vertex_call
returns-in_err-rest-2 c =
    let p = err_from_is_err_and c.from_residual-in_err-rest-2.result c.from_residual-in_err-rest-2.ensures.1 in
    rw (p.1, p.2, c.in_ok-rest.ensures) (value_refused _ _ _ c.in_err-rest-2.ensures)

pub returns : goal.returns
unfolding vertex_call
returns c =
    rw (c.in_ok-rest.ensures, c.in_ok-rest-2.ensures) refl
