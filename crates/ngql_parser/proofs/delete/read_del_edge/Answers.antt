use Rattle.std.proofs.Common.{refl}
use Rattle.std.proofs.lemmas.Result.{err_from_is_err_and}
use Rattle.ngql_parser.specs.Rules.{del_edge}
use Rattle.ngql_parser.proofs.Refused.{value_refused, then_refused}
use Rattle.ngql_parser.proofs.delete.read_del_edge.Goals as goal

pub returns-in_err-name : goal.returns-in_err-name
unfolding del_edge
returns-in_err-name c =
    let p = err_from_is_err_and c.from_residual-in_err-name.result c.from_residual-in_err-name.ensures.1 in
    rw (p.1, p.2, c.in_ok-rest.ensures) (value_refused _ _ _ (then_refused _ _ _ c.in_err-name.ensures))

pub returns-in_err-list : goal.returns-in_err-list
unfolding del_edge
returns-in_err-list c =
    let p = err_from_is_err_and c.from_residual-in_err-list.result c.from_residual-in_err-list.ensures.1 in
    rw (p.1, p.2, c.in_ok-rest.ensures, c.in_ok-name.ensures) (value_refused _ _ _ (value_refused _ _ _ c.in_err-list.ensures))

pub returns : goal.returns
unfolding del_edge
returns c =
    rw (c.in_ok-rest.ensures, c.in_ok-name.ensures, c.in_ok-list.ensures) refl
