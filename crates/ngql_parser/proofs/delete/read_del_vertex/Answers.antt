use Rattle.std.proofs.Common.{refl}
use Rattle.std.proofs.lemmas.Result.{err_from_is_err_and}
use Rattle.ngql_parser.specs.Rules.{del_vertex}
use Rattle.ngql_parser.proofs.Refused.{value_refused}
use Rattle.ngql_parser.proofs.delete.read_del_vertex.Goals as goal

pub returns-in_err-vids : goal.returns-in_err-vids
unfolding del_vertex
returns-in_err-vids c =
    let p = err_from_is_err_and c.from_residual-in_err-vids.result c.from_residual-in_err-vids.ensures.1 in
    rw (p.1, p.2, c.in_ok-rest.ensures) (value_refused _ _ _ c.in_err-vids.ensures)

pub returns : goal.returns
unfolding del_vertex
returns c =
    rw (c.in_ok-rest.ensures, c.in_ok-vids.ensures) refl
