use Rattle.std.proofs.Common.{refl}
use Rattle.std.proofs.lemmas.Result.{err_from_is_err_and}
use Rattle.ngql_parser.specs.Rules.{edge}
use Rattle.ngql_parser.proofs.Refused.{value_refused}
use Rattle.ngql_parser.proofs.create.read_edge.Goals as goal

pub returns-in_err-absent : goal.returns-in_err-absent
unfolding edge
returns-in_err-absent c =
    let p = err_from_is_err_and c.from_residual-in_err-absent.result c.from_residual-in_err-absent.ensures.1 in
    rw (p.1, p.2, c.in_ok-rest.ensures) (value_refused _ _ _ c.in_err-absent.ensures)

pub returns : goal.returns
unfolding edge
returns c =
    rw (c.in_ok-rest.ensures, c.in_ok-absent.ensures) refl
