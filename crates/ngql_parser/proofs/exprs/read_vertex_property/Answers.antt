use Rattle.std.proofs.Common.{refl}
use Rattle.std.proofs.lemmas.Result.{err_from_is_err_and}
use Rattle.ngql_parser.specs.Rules.{vertex_property}
use Rattle.ngql_parser.proofs.Refused.{value_refused}
use Rattle.ngql_parser.proofs.exprs.read_vertex_property.Goals as goal

pub returns-in_err-name : goal.returns-in_err-name
unfolding vertex_property
returns-in_err-name c =
    let p = err_from_is_err_and c.from_residual-in_err-name.result c.from_residual-in_err-name.ensures.1 in
    rw (p.1, p.2, c.in_ok-rest.ensures) (value_refused _ _ _ c.in_err-name.ensures)

pub returns : goal.returns
unfolding vertex_property
returns c =
    rw (c.in_ok-rest.ensures, c.in_ok-name.ensures) refl
