use Rattle.std.proofs.Common.{refl}
use Rattle.std.proofs.lemmas.Result.{err_from_is_err_and}
use Rattle.ngql_parser.specs.Rules.{vals}
use Rattle.ngql_parser.proofs.Refused.{value_refused}
use Rattle.ngql_parser.proofs.insert.read_vals.Goals as goal

pub returns-in_err-list : goal.returns-in_err-list
unfolding vals
returns-in_err-list c =
    let p = err_from_is_err_and c.from_residual-in_err-list.result c.from_residual-in_err-list.ensures.1 in
    rw (p.1, p.2, c.in_ok-at.ensures) (value_refused _ _ _ c.in_err-list.ensures)

pub returns : goal.returns
unfolding vals
returns c =
    rw (c.in_ok-at.ensures, c.in_ok-list.ensures) refl
