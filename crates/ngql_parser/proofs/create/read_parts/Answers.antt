use Rattle.std.proofs.Common.{refl}
use Rattle.std.proofs.lemmas.Result.{err_from_is_err_and}
use Rattle.ngql_parser.specs.Rules.{parts_opt}
use Rattle.ngql_parser.proofs.Refused.{value_refused}
use Rattle.ngql_parser.proofs.create.read_parts.Goals as goal

pub returns-in_err-number : goal.returns-in_err-number
unfolding parts_opt
returns-in_err-number c =
    let p = err_from_is_err_and c.from_residual-in_err-number.result c.from_residual-in_err-number.ensures.1 in
    rw (p.1, p.2, c.in_ok-rest.ensures) (value_refused _ _ _ c.in_err-number.ensures)

pub returns : goal.returns
unfolding parts_opt
returns c =
    rw (c.in_ok-rest.ensures, c.in_ok-number.ensures) refl
