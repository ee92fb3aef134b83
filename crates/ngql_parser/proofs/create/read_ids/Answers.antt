use Rattle.std.proofs.Common.{refl}
use Rattle.std.proofs.lemmas.Result.{err_from_is_err_and}
use Rattle.ngql_parser.specs.Rules.{ids_opt}
use Rattle.ngql_parser.proofs.Refused.{value_refused}
use Rattle.ngql_parser.proofs.create.read_ids.Goals as goal

pub returns-in_err-ids : goal.returns-in_err-ids
unfolding ids_opt
returns-in_err-ids c =
    let p = err_from_is_err_and c.from_residual-in_err-ids.result c.from_residual-in_err-ids.ensures.1 in
    rw (p.1, p.2, c.in_ok-rest.ensures) (value_refused _ _ _ c.in_err-ids.ensures)

pub returns : goal.returns
unfolding ids_opt
returns c =
    rw (c.in_ok-rest.ensures, c.in_ok-ids.ensures) refl
