use Rattle.std.proofs.Common.{refl}
use Rattle.std.proofs.lemmas.Result.{err_from_is_err_and}
use Rattle.ngql_parser.specs.Rules.{create}
use Rattle.ngql_parser.proofs.Refused.{value_refused}
use Rattle.ngql_parser.proofs.create.read_create.Goals as goal

pub returns-in_err-define : goal.returns-in_err-define
unfolding create
returns-in_err-define c =
    let p = err_from_is_err_and c.from_residual-in_err-define.result c.from_residual-in_err-define.ensures.1 in
    rw (p.1, p.2, c.in_ok-rest.ensures) (value_refused _ _ _ c.in_err-define.ensures)

pub returns : goal.returns
unfolding create
returns c =
    rw (c.in_ok-rest.ensures, c.in_ok-define.ensures) refl
