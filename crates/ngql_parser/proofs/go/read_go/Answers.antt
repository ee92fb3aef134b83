use Rattle.std.proofs.Common.{refl}
use Rattle.std.proofs.lemmas.Result.{err_from_is_err_and}
use Rattle.ngql_parser.specs.Rules.{go}
use Rattle.ngql_parser.proofs.Refused.{value_refused}
use Rattle.ngql_parser.proofs.go.read_go.Goals as goal

pub returns-in_err-made : goal.returns-in_err-made
unfolding go
returns-in_err-made c =
    let p = err_from_is_err_and c.from_residual-in_err-made.result c.from_residual-in_err-made.ensures.1 in
    rw (p.1, p.2, c.in_ok-rest.ensures) (value_refused _ _ _ c.in_err-made.ensures)

pub returns : goal.returns
unfolding go
returns c =
    rw (c.in_ok-rest.ensures, c.in_ok-made.ensures) refl
