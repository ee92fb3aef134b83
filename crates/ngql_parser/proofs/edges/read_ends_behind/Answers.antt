use Rattle.std.proofs.Common.{rules}
use Rattle.std.proofs.lemmas.Result.{err_from_is_err_and}
use Rattle.ngql_parser.specs.Rules.{ends_behind}
use Rattle.ngql_parser.proofs.Refused.{value_refused, then_refused}
use Rattle.ngql_parser.proofs.edges.read_ends_behind.Goals as goal

pub returns-in_err-dst : goal.returns-in_err-dst
unfolding ends_behind
returns-in_err-dst c =
    let p = err_from_is_err_and c.from_residual-in_err-dst.result c.from_residual-in_err-dst.ensures.1 in
    rw (p.1, p.2, c.in_ok-rest.ensures) (value_refused _ _ _ (then_refused _ _ _ c.in_err-dst.ensures))

pub returns-in_err-rank : goal.returns-in_err-rank
unfolding ends_behind
returns-in_err-rank c =
    let p = err_from_is_err_and c.from_residual-in_err-rank.result c.from_residual-in_err-rank.ensures.1 in
    rw (p.1, p.2, c.in_ok-rest.ensures, c.in_ok-dst.ensures) (value_refused _ _ _ (value_refused _ _ _ c.in_err-rank.ensures))

pub returns : goal.returns
unfolding ends_behind
returns c =
    rw (c.in_ok-rest.ensures, c.in_ok-dst.ensures, c.in_ok-rank.ensures) (search rules)
