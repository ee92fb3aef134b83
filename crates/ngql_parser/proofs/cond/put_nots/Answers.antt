use Rattle.std.proofs.Common.{◌≡◌, suc, ◌+◌, ◌-◌, sym, ap, ◌∙◌, arith}
use Rattle.ngql_parser.specs.Conds.{with_nots}
use Rattle.ngql_parser.proofs.cond.put_nots.Goals as goal

pub nots-preserved : goal.nots-preserved
nots-preserved c =
    let more : c.args.d - c.nots._turn ≡ suc (c.args.d - (c.nots._turn + 1)) = omega arith in
    ap (with_nots (c.args.d - (c.nots._turn + 1))) c.in_ok-push.ensures.ok ∙ (sym (ap (λ n. with_nots n c.nots.made) more) ∙ c.nots.invariant)
