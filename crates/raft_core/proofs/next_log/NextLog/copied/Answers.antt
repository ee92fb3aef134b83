use Rattle.std.proofs.Common.{sym, ◌∙◌, arith}
use Rattle.raft_core.proofs.Copying.{one_more, no_more}
use Rattle.raft_core.proofs.next_log.NextLog.copied.Goals as goal

pub returns-in_default : goal.returns-in_default
returns-in_default c = c.loop-k.invariant ∙ no_more c.args.self.now c.args.behind c.loop-k.k c.args.most (sym c.in_default.ensures) (omega (arith, c.loop-k-test.true))

pub loop-k-preserved : goal.loop-k-preserved
loop-k-preserved c =
    let more = one_more c.args.self.now c.args.behind c.loop-k.k c.in-Some.entry.now (sym c.in-Some.ensures) in
    c.in_ok-push.ensures.ok ∙ rw (c.loop-k.invariant, c.in_ok-copied.ensures) (sym more)
