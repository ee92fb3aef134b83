use Rattle.std.proofs.Common.{◌<◌, ◌≤◌, ap, arith, ◌∙◌}
use Rattle.std.proofs.lemmas.Bool.{ltb-true}
use Rattle.raft_log.specs.Log.{term_at}
use Rattle.raft_log.specs.Rising.{rising}
use Rattle.raft_log.proofs.RisingLemmas.{older, on_true}
use Rattle.raft_log.proofs.log.RaftLog.is_older.Goals as goal

pub returns-then-index-self-clause-older : goal.returns-then-index-self-clause-older
returns-then-index-self-clause-older c = on_true _ (λ below.
    let rises = c.self.invariant.2 ∙ ap (λ v. rising v.0) c.self.view_is in
    let lower = ltb-true c.term_at.result c.args.term below in
    let there : term_at c.args.self.now.0 c.args.index < c.args.term = omega (arith, c.term_at.ensures, lower) in
    let known : c.args.index ≤ rising c.args.self.now.0 = omega (arith, rises, c.if-index-self.true) in
    older c.args.index c.args.term c.args.self.now.0 known there)
