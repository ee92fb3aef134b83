use Rattle.std.proofs.Common.{ap, subst, sym, take, ◌∙◌}
use Rattle.std.specs.Bool.{OnTrue}
use Rattle.raft_log.specs.Rising.{IsOlder}
use Rattle.raft_core.proofs.Copying.{take_kept}
use Rattle.raft_core.proofs.next_log.NextLog.is_older.Goals as goal

pub returns-then-index-self : goal.returns-then-index-self
returns-then-index-self c =
    let inside = c.self.inside in
    let same = sym (take_kept c.args.index inside.keep inside.log.now.0 inside.entries.now c.if-index-self.true c.self.invariant) ∙ ap (take c.args.index) c.self.view_is in
    subst (λ xs. OnTrue c.is_older.result (IsOlder c.args.term xs)) same c.is_older.ensures.older
