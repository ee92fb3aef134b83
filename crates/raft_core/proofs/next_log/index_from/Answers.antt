use Rattle.std.proofs.Common.{◌+◌, sym, ◌∙◌}
use Rattle.std.specs.Prelude.{if◌then◌else◌}
use Rattle.raft_log.specs.Log.{is_members}
use Rattle.raft_core.proofs.Copying.{one_index}
use Rattle.raft_core.proofs.next_log.index_from.Goals as goal

pub loop-k-preserved : goal.loop-k-preserved
loop-k-preserved c log many at =
    let entry = c.index-entries-k.result in
    let k = c.loop-k.k in
    c.index_behind-index.ensures
    ∙ (λ i. if is_members entry.item then many i + k + 1 else c.loop-k.invariant log many at i)
    ∙ sym (one_index log c.args.entries.now k entry c.loop-k-test.true (sym c.index-entries-k.is))
