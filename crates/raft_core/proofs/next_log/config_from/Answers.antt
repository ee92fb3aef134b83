use Rattle.std.proofs.Common.{ap, sym, ◌∙◌}
use Rattle.raft_log.specs.Log.{config_behind}
use Rattle.raft_core.proofs.Copying.{one_config}
use Rattle.raft_core.proofs.next_log.config_from.Goals as goal

pub loop-entry-preserved : goal.loop-entry-preserved
loop-entry-preserved c =
    c.config_behind-config.ensures
    ∙ ap (λ config. config_behind config c.entry-item.result.item) c.loop-entry.invariant
    ∙ sym (one_config c.args.config c.args.entries.now c.loop-entry.entry-index c.entry-item.result c.loop-entry-test.true (sym c.entry-item.is))
