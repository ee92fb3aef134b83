use Rattle.std.proofs.Common.{take, ap, sym, ◌∙◌}
use Rattle.raft_log.specs.declared.config.Config.{Config}
use Rattle.raft_log.specs.Log.{config_from, config_of}
use Rattle.raft_core.proofs.Copying.{config_on}
use Rattle.raft_core.proofs.next_log.NextLog.voters.Goals as goal

pub returns : goal.returns
returns c =
    let inside = c.self.inside in
    ap (λ (config : Config). config.voters) (
    c.config_from.ensures
    ∙ ap (λ config. config_from config inside.entries.now) c.config_up_to.ensures.config
    ∙ sym (config_on (take inside.keep inside.log.now.0) inside.entries.now)
    ∙ ap config_of c.self.view_is)
