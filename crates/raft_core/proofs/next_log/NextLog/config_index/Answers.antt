use Rattle.std.proofs.Common.{take, ap, sym, ◌∙◌}
use Rattle.std.proofs.lemmas.List.{length-take-le}
use Rattle.raft_log.specs.Log.{config_index}
use Rattle.raft_core.proofs.next_log.NextLog.config_index.Goals as goal

pub returns : goal.returns
returns c =
    let inside = c.self.inside in
    c.index_from.ensures (take inside.keep inside.log.now.0) (sym (length-take-le inside.keep inside.log.now.0 c.self.invariant)) c.config_up_to.ensures.index ∙ ap config_index c.self.view_is
