use Rattle.std.proofs.Common.{ap, subst, sym, ◌∙◌}
use Rattle.raft_log.specs.Config.{IsConfig, AreEntries}
use Rattle.raft_log.specs.Log.{entry_at}
use Rattle.raft_log.specs.Places.{members_in}
use Rattle.raft_log.proofs.PlaceLemmas.{config_up_to_is, config_up_to_kept}
use Rattle.raft_log.proofs.log.RaftLog.config_up_to.Goals as goal

pub returns-clause-config : goal.returns-clause-config
returns-clause-config c =
    c.members_at.ensures ∙ ap (λ i. members_in (entry_at c.args.self.now.0 i)) c.config_index-place.ensures ∙ config_up_to_is c.args.self.now.0 c.args.index

pub returns-clause-members : goal.returns-clause-members
returns-clause-members c =
    let is = c.members_at.ensures ∙ ap (λ i. members_in (entry_at c.args.self.now.0 i)) c.config_index-place.ensures ∙ config_up_to_is c.args.self.now.0 c.args.index in
    let all = subst AreEntries (ap (λ v. v.0) c.self.view_is) c.self.invariant.1 in
    subst IsConfig (sym is) (config_up_to_kept c.args.self.now.0 c.args.index all)
