use Rattle.std.proofs.Common.{◌≡◌, true, sym, ◌∙◌}
use Rattle.raft_log.specs.Log.{config_of}
use Rattle.raft_core.specs.Core.{is_leading}
use Rattle.raft_core.proofs.Confirming.{greatest_is}
use Rattle.raft_core.proofs.giving.confirmed_of.Goals as goal

pub returns : goal.returns
returns c =
    let log = c.args.log.now in
    let lead : is_leading c.args.state.now.role ≡ true = sym c.leads.ensures ∙ c.if-not-leads.false in
    rw (c.greatest_confirmed.ensures, c.voters-voters.ensures, lead) (greatest_is c.args.state.now log (config_of log).voters)
