use Rattle.std.proofs.Common.{◌∙◌}
use Rattle.std.specs.Option.{option_copied}
use Rattle.chain_leader.proofs.Applying.{ahead, said_rules}
use Rattle.chain_leader.proofs.ahead.item_ahead.Goals as goal

pub returns-in_ok-ahead-in-Made-clause-rules : goal.returns-in_ok-ahead-in-Made-clause-rules
returns-in_ok-ahead-in-Made-clause-rules c parts index machine h =
    let rules = said_rules parts c.args.term index machine c.args.ready c.args.of c.args.item.now c.in-Made.entry c.args.said.now (option_copied c.args.begun) c.in-Made.is h in
    c.in_ok-ahead-in-Made.ensures.rules (ahead parts c.args.term index machine c.args.ready c.in-Made.entry) ∙ rules
