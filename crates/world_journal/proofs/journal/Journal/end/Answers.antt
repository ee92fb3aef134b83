use Rattle.std.proofs.Common.{sym, ap, ◌∙◌, arith}
use Rattle.world_journal.specs.Ends.{ended_in}
use Rattle.world_journal.proofs.Showing.{marked_past}
use Rattle.world_journal.proofs.journal.Journal.end.Goals as goal

pub returns-else-number-len-clause-packets : goal.returns-else-number-len-clause-packets
returns-else-number-len-clause-packets c = sym (ap (λ n. ended_in n c.args.self.now.packets.0) c.in-Some.is ∙ marked_past c.args.self.now.packets.0 _ (omega (arith, c.len.ensures, c.if-number-len.false)))
