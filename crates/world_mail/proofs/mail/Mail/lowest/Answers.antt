use Rattle.std.proofs.Common.{sym}
use Rattle.world_mail.specs.Blocks.{sent_in}
use Rattle.world_mail.proofs.Marking.{lowest_at, lowest_gone}
use Rattle.world_mail.proofs.mail.Mail.lowest.Goals as goal

pub returns-then-self : goal.returns-then-self
returns-then-self c = rw (← c.self.view_is) (sym (lowest_at (sent_in c.self.inside.blocks.items) _ _ c.self.invariant.front c.self.invariant.len c.if-self.true))

pub returns-else-self : goal.returns-else-self
returns-else-self c = rw (← c.self.view_is) (sym (lowest_gone (sent_in c.self.inside.blocks.items) _ _ c.self.invariant.front c.self.invariant.len c.if-self.false))
