use Rattle.std.proofs.Common.{add-one}
use Rattle.nebstore_app.proofs.MailLemmas.{take-one-more, drop-one-more}
use Rattle.nebstore_app.proofs.mail.Mail.advance.Goals as goal

pub returns-then-self-len-clause-passed : goal.returns-then-self-len-clause-passed
returns-then-self-len-clause-passed c = rw (← c.self.view_is, add-one) (take-one-more c.self.inside.taken c.self.inside.packets.items)

pub returns-then-self-len-clause-waiting : goal.returns-then-self-len-clause-waiting
returns-then-self-len-clause-waiting c = rw (← c.self.view_is, add-one) (drop-one-more c.self.inside.taken c.self.inside.packets.items)
