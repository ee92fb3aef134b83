use Rattle.std.proofs.Common.{◌++◌, length, sym, ◌∙◌, ap, arith, length-append}
use Rattle.world_mail.specs.declared.block.Block.{Block}
use Rattle.world_mail.specs.Blocks.{sent_in}
use Rattle.world_mail.specs.Sent.{front_of, bytes_of}
use Rattle.world_mail.proofs.Marking.{front_more}
use Rattle.world_mail.proofs.Numbering.{sent_more, numbered_more}
use Rattle.world_mail.proofs.mail.Mail.send.Goals as goal

pub invariant_of-self : goal.invariant_of-self
invariant_of-self c =
    let block : Block = record { first = c.self.inside.len; sent = c.packets.inside.sent } in
    let more = sent_more c.self.inside.blocks.items block in
    let n = length-append (sent_in c.self.inside.blocks.items) c.packets.inside.sent.items in
    rw c.in-Ok.ensures.items (record {
      numbered = numbered_more 0 c.self.inside.blocks.items block c.self.invariant.numbered (omega (arith, c.self.invariant.len));
      len = (let e = ap length more in omega (arith, e, n, c.self.invariant.len, c.len.ensures, c.packets.inside.sent.ok.0));
      front = c.self.invariant.front ∙ sym (ap front_of more ∙ ap (λ r. front_of (sent_in c.self.inside.blocks.items ++ r)) c.packets.invariant ∙ front_more (sent_in c.self.inside.blocks.items) (bytes_of c.packets.inside.sent.items));
    })

pub returns-clause-sent : goal.returns-clause-sent
returns-clause-sent c =
    let block : Block = record { first = c.self.inside.len; sent = c.packets.inside.sent } in
    rw (c.in-Ok.ensures.items, ← c.self.view_is, ← c.packets.view_is) (sent_more c.self.inside.blocks.items block ∙ ap (λ r. sent_in c.self.inside.blocks.items ++ r) c.packets.invariant)
