use Rattle.std.proofs.Common.{◌++◌, length, subst, sym, ap, ◌∙◌, arith}
use Rattle.world_mail.specs.Sent.{fresh}
use Rattle.world_model.specs.After.{after}
use Rattle.world_journal.specs.Ends as ends
use Rattle.world_journal.specs.Shows.{Shows}
use Rattle.world_journal.proofs.Showing.{length_ended, shows_behind}
use Rattle.world_journal.proofs.journal.Journal.note.Goals as goal

pub send-requires-clause-numbers : goal.send-requires-clause-numbers
send-requires-clause-numbers c =
    let n = ap length c.end.ensures.packets in
    let m = length_ended c.ended_by.result c.args.self.now.packets.0 in
    omega (arith, n, m, c.requires.room.numbers)

pub returns-clause-shows : goal.returns-clause-shows
returns-clause-shows c codec sp s before lawful spells =
    let e = ap (λ n. ends.ended_in n c.args.self.now.packets.0 ++ fresh c.args.packets) (sym c.ended_by.ensures) ∙ ap (λ sent. sent ++ fresh c.args.packets) (sym c.end.ensures.packets) ∙ sym c.send.ensures.sent in
    subst (λ sent. Shows codec sent (after sp s c.args.event)) e (shows_behind codec sp s c.args.event c.args.self.now.packets.0 c.args.packets before lawful spells)
