use Rattle.std.proofs.Common.{arith, length-append}
use Rattle.disk_model.proofs.Histories.{history_push, moved_push}
use Rattle.disk_model.proofs.overwriting.note.Goals as goal

pub returns-clause-history : goal.returns-clause-history
returns-clause-history c =
    rw (c.in-Ok.ensures.items, c.in-Ok-extend_from_slice.ensures.items) (history_push c.args.calls.now.items c.args.stored.now.items c.args.made c.args.bytes.now c.requires.whole c.requires.size)

pub returns-clause-whole : goal.returns-clause-whole
returns-clause-whole c =
    rw (c.in-Ok.ensures.items, c.in-Ok-extend_from_slice.ensures.items)
    (omega (arith, moved_push c.args.calls.now.items c.args.made, length-append c.args.stored.now.items c.args.bytes.now, c.requires.whole, c.requires.size))
