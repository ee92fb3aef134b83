use Rattle.schema_book.proofs.CreateLemmas.{sound_entry}
use Rattle.schema_book.proofs.book.make_entry.Goals as goal

pub add-requires-clause-sound : goal.add-requires-clause-sound
add-requires-clause-sound c =
    rw c.in_ok-columns.ensures (sound_entry c.args.own.now c.args.others.now c.args.name.now c.args.columns.now (rw c.as_slice-2.ensures at c.in_ok-check_entry.ensures))
