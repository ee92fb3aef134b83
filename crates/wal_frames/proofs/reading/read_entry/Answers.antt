use Rattle.std.proofs.Common.{length, arith}
use Rattle.byte_fields.specs.Reading.{number_at}
use Rattle.byte_fields.proofs.FieldLaws.{run_lengths}
use Rattle.byte_fields.proofs.Within.{after_within, left_within, number_within}
use Rattle.wal_frames.specs.Reading.{item_of}
use Rattle.wal_frames.proofs.Within.{item_within}
use Rattle.wal_frames.proofs.reading.read_entry.Goals as goal

pub before-requires : goal.before-requires
before-requires c =
    let is = rw c.in-Err-Misfit.field-0-is at c.in-Err-Misfit.ensures in
    let run = c.in_ok-run.run'.now in
    let a = after_within (length c.args.bytes.now) (number_at 8 c.args.bytes.now) (c.in_ok-term.term, c.in_ok-term.rest.now) (number_within 8 c.args.bytes.now) c.in_ok-term.ensures in
    let b = after_within (length c.in_ok-term.rest.now) (number_at 4 c.in_ok-term.rest.now) (c.in_ok-length.length, c.in_ok-length.rest.now) (number_within 4 c.in_ok-term.rest.now) c.in_ok-length.ensures in
    let d = run_lengths c.in_ok-length.length c.in_ok-length.rest.now run c.in_ok-run.rest.now c.in_ok-run.ensures in
    let e = left_within (length run) (item_of run) c.in-Err-Misfit.misfit (item_within run) is in
    omega arith
