use Rattle.std.proofs.Common.{length, arith}
use Rattle.byte_fields.specs.Reading.{whole}
use Rattle.byte_fields.proofs.Within.{left_within, whole_within}
use Rattle.wal_frames.specs.Reading.{body_at}
use Rattle.wal_frames.proofs.Within.{body_within}
use Rattle.wal_frames.proofs.reading.decoded.Goals as goal

pub overflow_sub-result : goal.overflow_sub-result
overflow_sub-result c =
    let is = rw c.in-Err-Misfit.field-0-is at c.in-Err-Misfit.ensures in
    left_within (length c.args.body.now) (whole body_at c.args.body.now) c.in-Err-Misfit.misfit (whole_within body_at body_within c.args.body.now) is

pub returns-in-Err-Misfit : goal.returns-in-Err-Misfit
returns-in-Err-Misfit c =
    let is = rw c.in-Err-Misfit.field-0-is at c.in-Err-Misfit.ensures in
    let le = left_within (length c.args.body.now) (whole body_at c.args.body.now) c.in-Err-Misfit.misfit (whole_within body_at body_within c.args.body.now) is in
    (c.in-Err-Misfit.misfit, is, omega arith)
