use Rattle.std.proofs.Common.{length, arith}
use Rattle.byte_fields.specs.Reading.{whole}
use Rattle.byte_fields.proofs.Within.{left_within, whole_within}
use Rattle.packet_codec.specs.Reading.{packet_at}
use Rattle.packet_codec.proofs.PacketFormats.{packet_format}
use Rattle.packet_codec.proofs.reading.answered.Goals as goal

pub overflow_sub-result : goal.overflow_sub-result
overflow_sub-result c =
    let is = rw c.in-Err-Misfit.field-0-is at c.in-Err-Misfit.ensures in
    left_within (length c.args.bytes.now) (whole packet_at c.args.bytes.now) c.in-Err-Misfit.misfit (whole_within packet_at packet_format.within c.args.bytes.now) is

pub returns-in-Err-Misfit : goal.returns-in-Err-Misfit
returns-in-Err-Misfit c =
    let is = rw c.in-Err-Misfit.field-0-is at c.in-Err-Misfit.ensures in
    let le = left_within (length c.args.bytes.now) (whole packet_at c.args.bytes.now) c.in-Err-Misfit.misfit (whole_within packet_at packet_format.within c.args.bytes.now) is in
    (c.in-Err-Misfit.misfit, is, omega arith)
