use Rattle.std.proofs.Common.{List, ℕ, length, subst, arith}
use Rattle.byte_fields.specs.Reading.{whole, ReadsAll}
use Rattle.byte_fields.proofs.Answered.{is_found, is_only}
use Rattle.packet_codec.specs.Reading.{packet_at, place}
use Rattle.packet_codec.proofs.PacketFormats.{packet_format}
use Rattle.packet_codec.proofs.reading.read_packet.Goals as goal

pub returns-clause-found : goal.returns-clause-found
returns-clause-found c = is_found place packet_format c.args.b.now c.answered.result (λ i. omega (arith, c.type_inv.b i)) c.answered.ensures

pub returns-clause-only : goal.returns-clause-only
returns-clause-only c = λ p fits same.
    is_only place packet_format p c.answered.result fits (subst (λ (bytes : List ℕ). ReadsAll place (length bytes) c.answered.result (whole packet_at bytes)) same c.answered.ensures)
