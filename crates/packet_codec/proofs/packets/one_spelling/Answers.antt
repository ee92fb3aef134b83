use Rattle.byte_fields.proofs.FieldLaws.{apart}
use Rattle.packet_codec.specs.Spelling.{packet}
use Rattle.packet_codec.specs.Fits.{Fits}
use Rattle.packet_codec.specs.Reading.{packet_at}
use Rattle.packet_codec.proofs.PacketFormats.{packet_format}
use Rattle.packet_codec.proofs.packets.one_spelling.Goals as goal

pub returns : goal.returns
returns c = λ p q a b p-fits q-fits same. apart packet_at packet Fits packet_format.again p q a b p-fits q-fits same
