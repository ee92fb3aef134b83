-- Packets are a format.
use Rattle.std.proofs.Common.{◌≡◌, [], ◌∷◌, ◌++◌, refl, sym, ap, subst}
use Rattle.byte_fields.specs.Reading.{made_at}
use Rattle.byte_fields.proofs.Formats.{IsFormat, both_format, counted_format, made_format, renamed_format}
use Rattle.replica_model.specs.declared.packet.Place.{Place}
use Rattle.replica_model.specs.declared.packet.To.{To}
use Rattle.replica_model.specs.declared.packet.Packet.{Packet}
use Rattle.packet_codec.specs.declared.kind.Kind.{Kind}
use Rattle.packet_codec.specs.Kinds.{number_of, body_kind}
use Rattle.packet_codec.specs.Spelling.{place, end, body, packet}
use Rattle.packet_codec.specs.Fits.{FitsPlace, FitsEnd, FitsBody, Fits}
use Rattle.packet_codec.specs.Reading.{head_at, body_at, packet_with, packet_at}
use Rattle.packet_codec.proofs.KindFormats.{kind_format}
use Rattle.packet_codec.proofs.EndFormats.{place_format, end_format}
use Rattle.packet_codec.proofs.BodyFormats.{body_format}

abbrev Head : Type 0
Head = (Kind × Place) × To

-- the kind of a packet, who sends it, and to whom
abbrev head_of : Packet → Head
head_of p = ((body_kind p.body, p.from), p.to)

abbrev FitsHead : Head → Type 0
FitsHead head = (Unit {0} × FitsPlace head.0.1) × FitsEnd head.1

-- the packet's fields fit its head
abbrev IsWith : Head → Packet → Type 0
IsWith head p = FitsBody p.from p.body × (head_of p ≡ head)

head_format : IsFormat head_at (λ head. (number_of head.0.0 ∷ []) ++ place head.0.1 ++ end head.1) FitsHead
unfolding head_at
head_format = both_format (both_format kind_format place_format) end_format

with_format : (head : Head) → IsFormat (λ rest. made_at (packet_with head) (body_at head.0.1 head.0.0) rest) (λ p. body p.body) (IsWith head)
with_format head =
    made_format (packet_with head) (λ p. body p.body) (IsWith head)
    (λ said is. (refl, (is.0, ap (λ (k : Kind). ((k, head.0.1), head.1)) is.1)))
    (λ p is. (p.body, (subst (λ (h : Head). FitsBody h.0.1 p.body) is.1 is.0, ap (λ (h : Head). h.0.0) is.1), ap (λ (h : Head). packet_with h p.body) (sym is.1)))
    (body_format head.0.1 head.0.0)

-- a packet
pub packet_format : IsFormat packet_at packet Fits
unfolding packet_at
packet_format =
    renamed_format Fits
    (λ p is. record { from = is.0.0.1; to = is.0.1; body = is.1 })
    (λ p is. (((tt, is.from), is.to), is.body))
    (counted_format head_of (λ p. FitsBody p.from p.body) head_format with_format)
