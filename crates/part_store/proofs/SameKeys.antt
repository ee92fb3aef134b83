-- Keys with the same bytes are the same, and the order of bytes tells keys apart.
use Rattle.std.proofs.Common.{◌≡◌, Ok, ap, sym, ◌∙◌}
use Rattle.byte_fields.specs.Order.{bytes_cmp}
use Rattle.byte_fields.specs.Reading.{whole}
use Rattle.byte_fields.proofs.Steps.{ok_is}
use Rattle.byte_fields.proofs.FieldLaws.{whole_again}
use Rattle.kv_part.proofs.Orders.{total, exact}
use Rattle.maps.specs.Keys.{IsKeyOrder}
use Rattle.part_keys.specs.declared.key.Key.{Key}
use Rattle.part_keys.specs.declared.vid_kind.VidKind.{VidKind}
use Rattle.part_keys.specs.Keys.{key, IsKind, FitsKey}
use Rattle.part_keys.specs.ReadingKeys.{key_at}
use Rattle.part_keys.proofs.KeyFormats.{key_format}

pub bytes_keys : IsKeyOrder bytes_cmp
bytes_keys = record { total = total; exact = exact }

-- a key is read back from its bytes
pub key_again : (ids : VidKind) (is-kind : IsKind ids) (k : Key) → FitsKey ids k → whole (key_at ids) (key ids k) ≡ Ok k
key_again ids is-kind k fits = whole_again (key_at ids) (key ids) (FitsKey ids) (key_format ids is-kind).again k fits

pub same_key : (ids : VidKind) → IsKind ids → (k l : Key) → FitsKey ids k → FitsKey ids l → key ids k ≡ key ids l → k ≡ l
same_key ids is-kind k l k-fits l-fits same = ok_is k l (sym (key_again ids is-kind k k-fits) ∙ ap (whole (key_at ids)) same ∙ key_again ids is-kind l l-fits)
