-- A key that is told by its spelling is the one that is read.
use Rattle.std.proofs.Common.{◌≡◌, ℕ, List, Option, Some, None, Ok, Err, refl, sym, ap, ◌∙◌}
use Rattle.std.specs.Prelude.{IfSome}
use Rattle.std.specs.Result.{result_ok}
use Rattle.byte_fields.specs.Reading.{whole}
use Rattle.byte_fields.proofs.Steps.{IsBytes}
use Rattle.byte_fields.proofs.FieldLaws.{whole_takes}
use Rattle.part_keys.specs.declared.key.Key.{Key}
use Rattle.part_keys.specs.declared.vid_kind.VidKind.{VidKind}
use Rattle.part_keys.specs.Keys.{key, IsKind, FitsKey}
use Rattle.part_keys.specs.ReadingKeys.{key_at}
use Rattle.part_keys.proofs.KeyFormats.{key_format}
use Rattle.part_store.proofs.SameKeys.{key_again}
use Rattle.part_views.specs.Reading.{key_in}

pub key_read : (ids : VidKind) → IsKind ids → (bytes : List ℕ) → IsBytes bytes → (o : Option Key) → IfSome o (λ k. FitsKey ids k × (bytes ≡ key ids k)) → ((k : Key) → FitsKey ids k → bytes ≡ key ids k → o ≡ Some k) → o ≡ key_in ids bytes
key_read ids is-kind bytes are (Some k) found only = sym (ap (key_in ids) found.1 ∙ ap result_ok (key_again ids is-kind k found.0))
key_read ids is-kind bytes are None found only = elim (whole (key_at ids) bytes) as (λ r. whole (key_at ids) bytes ≡ r → None ≡ result_ok r) [
  | Ok k ↦ λ read. (let t = whole_takes (key_at ids) (key ids) (FitsKey ids) (key_format ids is-kind).takes bytes k are read in only k t.1 t.0)
  | Err misfit ↦ λ read. refl
] refl
