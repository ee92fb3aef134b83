-- A byte that is no item's kind doesn't fit.
use Rattle.std.proofs.Common.{◌≡◌, ℕ, ◌<◌, List, ◌∷◌, Err, refl, arith}
use Rattle.std.proofs.lemmas.Bool.{ne_eqb}
use Rattle.byte_fields.specs.Reading.{misfit, byte_at}
use Rattle.wal_frames.specs.Reading.{item_of}

-- a kind above those of items doesn't fit
pub no_item : (b : ℕ) (bytes : List ℕ) → 2 < b → item_of (b ∷ bytes) ≡ Err (misfit (b ∷ bytes))
unfolding item_of byte_at
no_item b bytes above = rw (ne_eqb b 0 (omega (arith, above)), ne_eqb b 1 (omega (arith, above)), ne_eqb b 2 (omega (arith, above))) refl
