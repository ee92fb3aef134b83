-- The formats of who sends and to whom.
use Rattle.std.proofs.Common.{◌≡◌, ℕ, zero, suc, ◌<◌, List, [], ◌∷◌, ◌++◌, length, Ok, Err, refl, sym, ◌∙◌, arith}
use Rattle.std.proofs.lemmas.Bool.{ne_eqb}
use Rattle.byte_fields.specs.Reading.{misfit, byte_at}
use Rattle.byte_fields.proofs.Steps.{IsBytes, Takes}
use Rattle.byte_fields.proofs.Within.{IsWithin}
use Rattle.byte_fields.specs.Fields.{number}
use Rattle.byte_fields.proofs.Numbers.{wide4}
use Rattle.byte_fields.proofs.Formats.{IsFormat, number_format, both_format, made_again, made_within, kind_takes}
use Rattle.graph_bytes.proofs.EdgeFormats.{small_format}
use Rattle.replica_model.specs.declared.packet.Place.{Place}
use Rattle.replica_model.specs.declared.packet.Place.TheVariants as places
use Rattle.replica_model.specs.declared.packet.To.{To}
use Rattle.replica_model.specs.declared.packet.To.TheVariants as ends
use Rattle.packet_codec.specs.Spelling.{place, end}
use Rattle.packet_codec.specs.Fits.{FitsAt, FitsPlace, FitsEnd}
use Rattle.packet_codec.specs.Reading.{part_at, place_at, end_at}

-- a part, and a number of 4 bytes
pub part_format : IsFormat part_at (λ x. number 4 x.0 ++ number 4 x.1) (λ x. FitsAt x.0 x.1)
unfolding part_at
part_format = both_format small_format (number_format 4 wide4)

-- a byte that is no kind doesn't fit
no_place : (b : ℕ) (bytes : List ℕ) → 1 < b → place_at (b ∷ bytes) ≡ Err (misfit (b ∷ bytes))
unfolding place_at byte_at
no_place b bytes above = rw (ne_eqb b 0 (omega (arith, above)), ne_eqb b 1 (omega (arith, above))) refl

place_takes : (bytes : List ℕ) (x : Place) (rest : List ℕ) → IsBytes bytes → place_at bytes ≡ Ok (x, rest) → Takes bytes (place x) rest × FitsPlace x
unfolding place_at byte_at
place_takes [] x rest fits e = absurd cc
place_takes (zero ∷ bytes) x rest fits e = kind_takes 0 (λ n. places.Client n) place FitsPlace small_format (λ a is. (refl, is)) bytes x rest fits e
place_takes (suc zero ∷ bytes) x rest fits e = kind_takes 1 (λ x. places.Peer x.0 x.1) place FitsPlace part_format (λ a is. (refl, is)) bytes x rest fits e
place_takes (suc (suc kind) ∷ bytes) x rest fits e = let no = sym (no_place (suc (suc kind)) bytes (omega arith)) ∙ e in absurd cc

place_again : (x : Place) (rest : List ℕ) → FitsPlace x → place_at (place x ++ rest) ≡ Ok (x, rest)
unfolding place_at byte_at
place_again (places.Client n) rest fits = made_again (λ n. places.Client n) small_format n rest fits
place_again (places.Peer part peer) rest fits = made_again (λ x. places.Peer x.0 x.1) part_format (part, peer) rest fits

place_within : (bytes : List ℕ) → IsWithin (length bytes) (place_at bytes)
unfolding place_at byte_at
place_within [] = omega arith
place_within (zero ∷ bytes) = made_within (λ n. places.Client n) small_format (length (0 ∷ bytes)) bytes (omega arith)
place_within (suc zero ∷ bytes) = made_within (λ x. places.Peer x.0 x.1) part_format (length (1 ∷ bytes)) bytes (omega arith)
place_within (suc (suc kind) ∷ bytes) = rw (no_place (suc (suc kind)) bytes (omega arith)) (omega arith)

-- who sends
pub place_format : IsFormat place_at place FitsPlace
place_format = record { takes = place_takes; again = place_again; within = place_within }

-- a byte that is no kind doesn't fit
no_end : (b : ℕ) (bytes : List ℕ) → 2 < b → end_at (b ∷ bytes) ≡ Err (misfit (b ∷ bytes))
unfolding end_at byte_at
no_end b bytes above = rw (ne_eqb b 0 (omega (arith, above)), ne_eqb b 1 (omega (arith, above)), ne_eqb b 2 (omega (arith, above))) refl

end_takes : (bytes : List ℕ) (x : To) (rest : List ℕ) → IsBytes bytes → end_at bytes ≡ Ok (x, rest) → Takes bytes (end x) rest × FitsEnd x
unfolding end_at byte_at
end_takes [] x rest fits e = absurd cc
end_takes (zero ∷ bytes) x rest fits e = kind_takes 0 (λ n. ends.Client n) end FitsEnd small_format (λ a is. (refl, is)) bytes x rest fits e
end_takes (suc zero ∷ bytes) x rest fits e = kind_takes 1 (λ x. ends.Peer x.0 x.1) end FitsEnd part_format (λ a is. (refl, is)) bytes x rest fits e
end_takes (suc (suc zero) ∷ bytes) x rest fits e = kind_takes 2 (λ x. ends.Part x.0 x.1) end FitsEnd part_format (λ a is. (refl, is)) bytes x rest fits e
end_takes (suc (suc (suc kind)) ∷ bytes) x rest fits e = let no = sym (no_end (suc (suc (suc kind))) bytes (omega arith)) ∙ e in absurd cc

end_again : (x : To) (rest : List ℕ) → FitsEnd x → end_at (end x ++ rest) ≡ Ok (x, rest)
unfolding end_at byte_at
end_again (ends.Client n) rest fits = made_again (λ n. ends.Client n) small_format n rest fits
end_again (ends.Peer part peer) rest fits = made_again (λ x. ends.Peer x.0 x.1) part_format (part, peer) rest fits
end_again (ends.Part part try) rest fits = made_again (λ x. ends.Part x.0 x.1) part_format (part, try) rest fits

end_within : (bytes : List ℕ) → IsWithin (length bytes) (end_at bytes)
unfolding end_at byte_at
end_within [] = omega arith
end_within (zero ∷ bytes) = made_within (λ n. ends.Client n) small_format (length (0 ∷ bytes)) bytes (omega arith)
end_within (suc zero ∷ bytes) = made_within (λ x. ends.Peer x.0 x.1) part_format (length (1 ∷ bytes)) bytes (omega arith)
end_within (suc (suc zero) ∷ bytes) = made_within (λ x. ends.Part x.0 x.1) part_format (length (2 ∷ bytes)) bytes (omega arith)
end_within (suc (suc (suc kind)) ∷ bytes) = rw (no_end (suc (suc (suc kind))) bytes (omega arith)) (omega arith)

-- to whom
pub end_format : IsFormat end_at end FitsEnd
end_format = record { takes = end_takes; again = end_again; within = end_within }
