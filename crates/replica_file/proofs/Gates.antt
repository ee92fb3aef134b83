-- Where the gates of a file stand.
use Rattle.std.proofs.Common.{◌≡◌, ℕ, ◌+◌, List, [], ◌∷◌, length, ◌<◌, ◌^◌, subst, ap, ◌∙◌, arith, length-append}
use Rattle.std.specs.List.{flat_map}
use Rattle.std.proofs.lemmas.List.Concat.{flat_map-cons}
use Rattle.byte_fields.specs.Fields.{number}
use Rattle.byte_fields.proofs.Numbers.{length-number}
use Rattle.wal_disk.specs.File.{magic, opened, front}
use Rattle.replica_file.specs.Folded.{first_gate, next_gate}
use Rattle.replica_file.specs.Seen.{last_gate}
use Rattle.replica_file.proofs.Folds.{gates_rise}

one_long : (body : List ℕ) → length (opened body) ≡ 5 + length body
one_long body = omega (arith, length-append (number 4 (length body)) body, length-number 4 (length body))

behind_all : (gate : ℕ) (bodies : List (List ℕ)) → last_gate gate bodies ≡ gate + length (flat_map opened bodies)
behind_all gate [] = omega arith
behind_all gate (body ∷ bodies) =
    let cons = ap length (flat_map-cons opened body bodies) ∙ length-append (opened body) (flat_map opened bodies) in
    omega (arith, cons, one_long body, behind_all (next_gate gate body) bodies)

-- the last gate stands behind the magic and all records
pub last_gate_is : (version : ℕ) (bodies : List (List ℕ)) → last_gate first_gate bodies ≡ length (front version bodies)
last_gate_is version bodies = omega (arith, behind_all first_gate bodies, length-append (magic version) (flat_map opened bodies))

-- a gate behind one of the bodies that are left fits its number
pub gate_fits : (gate : ℕ) (b : List ℕ) (rest left : List (List ℕ)) (last : ℕ) → left ≡ b ∷ rest → last_gate gate left ≡ last → last < 2 ^ 64 → gate + 5 + length b < 2 ^ 64
gate_fits gate b rest left last e placed fits =
    let rises = gates_rise (next_gate gate b) rest in
    let at : last_gate (next_gate gate b) rest ≡ last = subst (λ (l : List (List ℕ)). last_gate gate l ≡ last) e placed in
    omega (arith, rises, at, fits)
