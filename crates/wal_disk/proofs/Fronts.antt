-- The records of a file, and one more behind them.
use Rattle.std.proofs.Common.{◌≡◌, ℕ, ◌+◌, List, [], ◌∷◌, ◌++◌, length, refl, sym, ◌∙◌, ap, arith, append_assoc, length-append, ◌-◌, inl, inr}
use Rattle.std.proofs.lemmas.List.{append-nil, nil_from_length}
use Rattle.std.proofs.lemmas.List.Concat.{flat_map-append}
use Rattle.std.specs.List.{flat_map, AllByRecursion}
use Rattle.byte_fields.specs.Versions.{IsVersion}
use Rattle.byte_fields.specs.Frames.{HasFrame, sized, open_gate}
use Rattle.wal_disk.specs.File.{magic, front, opened, IsBroken}

-- one body more that has a frame
pub fit_push : (bodies : List (List ℕ)) (body : List ℕ) → AllByRecursion HasFrame bodies → HasFrame body → AllByRecursion HasFrame (bodies ++ body ∷ [])
fit_push [] body fit fits = (fits, tt)
fit_push (first ∷ rest) body fit fits = (fit.0, fit_push rest body fit.1 fits)

-- the front of one record more
pub front_push : (version : ℕ) (bodies : List (List ℕ)) (body rest : List ℕ) → front version (bodies ++ body ∷ []) ++ rest ≡ front version bodies ++ (open_gate ∷ (sized body ++ rest))
front_push version bodies body rest =
    ap (λ (l : List ℕ). magic version ++ l ++ rest) (flat_map-append opened bodies (body ∷ []))
    ∙ ap (λ (l : List ℕ). magic version ++ (flat_map opened bodies ++ l) ++ rest) (append-nil (opened body))
    ∙ ap (λ (l : List ℕ). l ++ rest) (sym (append_assoc (magic version) (flat_map opened bodies) (opened body)))
    ∙ append_assoc (front version bodies) (opened body) rest

-- after one record more is read
pub read_on : (version : ℕ) (file : List ℕ) (bodies : List (List ℕ)) (body behind next : List ℕ) → file ≡ front version bodies ++ open_gate ∷ behind → behind ≡ sized body ++ next → file ≡ front version (bodies ++ body ∷ []) ++ next
read_on version file bodies body behind next whole found =
    whole ∙ ap (λ (l : List ℕ). front version bodies ++ open_gate ∷ l) found ∙ sym (front_push version bodies body next)

-- the file ends where a gate should stand
pub ended : (version : ℕ) (file : List ℕ) (bodies : List (List ℕ)) (rest : List ℕ) → IsVersion version → AllByRecursion HasFrame bodies → file ≡ front version bodies ++ rest → length rest ≡ 0 → IsBroken file (length file - length rest)
ended version file bodies rest known fit whole none =
    let size : length file ≡ length (front version bodies) + length rest = ap length whole ∙ length-append (front version bodies) rest in
    inr (version, bodies, record { known = known; rest = rest; n = 0; fit = fit; whole = whole; cut = inl (nil_from_length rest none, refl); place = omega (arith, size, none) })
