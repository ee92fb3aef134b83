-- Bytes that are told, as they go in several pieces.
use Rattle.std.proofs.Common.{◌≡◌, List, ℕ, ◌++◌, ◌-◌, ◌+◌, length, take, drop, Option, Some, None, refl, sym, ap, ◌∙◌, append_assoc}
use Rattle.std.proofs.lemmas.List.{take_rest, take-append-drop, drop-drop}
use Rattle.std.proofs.Math.Seq.{take-add, take-append_seam}
use Rattle.outside_io.specs.Bytes.{behind_told, Appends}

behind_behind : (told : Option (List ℕ)) (xs ys : List ℕ) → behind_told (behind_told told xs) ys ≡ behind_told told (xs ++ ys)
behind_behind None xs ys = refl
behind_behind (Some bytes) xs ys = ap Some (append_assoc bytes xs ys)

-- some bytes were written, and then more
appends_more : (a b c : Option (List ℕ)) (xs ys : List ℕ) → Appends a xs b → Appends b ys c → Appends a (xs ++ ys) c
appends_more a b c xs ys first second = second ∙ ap (λ t. behind_told t ys) first ∙ behind_behind a xs ys

-- a front of the bytes, and a front of the rest
pub front_more : (xs : List ℕ) (done n : ℕ) → take done xs ++ take n (take (length xs - done) (drop done xs)) ≡ take (done + n) xs
front_more xs done n = ap (λ l. take done xs ++ take n l) (take_rest xs done) ∙ sym (take-add done n xs)

-- after a write of what follows the front that was written
pub appends_on : (a b c : Option (List ℕ)) (xs : List ℕ) (done n : ℕ) → Appends a (take done xs) b
    → Appends b (take n (take (length xs - done) (drop done xs))) c → Appends a (take (done + n) xs) c
appends_on a b c xs done n first second = appends_more a b c _ _ first second ∙ ap (behind_told a) (front_more xs done n)

-- what was copied to the front of a buffer, and the rest of the bytes
pub front_and_rest : (bytes copied buffer : List ℕ) (at n : ℕ) → length copied ≡ n → copied ≡ take n (take (length bytes - at) (drop at bytes))
    → drop at bytes ≡ take n (copied ++ buffer) ++ drop (at + n) bytes
front_and_rest bytes copied buffer at n len is =
    let front : take n (copied ++ buffer) ≡ take n (drop at bytes) = ap (λ k. take k (copied ++ buffer)) (sym len) ∙ take-append_seam copied buffer ∙ is ∙ ap (take n) (take_rest bytes at) in
    sym (ap (λ l. l ++ drop (at + n) bytes) front ∙ ap (λ l. take n (drop at bytes) ++ l) (sym (drop-drop n at bytes)) ∙ take-append-drop n (drop at bytes))
