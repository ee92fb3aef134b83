-- One more call joins those that a disk in memory keeps.
use Rattle.std.proofs.Common.{◌≡◌, ℕ, ◌+◌, ◌≤◌, List, [], ◌∷◌, ◌++◌, length, take, drop, ◌∙◌, ap, sym, arith, length-drop}
use Rattle.std.proofs.lemmas.List.{take-append-le, drop-append-le, take_all, take-append-drop, length-take-le}
use Rattle.disk_model.specs.Replay.{history_on, history, moved, size_of}
use Rattle.disk_model.specs.declared.call.Made.{Made}

-- one more call moves its bytes too
pub moved_push : (calls : List Made) (made : Made) → moved (calls ++ made ∷ []) ≡ moved calls + size_of made.call
moved_push [] made = omega arith
moved_push (first ∷ rest) made = omega (arith, moved_push rest made)

on_push : (before : List (Made × List ℕ)) (calls : List Made) (stored : List ℕ) (made : Made) (bytes : List ℕ) → moved calls ≡ length stored → size_of made.call ≡ length bytes
    → history_on before (calls ++ made ∷ []) (stored ++ bytes) ≡ (made, bytes) ∷ history_on before calls stored
on_push before [] [] made bytes whole size = ap (λ (l : List ℕ). (made, l) ∷ before) (take_all (size_of made.call) bytes (omega (arith, size)))
on_push before [] (b ∷ stored) made bytes whole size = absurd (omega (arith, whole))
on_push before (first ∷ rest) stored made bytes whole size =
    let n = size_of first.call in
    let enough : n ≤ length stored = omega (arith, whole) in
    let taken : take n (stored ++ bytes) ≡ take n stored = take-append-le n stored bytes enough in
    let dropped : drop n (stored ++ bytes) ≡ drop n stored ++ bytes = drop-append-le n stored bytes enough in
    ap (λ (l : List ℕ). history_on ((first, l) ∷ before) (rest ++ made ∷ []) (drop n (stored ++ bytes))) taken
    ∙ ap (λ (l : List ℕ). history_on ((first, take n stored) ∷ before) (rest ++ made ∷ []) l) dropped
    ∙ on_push ((first, take n stored) ∷ before) rest (drop n stored) made bytes (omega (arith, whole, length-drop n stored)) size

-- one more call, with its bytes, is the newest of the history
pub history_push : (calls : List Made) (stored : List ℕ) (made : Made) (bytes : List ℕ) → moved calls ≡ length stored → size_of made.call ≡ length bytes
    → history (calls ++ made ∷ []) (stored ++ bytes) ≡ (made, bytes) ∷ history calls stored
history_push = on_push []

-- the newest of the calls, and those before it
pub history_back : (older : List Made) (last : Made) (stored : List ℕ) → moved (older ++ last ∷ []) ≡ length stored
    → history (older ++ last ∷ []) stored ≡ (last, drop (moved older) stored) ∷ history older (take (moved older) stored)
history_back older last stored whole =
    let n = moved older in
    let front : length (take n stored) ≡ n = length-take-le n stored (omega (arith, moved_push older last)) in
    ap (history (older ++ last ∷ [])) (sym (take-append-drop n stored))
    ∙ history_push older (take n stored) last (drop n stored) (sym front) (omega (arith, moved_push older last, length-drop n stored))
