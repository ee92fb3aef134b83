-- A text is read byte by byte.
use Rattle.std.proofs.Common.{◌≡◌, ◌⊎◌, ℕ, ◌+◌, ◌-◌, ◌<◌, ◌≤◌, Bool, true, false, List, [], ◌∷◌, length, drop, refl, ◌∙◌, ap, arith, length-drop, inl, inr}
use Rattle.std.proofs.Math.ListN.{drop_of_length-le}
use Rattle.ngql_lex.specs.declared.text.Ending.TheVariants.{Unread, Broken}
use Rattle.ngql_lex.specs.Texts.{ending, later}

-- behind a backslash, where no further byte is UTF-8, or none is left
escaped_end : (q : ℕ) (bytes : List ℕ) → Unread ≡ ending q true 0 bytes
escaped_end q [] = refl
escaped_end q (b ∷ bytes) = refl

broken_at : (q : ℕ) (bytes : List ℕ) → 0 < length bytes → Broken 0 ≡ ending q false 0 bytes
broken_at q [] h = elim h [ ]
broken_at q (b ∷ bytes) h = refl

pub unread_end : (q good at : ℕ) (escaped : Bool) (bytes : List ℕ) → at ≤ good → good ≤ at → good ≤ length bytes
    → (escaped ≡ true) ⊎ (escaped ≡ false × good ≡ length bytes) → Unread ≡ later at (ending q escaped (good - at) (drop at bytes))
unread_end q good at escaped bytes low high within (inl e) =
    let none : good - at ≡ 0 = omega arith in rw (e, none) (ap (later at) (escaped_end q (drop at bytes)))
unread_end q good at escaped bytes low high within (inr e) =
    let low : length bytes ≤ at = omega (arith, e.1) in rw (drop_of_length-le bytes low) refl

pub broken_end : (q good at : ℕ) (escaped : Bool) (bytes : List ℕ) → at ≤ good → good ≤ at → good ≤ length bytes → (good ≡ length bytes → ⊥) → escaped ≡ false
    → Broken good ≡ later at (ending q escaped (good - at) (drop at bytes))
broken_end q good at escaped bytes low high within apart e =
    let none : good - at ≡ 0 = omega arith in
    let same : good ≡ at + 0 = omega arith in
    let left : 0 < length (drop at bytes) = rw (length-drop at bytes) (omega (arith, apart)) in
    rw (e, none) (ap Broken same ∙ ap (later at) (broken_at q (drop at bytes) left))
