-- A text with zeros behind it.
use Rattle.std.proofs.Common.{◌≡◌, ℕ, zero, suc, ◌-◌, ◌≤◌, List, ◌++◌, length, drop, refl, sym, ap, ◌∙◌, arith}
use Rattle.std.proofs.lemmas.List.{take_at, length-append}
use Rattle.graph_model.specs.Names.{zeros, text_of, name_of, IsShortText}

pub length-zeros : (n : ℕ) → length (zeros n) ≡ n
length-zeros zero = refl
length-zeros (suc n) = ap suc (length-zeros n)

-- zeros behind the first n of them
pub drop-zeros : (n m : ℕ) → drop n (zeros m) ≡ zeros (m - n)
drop-zeros zero m = ap zeros {x = m} {y = m - 0} (omega arith)
drop-zeros (suc n) zero = ap zeros {x = 0} {y = 0 - suc n} (omega arith)
drop-zeros (suc n) (suc m) = drop-zeros n m ∙ ap zeros {x = m - n} {y = suc m - suc n} (omega arith)

-- the text of a text's name is that text
pub text_back : (t : List ℕ) → text_of (name_of t) ≡ t
text_back t = take_at t (zeros (32 - length t)) (length t) refl

-- the name of a text of at most 32 bytes keeps the rule of names
pub named : (t : List ℕ) → length t ≤ 32 → IsShortText (name_of t)
named t short = record {
  size = omega (arith, length-append t (zeros (32 - length t)), length-zeros (32 - length t), short);
  short = short;
  filled = ap (λ (text : List ℕ). text ++ zeros (32 - length t)) (sym (text_back t));
}
