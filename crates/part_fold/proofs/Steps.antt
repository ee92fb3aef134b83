-- One element more of a list that is gone through.
use Rattle.std.proofs.Common.{◌≡◌, ℕ, ◌+◌, ◌<◌, List, ◌∷◌, length, get_or, drop, suc, drop-cons, Option, None, Some, refl, ap, sym, ◌∙◌, add-one}
use Rattle.std.specs.Option.{option_map, option_or}

-- what is left is the element and what is left behind it
pub next_of : {A : Type 0} (xs : List A) (i : ℕ) (x : A) → i < length xs → x ≡ get_or xs i x → drop i xs ≡ x ∷ drop (i + 1) xs
next_of xs i x lt is = rw add-one (drop-cons xs i x lt ∙ ap (λ y. y ∷ drop (suc i) xs) (sym is))

-- of two readings the first tells, or else the second
pub told_first : {A B : Type 0} (f : A → B) (a b : Option A) (x : B) → Some x ≡ option_map f a → option_map f (option_or a b) ≡ Some x
told_first f None b x is = absurd (cc)
told_first f (Some y) b x is = sym is

pub told_second : {A B : Type 0} (f : A → B) (a b : Option A) → None ≡ option_map f a → option_map f (option_or a b) ≡ option_map f b
told_second f None b is = refl
told_second f (Some y) b is = absurd (cc)
