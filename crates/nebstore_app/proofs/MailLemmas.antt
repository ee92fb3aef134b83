-- The packets that came and those under way, as one more comes.
use Rattle.std.proofs.Common.{◌≡◌, ℕ, List, [], ◌∷◌, ◌++◌, take, drop, zero, suc, refl, ap}
use Rattle.std.specs.Prelude.{slice_get, option_to_list}

-- one more of the list
pub take-one-more : {A : Type 0} (n : ℕ) (xs : List A) → take (suc n) xs ≡ take n xs ++ option_to_list (slice_get (drop n xs) 0)
take-one-more zero [] = refl
take-one-more zero (x ∷ xs) = refl
take-one-more (suc n) [] = refl
take-one-more (suc n) (x ∷ xs) = ap (λ ys. x ∷ ys) (take-one-more n xs)

pub drop-one-more : {A : Type 0} (n : ℕ) (xs : List A) → drop (suc n) xs ≡ drop 1 (drop n xs)
drop-one-more zero [] = refl
drop-one-more zero (x ∷ xs) = refl
drop-one-more (suc n) [] = refl
drop-one-more (suc n) (x ∷ xs) = drop-one-more n xs
