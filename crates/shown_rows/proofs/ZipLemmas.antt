-- Two lists beside each other, of which one has ended.
use Rattle.std.proofs.Common.{◌≡◌, length, List, [], ◌∷◌, refl, ap, ◌∙◌}
use Rattle.std.proofs.lemmas.List.{nil_from_length}
use Rattle.std.specs.List.{zip}

beside_none : {A B : Type 0} (xs : List A) → zip {X = B} xs [] ≡ []
beside_none [] = refl
beside_none (x ∷ xs) = refl

pub first_ended : {A B : Type 0} (xs : List A) (ys : List B) → length xs ≡ 0 → zip xs ys ≡ []
first_ended xs ys e = ap (λ zs. zip zs ys) (nil_from_length xs e)

pub second_ended : {A B : Type 0} (xs : List A) (ys : List B) → length ys ≡ 0 → zip xs ys ≡ []
second_ended xs ys e = ap (λ zs. zip xs zs) (nil_from_length ys e) ∙ beside_none xs
