-- Rows that are let go, as the definition has them.
use Rattle.std.proofs.Common.{◌≡◌, List, [], ◌∷◌, map, refl, ap, Bool, true, false}
use Rattle.std.specs.Prelude.{cond}
use Rattle.std.specs.List.{filter}

-- a test of what is made of the elements
pub filter_of_map : {X Y : Type 0} (p : Y → Bool) (f : X → Y) (xs : List X) → map f (filter (λ x. p (f x)) xs) ≡ filter p (map f xs)
filter_of_map p f [] = refl
filter_of_map p f (x ∷ xs) = kept_or_not p f x xs (p (f x)) (filter_of_map p f xs)
  where
    kept_or_not : {X Y : Type 0} (p : Y → Bool) (f : X → Y) (x : X) (xs : List X) (b : Bool) → map f (filter (λ y. p (f y)) xs) ≡ filter p (map f xs)
        → map f (cond b (x ∷ filter (λ y. p (f y)) xs) (filter (λ y. p (f y)) xs)) ≡ cond b (f x ∷ filter p (map f xs)) (filter p (map f xs))
    kept_or_not p f x xs true rest = ap (λ ys. f x ∷ ys) rest
    kept_or_not p f x xs false rest = rest
