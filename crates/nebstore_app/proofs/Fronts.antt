-- Fronts of lists, and what is written behind what was.
use Rattle.std.proofs.Common.{◌≡◌, ℕ, ◌+◌, length, List, [], ◌∷◌, ◌++◌, append_assoc, take, zero, suc, Option, Some, None, refl, ap, sym, ◌∙◌, arith, zero-add}
use Rattle.outside_io.specs.Bytes.{Appends, AppendsFront, behind_told}

pub none_more : {A : Type 0} (xs : List A) → xs ++ [] ≡ xs
none_more [] = refl
none_more (x ∷ xs) = ap (λ ys. x ∷ ys) (none_more xs)

-- a front of a middle part, as a front of the whole
pub front_of_whole : {A : Type 0} (xs : List A) (n : ℕ) (ys zs : List A) → take (length xs + length (take n ys)) (xs ++ (ys ++ zs)) ≡ xs ++ take n ys
front_of_whole [] n ys zs = rw zero-add (front_of n ys zs)
  where
    front_of : {A : Type 0} (n : ℕ) (ys zs : List A) → take (length (take n ys)) (ys ++ zs) ≡ take n ys
    front_of zero ys zs = refl
    front_of (suc n) [] zs = refl
    front_of (suc n) (y ∷ ys) zs = ap (λ vs. y ∷ vs) (front_of n ys zs)
front_of_whole (x ∷ xs) n ys zs =
    let longer : length (x ∷ xs) + length (take n ys) ≡ suc (length xs + length (take n ys)) = omega arith in
    ap (λ k. take k (x ∷ (xs ++ (ys ++ zs)))) longer ∙ ap (λ vs. x ∷ vs) (front_of_whole xs n ys zs)

pub behind_none : (told : Option (List ℕ)) → told ≡ behind_told told []
behind_none None = refl
behind_none (Some front) = ap (λ bytes. Some bytes) (sym (none_more front))

behind_both : (told : Option (List ℕ)) (xs ys : List ℕ) → behind_told (behind_told told xs) ys ≡ behind_told told (xs ++ ys)
behind_both None xs ys = refl
behind_both (Some front) xs ys = ap (λ bytes. Some bytes) (append_assoc front xs ys)

-- what is written twice
pub appends_both : (old mid new : Option (List ℕ)) (xs ys : List ℕ) → Appends old xs mid → Appends mid ys new → Appends old (xs ++ ys) new
appends_both old mid new xs ys a b = b ∙ (ap (λ told. behind_told told ys) a ∙ behind_both old xs ys)

-- nothing is a front of all
pub nothing_written : (old : Option (List ℕ)) (bytes : List ℕ) → AppendsFront old bytes old
nothing_written old bytes = (0, behind_none old)

-- a front of the middle part, behind what was written
pub front_written : (old mid new : Option (List ℕ)) (xs ys zs whole : List ℕ) → whole ≡ xs ++ (ys ++ zs) → Appends old xs mid → AppendsFront mid ys new → AppendsFront old whole new
front_written old mid new xs ys zs whole is a b =
    (length xs + length (take b.0 ys), appends_both old mid new xs (take b.0 ys) a b.1 ∙ ap (behind_told old) (sym (ap (take (length xs + length (take b.0 ys))) is ∙ front_of_whole xs b.0 ys zs)))
