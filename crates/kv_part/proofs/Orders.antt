-- The order of keys tells them apart.
use Rattle.std.proofs.Common.{◌≡◌, ◌⊎◌, inl, inr, ℕ, List, true, false, refl, ap}
use Rattle.std.specs.declared.cmp.Ordering.{Ordering}
use Rattle.std.specs.declared.cmp.Ordering.TheVariants.{Less, Equal, Greater}
use Rattle.std.specs.Ordering.{is_eq}
use Rattle.std.specs.Cmp.{IsTotalOrder}
use Rattle.std.specs.Cmp.Lexicographic.{nat_list_cmp_total}
use Rattle.std.specs.FinMap.{IsAntisymmetric, slice_cmp-IsAntisymmetric, nat_cmp-IsAntisymmetric}
use Rattle.std.proofs.lemmas.Cmp.{tied_itself}
use Rattle.byte_fields.specs.Order.{bytes_cmp}

-- the order of keys is total
pub total : IsTotalOrder bytes_cmp
total = nat_list_cmp_total

-- keys that stand equal are the same
pub exact : IsAntisymmetric bytes_cmp
exact = slice_cmp-IsAntisymmetric nat_cmp-IsAntisymmetric

-- a key stands equal to itself
pub itself : (a : List ℕ) → is_eq (bytes_cmp a a) ≡ true
itself a = ap is_eq (tied_itself total a)

by_answer : (a b : List ℕ) (r : Ordering) → bytes_cmp a b ≡ r → (a ≡ b) ⊎ (is_eq (bytes_cmp a b) ≡ false)
by_answer a b Less e = inr (ap is_eq e)
by_answer a b Equal e = inl (exact a b e)
by_answer a b Greater e = inr (ap is_eq e)

-- two keys are the same, or are told apart
pub same_or_apart : (a b : List ℕ) → (a ≡ b) ⊎ (is_eq (bytes_cmp a b) ≡ false)
same_or_apart a b = by_answer a b (bytes_cmp a b) refl

tied : (r : Ordering) → is_eq r ≡ true → r ≡ Equal
tied Less e = cc
tied Equal e = refl
tied Greater e = cc

-- keys that are told to be equal are the same
pub same : (a b : List ℕ) → is_eq (bytes_cmp a b) ≡ true → a ≡ b
same a b e = exact a b (tied (bytes_cmp a b) e)
