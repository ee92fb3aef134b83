-- Signed numbers with their sign bit flipped are ordered, as bytes, as numbers.
use Rattle.std.proofs.Common.{◌≡◌, ℕ, suc, ◌+◌, ◌^◌, ◌<◌, inl, inr, ℤ, pos, negsuc, FitsSigned, List, ◌++◌, ap, ◌∙◌, arith}
use Rattle.std.specs.declared.cmp.Ordering.{Ordering}
use Rattle.std.specs.declared.cmp.Ordering.TheVariants.{Less, Equal, Greater}
use Rattle.std.specs.Ordering.{int_cmp, nat_cmp, ordering_then}
use Rattle.std.specs.Cmp.{int_cmp_is}
use Rattle.std.specs.Int.{Width, w32, w64, byte_len, cast_unsigned}
use Rattle.std.proofs.lemmas.Int.{ints}
use Rattle.byte_fields.specs.Order.{bytes_cmp}
use Rattle.byte_fields.proofs.Orders.{cmp_less, cmp_equal, cmp_greater, which, moved_cmp, pos_cmp, number_cmp}
use Rattle.part_keys.specs.Keys.{flip, flipped}

-- where the flipped numbers of a width stand: those from 0 on from `half` on, the negative ones below it
pub record IsOrdered (w : Width) : Type 0 where
  half : ℕ
  at_pos : (n : ℕ) → FitsSigned w (pos n) → flip w (cast_unsigned w (pos n)) ≡ half + n
  at_neg : (n : ℕ) → FitsSigned w (negsuc n) → flip w (cast_unsigned w (negsuc n)) + suc n ≡ half
  small : (z : ℤ) → flip w (cast_unsigned w z) < 256 ^ byte_len w

-- flipped numbers of 32 bits stand so
pub ordered32 : IsOrdered w32
ordered32 = record { half = 2147483648; at_pos = λ n fits. omega (arith, fits.sfits); at_neg = λ n fits. omega (arith, fits.sfits); small = λ z. omega arith }

-- flipped numbers of 64 bits stand so
pub ordered64 : IsOrdered w64
ordered64 = record { half = 9223372036854775808; at_pos = λ n fits. omega (arith, fits.sfits); at_neg = λ n fits. omega (arith, fits.sfits); small = λ z. omega arith }

flip_cmp : (w : Width) (is : IsOrdered w) (z y : ℤ) → FitsSigned w z → FitsSigned w y → nat_cmp (flip w (cast_unsigned w z)) (flip w (cast_unsigned w y)) ≡ int_cmp z y
flip_cmp w is (pos n) (pos m) z-fits y-fits =
    let a = is.at_pos n z-fits in let b = is.at_pos m y-fits in
    ap (λ (u : ℕ). nat_cmp u (flip w (cast_unsigned w (pos m)))) a ∙ ap (nat_cmp (is.half + n)) b ∙ moved_cmp is.half n m ∙ pos_cmp n m
flip_cmp w is (pos n) (negsuc m) z-fits y-fits =
    let a = is.at_pos n z-fits in let b = is.at_neg m y-fits in
    cmp_greater (flip w (cast_unsigned w (pos n))) (flip w (cast_unsigned w (negsuc m))) (omega (arith, a, b))
flip_cmp w is (negsuc n) (pos m) z-fits y-fits =
    let a = is.at_neg n z-fits in let b = is.at_pos m y-fits in
    cmp_less (flip w (cast_unsigned w (negsuc n))) (flip w (cast_unsigned w (pos m))) (omega (arith, a, b))
flip_cmp w is (negsuc n) (negsuc m) z-fits y-fits =
    let a = is.at_neg n z-fits in let b = is.at_neg m y-fits in
    elim (which n m) [
      | inl lt ↦ cmp_greater (flip w (cast_unsigned w (negsuc n))) (flip w (cast_unsigned w (negsuc m))) (omega (arith, a, b)) ∙ int_cmp_is (negsuc n) (negsuc m) Greater (omega (arith, ints))
      | inr rest ↦ elim rest [
        | inl e ↦ cmp_equal (flip w (cast_unsigned w (negsuc n))) (flip w (cast_unsigned w (negsuc m))) (omega (arith, a, b)) ∙ int_cmp_is (negsuc n) (negsuc m) Equal (ap (λ (k : ℕ). negsuc k) e)
        | inr gt ↦ cmp_less (flip w (cast_unsigned w (negsuc n))) (flip w (cast_unsigned w (negsuc m))) (omega (arith, a, b)) ∙ int_cmp_is (negsuc n) (negsuc m) Less (omega (arith, ints))
      ]
    ]

-- bytes of flipped numbers are ordered by the numbers, then by what follows
pub flipped_cmp : (w : Width) (is : IsOrdered w) (z y : ℤ) (a b : List ℕ) → FitsSigned w z → FitsSigned w y → bytes_cmp (flipped w z ++ a) (flipped w y ++ b) ≡ ordering_then (int_cmp z y) (bytes_cmp a b)
flipped_cmp w is z y a b z-fits y-fits =
    number_cmp (byte_len w) (flip w (cast_unsigned w z)) (flip w (cast_unsigned w y)) a b (is.small z) (is.small y)
    ∙ ap (λ (o : Ordering). ordering_then o (bytes_cmp a b)) (flip_cmp w is z y z-fits y-fits)
