-- Fields one behind the other are ordered by the first, then by the second; numbers as bytes, as numbers.
use Rattle.std.proofs.Common.{◌≡◌, ℕ, zero, suc, ◌+◌, ◌*◌, ◌/◌, ◌%◌, ◌^◌, ◌<◌, ◌≤◌, ◌⊎◌, inl, inr, pos, List, [], ◌∷◌, ◌++◌, length, refl, sym, ap, ◌∙◌, arith}
use Rattle.std.specs.declared.cmp.Ordering.{Ordering}
use Rattle.std.specs.declared.cmp.Ordering.TheVariants.{Less, Equal, Greater}
use Rattle.std.specs.Ordering.{int_cmp, nat_cmp, ordering_then}
use Rattle.std.specs.Cmp.{nat_cmp_is, int_cmp_is}
use Rattle.std.specs.Cmp.Lexicographic.{nat_list_cmp_total}
use Rattle.std.proofs.lemmas.Cmp.{tied_itself}
use Rattle.std.specs.Int.{byte_at}
use Rattle.std.proofs.lemmas.Bool.{cases_lt}
use Rattle.std.proofs.lemmas.Int.{ints}
use Rattle.std.proofs.Math.Nat.{add-mul, add_assoc, div-add-mod', div-one, mod-eq_of_lt, mod-lt, mul-add-mod_self_right, mul-le-mul_right, mul_assoc, one-le-pow, pow-succ'}
use Rattle.byte_fields.specs.Fields.{number}
use Rattle.byte_fields.specs.Order.{bytes_cmp}

-- ---- numbers

-- the lower of two numbers stands first
pub cmp_less : (x y : ℕ) → x < y → nat_cmp x y ≡ Less
cmp_less x y lt = sym (nat_cmp_is x y Less lt)

-- equal numbers aren't told apart
pub cmp_equal : (x y : ℕ) → x ≡ y → nat_cmp x y ≡ Equal
cmp_equal x y e = sym (nat_cmp_is x y Equal e)

-- the greater of two numbers stands last
pub cmp_greater : (x y : ℕ) → y < x → nat_cmp x y ≡ Greater
cmp_greater x y gt = sym (nat_cmp_is x y Greater gt)

-- of two numbers one is lower, or they are equal
pub which : (x y : ℕ) → (x < y) ⊎ ((x ≡ y) ⊎ (y < x))
which x y =
    elim (cases_lt x y) [
      | inl lt ↦ inl lt
      | inr le ↦ elim (cases_lt y x) [
        | inl gt ↦ inr (inr gt)
        | inr ge ↦ inr (inl (omega arith))
      ]
    ]

-- as numbers with a sign
pub pos_cmp : (x y : ℕ) → nat_cmp x y ≡ int_cmp (pos x) (pos y)
pos_cmp x y =
    elim (which x y) [
      | inl lt ↦ cmp_less x y lt ∙ int_cmp_is (pos x) (pos y) Less (omega (arith, ints))
      | inr rest ↦ elim rest [
        | inl e ↦ cmp_equal x y e ∙ int_cmp_is (pos x) (pos y) Equal (ap (λ (k : ℕ). pos k) e)
        | inr gt ↦ cmp_greater x y gt ∙ int_cmp_is (pos x) (pos y) Greater (omega (arith, ints))
      ]
    ]

-- moved by the same
pub moved_cmp : (k x y : ℕ) → nat_cmp (k + x) (k + y) ≡ nat_cmp x y
moved_cmp k x y =
    elim (which x y) [
      | inl lt ↦ cmp_less (k + x) (k + y) (omega arith) ∙ sym (cmp_less x y lt)
      | inr rest ↦ elim rest [
        | inl e ↦ cmp_equal (k + x) (k + y) (omega arith) ∙ sym (cmp_equal x y e)
        | inr gt ↦ cmp_greater (k + x) (k + y) (omega arith) ∙ sym (cmp_greater x y gt)
      ]
    ]

above_all : (b g h l m : ℕ) → g < h → l < b → g * b + l < h * b + m
above_all b g h l m lt small =
    let top : (g + 1) * b ≤ h * b = mul-le-mul_right b (omega arith) in
    let expand : (g + 1) * b ≡ g * b + 1 * b = add-mul g 1 b in
    omega arith

-- by the higher digit, then by the lower ones
digits_cmp : (b g h l m : ℕ) → l < b → m < b → ordering_then (nat_cmp g h) (nat_cmp l m) ≡ nat_cmp (g * b + l) (h * b + m)
digits_cmp b g h l m l-small m-small =
    elim (which g h) [
      | inl lt ↦ ap (λ (o : Ordering). ordering_then o (nat_cmp l m)) (cmp_less g h lt) ∙ sym (cmp_less (g * b + l) (h * b + m) (above_all b g h l m lt l-small))
      | inr rest ↦ elim rest [
        | inl e ↦ ap (λ (o : Ordering). ordering_then o (nat_cmp l m)) (cmp_equal g h e) ∙ sym (moved_cmp (g * b) l m) ∙ ap (λ (k : ℕ). nat_cmp (g * b + l) (k * b + m)) e
        | inr gt ↦ ap (λ (o : Ordering). ordering_then o (nat_cmp l m)) (cmp_greater g h gt) ∙ sym (cmp_greater (g * b + l) (h * b + m) (above_all b h g m l gt m-small))
      ]
    ]

-- orders that decide one after the other may be grouped at will
pub then_assoc : (o p q : Ordering) → ordering_then (ordering_then o p) q ≡ ordering_then o (ordering_then p q)
then_assoc Less p q = refl
then_assoc Equal p q = refl
then_assoc Greater p q = refl

-- the two low digits of n, to the bases c and then m
split : (n m c : ℕ) → zero < m → zero < c → n % (m * c) ≡ (n / c % m) * c + n % c
split n m c hm hc =
    let a = mod-lt (n / c) hm in
    let b = mod-lt n hc in
    let top : (n / c % m + 1) * c ≤ m * c = mul-le-mul_right c (omega arith) in
    let expand : (n / c % m + 1) * c ≡ n / c % m * c + 1 * c = add-mul (n / c % m) 1 c in
    let parts : n ≡ n / c / m * (m * c) + (n / c % m * c + n % c) =
    sym (div-add-mod' n c)
    ∙ ap (λ (x : ℕ). x * c + n % c) (sym (div-add-mod' (n / c) m))
    ∙ ap (λ (x : ℕ). x + n % c) (add-mul (n / c / m * m) (n / c % m) c ∙ ap (λ (x : ℕ). x + n / c % m * c) (mul_assoc (n / c / m) m c))
    ∙ add_assoc (n / c / m * (m * c)) (n / c % m * c) (n % c) in
    ap (λ (x : ℕ). x % (m * c)) parts ∙ mul-add-mod_self_right (n / c / m) (m * c) (n / c % m * c + n % c) ∙ mod-eq_of_lt (omega arith)

pow_above : (n : ℕ) → zero < 256 ^ n
pow_above n = let h = one-le-pow n 256 (omega arith) in omega arith

byte_is : (k x : ℕ) → byte_at k x ≡ x / 256 ^ k % 256
byte_is zero x = ap (λ (y : ℕ). y % 256) (sym (div-one x))
byte_is (suc k) x = refl

low_digits : (k x : ℕ) → x % 256 ^ suc k ≡ byte_at k x * 256 ^ k + x % 256 ^ k
low_digits k x = ap (λ (p : ℕ). x % p) (pow-succ' 256 k) ∙ split x 256 (256 ^ k) (omega arith) (pow_above k) ∙ ap (λ (h : ℕ). h * 256 ^ k + x % 256 ^ k) (sym (byte_is k x))

-- numbers of n bytes, then what follows them
low_cmp : (n x y : ℕ) (a b : List ℕ) → bytes_cmp (number n x ++ a) (number n y ++ b) ≡ ordering_then (nat_cmp (x % 256 ^ n) (y % 256 ^ n)) (bytes_cmp a b)
unfolding number
low_cmp zero x y a b = ap (λ (o : Ordering). ordering_then o (bytes_cmp a b)) (sym (cmp_equal (x % 1) (y % 1) (omega arith)))
low_cmp (suc k) x y a b =
    ap (λ (o : Ordering). ordering_then (nat_cmp (byte_at k x) (byte_at k y)) o) (low_cmp k x y a b)
    ∙ sym (then_assoc (nat_cmp (byte_at k x) (byte_at k y)) (nat_cmp (x % 256 ^ k) (y % 256 ^ k)) (bytes_cmp a b))
    ∙ ap (λ (o : Ordering). ordering_then o (bytes_cmp a b)) (digits_cmp (256 ^ k) (byte_at k x) (byte_at k y) (x % 256 ^ k) (y % 256 ^ k) (mod-lt x (pow_above k)) (mod-lt y (pow_above k)))
    ∙ ap (λ (u : ℕ). ordering_then (nat_cmp u (byte_at k y * 256 ^ k + y % 256 ^ k)) (bytes_cmp a b)) (sym (low_digits k x))
    ∙ ap (λ (v : ℕ). ordering_then (nat_cmp (x % 256 ^ suc k) v) (bytes_cmp a b)) (sym (low_digits k y))

-- bytes of numbers of one width are ordered by the numbers, then by what follows
pub number_cmp : (n x y : ℕ) (a b : List ℕ) → x < 256 ^ n → y < 256 ^ n → bytes_cmp (number n x ++ a) (number n y ++ b) ≡ ordering_then (nat_cmp x y) (bytes_cmp a b)
number_cmp n x y a b x-lt y-lt =
    low_cmp n x y a b ∙ ap (λ (u : ℕ). ordering_then (nat_cmp u (y % 256 ^ n)) (bytes_cmp a b)) (mod-eq_of_lt x-lt) ∙ ap (λ (v : ℕ). ordering_then (nat_cmp x v) (bytes_cmp a b)) (mod-eq_of_lt y-lt)

-- ---- bytes behind bytes

-- two fields of one length, then what follows each
pub append_cmp : (xs ys a b : List ℕ) → length xs ≡ length ys → bytes_cmp (xs ++ a) (ys ++ b) ≡ ordering_then (bytes_cmp xs ys) (bytes_cmp a b)
append_cmp [] [] a b same = refl
append_cmp [] (y ∷ ys) a b same = absurd (omega (arith, same))
append_cmp (x ∷ xs) [] a b same = absurd (omega (arith, same))
append_cmp (x ∷ xs) (y ∷ ys) a b same =
    ap (ordering_then (nat_cmp x y)) (append_cmp xs ys a b (omega (arith, same))) ∙ sym (then_assoc (nat_cmp x y) (bytes_cmp xs ys) (bytes_cmp a b))

-- bytes aren't told from themselves
pub itself_cmp : (a : List ℕ) → bytes_cmp a a ≡ Equal
itself_cmp a = tied_itself nat_list_cmp_total a

-- nothing told apart behind decides nothing
pub then_equal : (o : Ordering) → ordering_then o Equal ≡ o
then_equal Less = refl
then_equal Equal = refl
then_equal Greater = refl
