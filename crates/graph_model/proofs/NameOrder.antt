-- Names before and after another: they differ in one byte behind a common front.
use Rattle.std.proofs.Common.{◌≡◌, ℕ, suc, ◌-◌, ◌<◌, List, [], ◌∷◌, ◌++◌, length, drop, refl, ap, sym, ◌∙◌, arith, append_assoc}
use Rattle.std.specs.Ordering.{nat_cmp, ordering_then}
use Rattle.std.specs.Cmp.{nat_cmp_is}
use Rattle.std.specs.Cmp.Lexicographic.{slice_cmp}
use Rattle.std.specs.declared.cmp.Ordering.TheVariants.{Less, Equal}
use Rattle.std.proofs.lemmas.List.{length-take}
use Rattle.std.proofs.Math.ListN.{set, get_or}
use Rattle.std.proofs.Math.Seq.{set-append_seam, drop-cons}
use Rattle.graph_model.specs.Names.{ShortText, zeros, text_of, name_of, IsShortText}
use Rattle.graph_model.specs.Keys.{name_cmp}

-- behind a common front the lesser element decides
less_there : (p : List ℕ) (x y : ℕ) (xs ys : List ℕ) → x < y → slice_cmp nat_cmp (p ++ x ∷ xs) (p ++ y ∷ ys) ≡ Less
less_there [] x y xs ys l = ap (λ o. ordering_then o (slice_cmp nat_cmp xs ys)) (sym (nat_cmp_is x y Less l))
less_there (q ∷ p) x y xs ys l = ap (λ o. ordering_then o (slice_cmp nat_cmp (p ++ x ∷ xs) (p ++ y ∷ ys))) (sym (nat_cmp_is q q Equal refl)) ∙ less_there p x y xs ys l

pub names_apart : (a b : ShortText) (p : List ℕ) (x y : ℕ) (xs ys : List ℕ) → a.bytes ≡ p ++ x ∷ xs → b.bytes ≡ p ++ y ∷ ys → x < y → name_cmp a b ≡ Less
names_apart a b p x y xs ys at_a at_b l =
    ap (λ o. ordering_then o (nat_cmp a.len b.len)) (ap (λ (s : List ℕ). slice_cmp nat_cmp s b.bytes) at_a ∙ ap (slice_cmp nat_cmp (p ++ x ∷ xs)) at_b ∙ less_there p x y xs ys l)

-- the bytes of a name whose text has a last byte
pub split_bytes : (n : ShortText) (front : List ℕ) (last : ℕ) → IsShortText n → text_of n ≡ front ++ last ∷ [] → n.bytes ≡ front ++ last ∷ zeros (32 - n.len)
split_bytes n front last is e = is.filled ∙ ap (λ (t : List ℕ). t ++ zeros (32 - n.len)) e ∙ append_assoc front (last ∷ []) (zeros (32 - n.len))

-- the bytes of a name whose text is shorter than 32
pub longer_bytes : (n : ShortText) → IsShortText n → n.len < 32 → n.bytes ≡ text_of n ++ 0 ∷ zeros (31 - n.len)
longer_bytes n is short = is.filled ∙ ap (λ (k : ℕ). text_of n ++ zeros k) {x = 32 - n.len} {y = suc (31 - n.len)} (omega (arith, short))

-- a text has as many bytes as its name says
pub text_length : (n : ShortText) → IsShortText n → length (text_of n) ≡ n.len
text_length n is = omega (arith, length-take n.len n.bytes, is.size, is.short)

-- a name that begins with a front and one byte more
pub filled_at : (front copied fill : List ℕ) (byte : ℕ) → copied ≡ front → length front < length fill → (tail : List ℕ) × ((name_of (set (copied ++ drop (length front) fill) (length front) byte)).bytes ≡ front ++ byte ∷ tail)
filled_at front copied fill byte same short =
    let n = length front in
    let rest = drop (suc n) fill in
    let made = set (copied ++ drop n fill) n byte in
    let is : made ≡ front ++ byte ∷ rest = ap (λ (l : List ℕ). set (l ++ drop n fill) n byte) same ∙ ap (λ (l : List ℕ). set (front ++ l) n byte) (drop-cons fill n 0 short) ∙ set-append_seam front (get_or fill n 0) rest byte in
    (rest ++ zeros (32 - length made), ap (λ (l : List ℕ). l ++ zeros (32 - length made)) is ∙ append_assoc front (byte ∷ rest) (zeros (32 - length made)))
