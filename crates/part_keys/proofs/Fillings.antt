-- Texts filled up with 0.
use Rattle.std.proofs.Common.{◌≡◌, ℕ, zero, suc, ◌+◌, ◌-◌, ◌≤◌, true, eqb, leb, ◌&&◌, List, [], ◌∷◌, ◌++◌, length, take, drop, refl, sym, ap, subst, ◌∙◌, append_assoc, arith}
use Rattle.std.specs.List.{list_all}
use Rattle.std.specs.Str.{is_utf8, IsUtf8}
use Rattle.std.proofs.lemmas.Bool.{eqb-true, leb-true, le-leb}
use Rattle.std.proofs.lemmas.List.{take_at, drop_at, take-append-drop, length-append, length-take, length-drop}
use Rattle.std.proofs.lemmas.Str.{is_utf8-from_IsUtf8, IsUtf8-from_is_utf8}
use Rattle.graph_model.specs.declared.name.Name as names
use Rattle.graph_bytes.specs.Names.{IsName}
use Rattle.graph_model.specs.Names.{zeros, text_of, name_of}
use Rattle.graph_bytes.proofs.IdFormats.{length-zeros, text_back}
use Rattle.graph_bytes.proofs.Once.{and_true}
use Rattle.part_keys.specs.ReadingKeys.{is_text}

-- zeros behind zeros
pub zeros-append : (a b : ℕ) → zeros a ++ zeros b ≡ zeros (a + b)
zeros-append zero b = ap zeros {x = b} {y = 0 + b} (omega arith)
zeros-append (suc a) b = ap (λ (xs : List ℕ). 0 ∷ xs) (zeros-append a b) ∙ ap zeros {x = suc (a + b)} {y = suc a + b} (omega arith)

-- the first of zeros
pub take-zeros : (k m : ℕ) → k ≤ m → take k (zeros m) ≡ zeros k
take-zeros zero m le = refl
take-zeros (suc k) zero le = absurd (omega (arith, le))
take-zeros (suc k) (suc m) le = ap (λ (xs : List ℕ). 0 ∷ xs) (take-zeros k m (omega (arith, le)))

-- bytes that are all 0
pub all_zero : (xs : List ℕ) → list_all (λ b. eqb b 0) xs ≡ true → xs ≡ zeros (length xs)
all_zero [] all = refl
all_zero (x ∷ xs) all =
    let o = and_true (eqb x 0) (list_all (λ b. eqb b 0) xs) all in
    ap (λ (b : ℕ). b ∷ xs) (eqb-true x 0 o.0) ∙ ap (λ (ys : List ℕ). 0 ∷ ys) (all_zero xs o.1)

-- zeros are all 0
pub zeros-all : (n : ℕ) → list_all (λ b. eqb b 0) (zeros n) ≡ true
zeros-all zero = refl
zeros-all (suc n) = zeros-all n

-- the front of a text and what is behind it
pub take-behind : (t zs : List ℕ) (k : ℕ) → take (length t + k) (t ++ zs) ≡ t ++ take k zs
take-behind [] zs k = ap (λ (n : ℕ). take n zs) {x = 0 + k} {y = k} (omega arith)
take-behind (b ∷ t) zs k = ap (λ (n : ℕ). take n (b ∷ (t ++ zs))) {x = suc (length t) + k} {y = suc (length t + k)} (omega arith) ∙ ap (λ (xs : List ℕ). b ∷ xs) (take-behind t zs k)

-- a text with zeros behind it is a name
pub made_of : (bytes t : List ℕ) (len : ℕ) → length t ≡ len → len ≤ 32 → bytes ≡ t ++ zeros (32 - len) → IsUtf8 t → IsName (record { bytes = bytes; len = len })
made_of bytes t len long short filled utf8 =
    let front : take len bytes ≡ t = ap (take len) filled ∙ take_at t (zeros (32 - len)) len long in
    let size : length bytes ≡ length (t ++ zeros (32 - len)) = ap (λ (b : List ℕ). length b) filled in
    record {
      size = omega (arith, size, length-append t (zeros (32 - len)), length-zeros (32 - len), long, short);
      short = short;
      filled = filled ∙ ap (λ (x : List ℕ). x ++ zeros (32 - len)) (sym front);
      utf8 = subst IsUtf8 (sym front) utf8;
    }

-- the bytes of a field of texts: the text, and zeros
pub record IsFilled (most : ℕ) (run : List ℕ) (len : ℕ) : Type 0 where
  pub short : len ≤ most
  pub long : length (take len run) ≡ len
  pub parts : run ≡ take len run ++ zeros (most - len)
  pub utf8 : IsUtf8 (take len run)

-- what the test takes is such a field
pub filled_of : (most : ℕ) (run : List ℕ) (len : ℕ) → length run ≡ most → is_text most (run, len) ≡ true → IsFilled most run len
filled_of most run len size is =
    let a = and_true (leb len most) (is_utf8 (take len run) && list_all (λ b. eqb b 0) (drop len run)) is in
    let b = and_true (is_utf8 (take len run)) (list_all (λ b. eqb b 0) (drop len run)) a.1 in
    let short : len ≤ most = leb-true _ _ a.0 in
    let behind : length (drop len run) ≡ most - len = omega (arith, length-drop len run, size, short) in
    record {
      short = short;
      long = omega (arith, length-take len run, size, short);
      parts = sym (take-append-drop len run) ∙ ap (λ (x : List ℕ). take len run ++ x) (all_zero (drop len run) b.1 ∙ ap zeros behind);
      utf8 = IsUtf8-from_is_utf8 (take len run) b.0;
    }

-- such a field, filled up to 32 bytes
pub filled_more : (most : ℕ) (t : List ℕ) (len : ℕ) → len ≤ most → most ≤ 32 → (t ++ zeros (most - len)) ++ zeros (32 - most) ≡ t ++ zeros (32 - len)
filled_more most t len short small =
    append_assoc t (zeros (most - len)) (zeros (32 - most)) ∙ ap (λ (x : List ℕ). t ++ x) (zeros-append (most - len) (32 - most) ∙ ap zeros {x = (most - len) + (32 - most)} {y = 32 - len} (omega (arith, short, small)))

-- the front of a name's bytes: its text, and zeros
pub front_of : (most : ℕ) (n : names.Name) → most ≤ 32 → IsName n → n.len ≤ most → take most n.bytes ≡ text_of n ++ zeros (most - n.len)
front_of most n small is short =
    let long : length (text_of n) ≡ n.len = omega (arith, length-take n.len n.bytes, is.size, is.short) in
    ap (take most) is.filled
    ∙ ap (λ (k : ℕ). take k (text_of n ++ zeros (32 - n.len))) {x = most} {y = length (text_of n) + (most - n.len)} (omega (arith, long, short))
    ∙ take-behind (text_of n) (zeros (32 - n.len)) (most - n.len)
    ∙ ap (λ (x : List ℕ). text_of n ++ x) (take-zeros (most - n.len) (32 - n.len) (omega (arith, small, short)))

-- the name of the text in such a field, and that its bytes stand there
pub record IsNamed (most : ℕ) (run : List ℕ) (name : names.Name) : Type 0 where
  pub is : IsName name
  pub short : name.len ≤ most
  pub front : take most name.bytes ≡ run

-- such a field names the text in it
pub name_of_filled : (most : ℕ) (run : List ℕ) (len : ℕ) → most ≤ 32 → IsFilled most run len → IsNamed most run (name_of (take len run))
name_of_filled most run len small is =
    let t = take len run in
    let few : length t ≤ most = omega (arith, is.long, is.short) in
    let named : IsName (name_of t) = made_of (t ++ zeros (32 - length t)) t (length t) refl (omega (arith, few, small)) refl is.utf8 in
    record {
      is = named;
      short = few;
      front = front_of most (name_of t) small named few ∙ ap (λ (x : List ℕ). x ++ zeros (most - length t)) (text_back t) ∙ ap (λ (n : ℕ). t ++ zeros (most - n)) is.long ∙ sym is.parts;
    }

-- the text in the field of a name
pub text_in : (most : ℕ) (n : names.Name) → most ≤ 32 → IsName n → n.len ≤ most → take n.len (take most n.bytes) ≡ text_of n
text_in most n small is short =
    let long : length (text_of n) ≡ n.len = omega (arith, length-take n.len n.bytes, is.size, is.short) in
    ap (take n.len) (front_of most n small is short) ∙ take_at (text_of n) (zeros (most - n.len)) n.len long

-- the field of a name passes the test
pub text_is : (most : ℕ) (n : names.Name) → most ≤ 32 → IsName n → n.len ≤ most → is_text most (take most n.bytes, n.len) ≡ true
text_is most n small is short =
    let long : length (text_of n) ≡ n.len = omega (arith, length-take n.len n.bytes, is.size, is.short) in
    let front = front_of most n small is short in
    let text : take n.len (take most n.bytes) ≡ text_of n = ap (take n.len) front ∙ take_at (text_of n) (zeros (most - n.len)) n.len long in
    let behind : drop n.len (take most n.bytes) ≡ zeros (most - n.len) = ap (drop n.len) front ∙ drop_at (text_of n) (zeros (most - n.len)) n.len long in
    rw (text, behind, le-leb n.len most short, is_utf8-from_IsUtf8 (text_of n) is.utf8) (zeros-all (most - n.len))

-- the field of a name, filled up to 32 bytes, is the name's bytes
pub name_again : (most : ℕ) (n : names.Name) → most ≤ 32 → IsName n → n.len ≤ most → take most n.bytes ++ zeros (32 - most) ≡ n.bytes
name_again most n small is short =
    ap (λ (x : List ℕ). x ++ zeros (32 - most)) (front_of most n small is short) ∙ filled_more most (text_of n) n.len short small ∙ sym is.filled
