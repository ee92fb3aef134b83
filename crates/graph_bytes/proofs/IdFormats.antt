-- The formats of ids and texts.
use Rattle.std.proofs.Common.{◌≡◌, ℕ, zero, suc, ◌-◌, ◌^◌, ◌<◌, ◌≤◌, ℤ, FitsSigned, List, [], ◌∷◌, ◌++◌, length, drop, Ok, Err, refl, sym, ap, subst, ◌∙◌, arith}
use Rattle.std.proofs.lemmas.Bool.{ne_eqb}
use Rattle.byte_fields.specs.Reading.{misfit, byte_at, signed_at, made_at}
use Rattle.byte_fields.proofs.Steps.{IsBytes, Takes}
use Rattle.byte_fields.proofs.Within.{IsWithin}
use Rattle.std.specs.Int.{w64}
use Rattle.std.specs.Str.{is_utf8, IsUtf8}
use Rattle.std.proofs.lemmas.List.{take_at, length-take, length-append}
use Rattle.std.proofs.lemmas.Str.{is_utf8-from_IsUtf8, IsUtf8-from_is_utf8}
use Rattle.byte_fields.proofs.Numbers.{wide4, signed64}
use Rattle.byte_fields.proofs.Formats.{IsFormat, run_format, such_format, count_format, counted_format, number_format, signed_format, renamed_format, made_format, made_again, made_within, kind_takes}
use Rattle.graph_model.specs.declared.name.Name as names
use Rattle.graph_model.specs.declared.vid.Vid.{Vid}
use Rattle.graph_model.specs.declared.vid.Vid.TheVariants.{Num, Name}
use Rattle.graph_bytes.specs.declared.id_form.IdForm.{IdForm}
use Rattle.graph_bytes.specs.declared.id_form.IdForm.TheVariants.{Bare, Tagged}
use Rattle.graph_bytes.specs.Names.{IsName}
use Rattle.graph_model.specs.Names.{zeros, text_of, name_of}
use Rattle.graph_bytes.specs.Spelling.{name, vid, text}
use Rattle.graph_bytes.specs.Fits.{FitsVid}
use Rattle.graph_bytes.specs.Reading.{utf8_at, short_text_at, name_at, tagged_at, vid_at, text_at}

-- n bytes that are UTF-8
pub utf8_format : (n : ℕ) → IsFormat (utf8_at n) (λ run. run) (λ run. IsUtf8 run × (length run ≡ n))
unfolding utf8_at
utf8_format n =
    renamed_format (λ run. IsUtf8 run × (length run ≡ n))
    (λ run is. (IsUtf8-from_is_utf8 run is.1, is.0))
    (λ run is. (is.1, is_utf8-from_IsUtf8 run is.0))
    (such_format is_utf8 (run_format n))

-- a text behind its length
pub text_format : IsFormat text_at text (λ t. (length t < 2 ^ 32) × IsUtf8 t)
unfolding text_at
text_format = counted_format length IsUtf8 (number_format 4 wide4) utf8_format

-- a text of at most 32 bytes behind its length
pub short_text_format : IsFormat short_text_at (λ t. (length t ∷ []) ++ t) (λ t. ((0 ≤ length t) × (length t ≤ 32)) × IsUtf8 t)
unfolding short_text_at
short_text_format = counted_format length IsUtf8 (count_format 0 32 (omega arith)) utf8_format

-- the text of a text's name is that text
pub text_back : (t : List ℕ) → text_of (name_of t) ≡ t
text_back t = take_at t (zeros (32 - length t)) (length t) refl

name_parts : (n : names.Name) → length (text_of n) ≡ n.len → n.bytes ≡ text_of n ++ zeros (32 - n.len) → ◌≡◌ {A = List ℕ × ℕ} (text_of n ++ zeros (32 - length (text_of n)), length (text_of n)) (n.bytes, n.len)
name_parts n long filled = rw long (ap (λ (b : List ℕ). (b, n.len)) (sym filled))

-- a name is that of its text
pub name_back : (n : names.Name) → IsName n → name_of (text_of n) ≡ n
name_back n is =
    let long : length (text_of n) ≡ n.len = omega (arith, length-take n.len n.bytes, is.size, is.short) in
    ap (λ (p : List ℕ × ℕ). record { bytes = p.0; len = p.1 }) {x = (text_of n ++ zeros (32 - length (text_of n)), length (text_of n))} {y = (n.bytes, n.len)} (name_parts n long is.filled)

-- n zeros are n bytes
pub length-zeros : (n : ℕ) → length (zeros n) ≡ n
length-zeros zero = refl
length-zeros (suc n) = ap suc (length-zeros n)

-- zeros behind the first n of them
pub drop-zeros : (n m : ℕ) → drop n (zeros m) ≡ zeros (m - n)
drop-zeros zero m = ap zeros {x = m} {y = m - 0} (omega arith)
drop-zeros (suc n) zero = ap zeros {x = 0} {y = 0 - suc n} (omega arith)
drop-zeros (suc n) (suc m) = drop-zeros n m ∙ ap zeros {x = m - n} {y = suc m - suc n} (omega arith)

-- the name of a short text
pub is_name : (t : List ℕ) → length t ≤ 32 → IsUtf8 t → IsName (name_of t)
is_name t short utf8 = record {
  size = omega (arith, length-append t (zeros (32 - length t)), length-zeros (32 - length t), short);
  short = short;
  filled = ap (λ (front : List ℕ). front ++ zeros (32 - length t)) (sym (text_back t));
  utf8 = subst IsUtf8 (sym (text_back t)) utf8;
}

-- a text id
pub name_format : IsFormat name_at name IsName
unfolding name_at
name_format =
    made_format name_of name IsName
    (λ t is. (ap (λ (front : List ℕ). length t ∷ front) (sym (text_back t)), is_name t is.0.1 is.1))
    (λ n is. (text_of n, ((omega arith, omega (arith, length-take n.len n.bytes, is.size, is.short)), is.utf8), name_back n is))
    short_text_format

-- a byte that is no kind doesn't fit
no_tagged : (b : ℕ) (bytes : List ℕ) → 1 < b → tagged_at (b ∷ bytes) ≡ Err (misfit (b ∷ bytes))
unfolding tagged_at byte_at
no_tagged b bytes above = rw (ne_eqb b 0 (omega (arith, above)), ne_eqb b 1 (omega (arith, above))) refl

tagged_takes : (bytes : List ℕ) (x : Vid) (rest : List ℕ) → IsBytes bytes → tagged_at bytes ≡ Ok (x, rest) → Takes bytes (vid Tagged x) rest × FitsVid Tagged x
unfolding tagged_at byte_at
tagged_takes [] x rest fits e = absurd cc
tagged_takes (zero ∷ bytes) x rest fits e = kind_takes 0 (λ n. Num n) (vid Tagged) (FitsVid Tagged) (signed_format w64 signed64) (λ a is. (refl, is)) bytes x rest fits e
tagged_takes (suc zero ∷ bytes) x rest fits e = kind_takes 1 (λ n. Name n) (vid Tagged) (FitsVid Tagged) name_format (λ a is. (refl, is)) bytes x rest fits e
tagged_takes (suc (suc kind) ∷ bytes) x rest fits e = let no = sym (no_tagged (suc (suc kind)) bytes (omega arith)) ∙ e in absurd cc

tagged_again : (x : Vid) (rest : List ℕ) → FitsVid Tagged x → tagged_at (vid Tagged x ++ rest) ≡ Ok (x, rest)
unfolding tagged_at byte_at
tagged_again (Num n) rest fits = made_again (λ n. Num n) (signed_format w64 signed64) n rest fits
tagged_again (Name n) rest fits = made_again (λ n. Name n) name_format n rest fits

tagged_within : (bytes : List ℕ) → IsWithin (length bytes) (tagged_at bytes)
unfolding tagged_at byte_at
tagged_within [] = omega arith
tagged_within (zero ∷ bytes) = made_within (λ n. Num n) (signed_format w64 signed64) (length (0 ∷ bytes)) bytes (omega arith)
tagged_within (suc zero ∷ bytes) = made_within (λ n. Name n) name_format (length (1 ∷ bytes)) bytes (omega arith)
tagged_within (suc (suc kind) ∷ bytes) = rw (no_tagged (suc (suc kind)) bytes (omega arith)) (omega arith)

-- an id behind its tag
pub tagged_format : IsFormat tagged_at (vid Tagged) (FitsVid Tagged)
tagged_format = record { takes = tagged_takes; again = tagged_again; within = tagged_within }

bare_number : (v : Vid) → FitsVid Bare v → (n : ℤ) × FitsSigned w64 n × (Num n ≡ v)
bare_number (Num n) is = (n, is, refl)
bare_number (Name n) is = absurd is

-- a number's bytes
bare_format : IsFormat (made_at (λ n. Num n) (signed_at w64)) (vid Bare) (FitsVid Bare)
bare_format = made_format (λ n. Num n) (vid Bare) (FitsVid Bare) (λ n is. (refl, is)) bare_number (signed_format w64 signed64)

-- an id
pub vid_format : (form : IdForm) → IsFormat (vid_at form) (vid form) (FitsVid form)
unfolding vid_at
vid_format Bare = bare_format
vid_format Tagged = tagged_format
