-- The formats of keys.
use Rattle.std.proofs.Common.{◌≡◌, ℕ, zero, suc, ◌^◌, ◌<◌, ◌≤◌, ℤ, pos, negsuc, neg_ℤ, cond, ltb, leb, eqb, ◌&&◌, ◌<ℤ◌, FitsSigned, Bool, true, false, List, [], ◌∷◌, ◌++◌, length, take, Ok, Err, refl, sym, ap, ap₂, subst, ◌∙◌, arith}
use Rattle.std.proofs.lemmas.Bool.{ne_eqb}
use Rattle.byte_fields.specs.Reading.{misfit, byte_at}
use Rattle.byte_fields.proofs.Steps.{IsBytes, Takes}
use Rattle.byte_fields.proofs.Within.{IsWithin}
use Rattle.std.specs.Prelude.{int_lt, ◌||◌}
use Rattle.std.specs.Int.{Width, w32, w64, byte_len, cast_signed, cast_unsigned}
use mir.Val.{bits}
use Rattle.std.proofs.lemmas.Bool.{eqb-true, ltb-true, leb-true, lt-ltb, le-leb}
use Rattle.std.proofs.lemmas.Int.{ints, of_z-to_z, to_z-of_z}
use Rattle.std.proofs.lemmas.List.{length-take}
use Rattle.std.proofs.Math.Facts.{Fits-of_z, Fits-lt-pow, Fits-of_lt, sfits_to_z}
use Rattle.byte_fields.specs.Fields.{number}
use Rattle.byte_fields.proofs.Numbers.{wide2, wide4, IsSigned, signed32, signed64}
use Rattle.byte_fields.proofs.Formats.{IsFormat, byte_format, number_format, run_format, both_format, such_format, made_format, renamed_format, made_again, made_within, kind_takes}
use Rattle.graph_bytes.specs.Fits.{IsSmall, most_small}
use Rattle.graph_model.specs.Names.{name_of}
use Rattle.graph_model.specs.declared.name.Name as names
use Rattle.graph_bytes.proofs.IdFormats.{name_back}
use Rattle.graph_bytes.proofs.EdgeFormats.{small_format, above_true, true_above}
use Rattle.graph_bytes.proofs.Once.{and_true}
use Rattle.graph_model.specs.declared.edge_id.EdgeId.{EdgeId}
use Rattle.graph_model.specs.declared.vid.Vid.{Vid}
use Rattle.graph_model.specs.declared.vid.Vid.TheVariants as ids_of
use Rattle.part_keys.specs.declared.key.Key.{Key}
use Rattle.part_keys.specs.declared.key.Key.TheVariants.{Tag, OutEdge, InEdge, Prime, DoublePrime, Guard, Client}
use Rattle.part_keys.specs.declared.vid_kind.VidKind.{VidKind}
use Rattle.part_keys.specs.declared.vid_kind.VidKind.TheVariants as kinds
use Rattle.part_keys.specs.Keys.{flip, flipped, vertex, edge_form, turned, key, IsKind, IsOf, FitsKeyEdge, FitsKey}
use Rattle.part_keys.specs.ReadingKeys.{is_part, part_at, flipped_at, placeholder_at, is_text, text_id, vertex_at, form_of_fields, form_at, is_either, seen_key, positive_at, key_at}
use Rattle.part_keys.proofs.Fillings.{filled_of, name_of_filled, text_is, text_in}

-- a part in 2 bytes behind a 0 is a part in 3
three : (n : ℕ) → n < 65536 → 0 ∷ number 2 n ≡ number 3 n
unfolding number
three n lt = ap (λ (x : ℕ). x ∷ number 2 n) (omega arith)

part_is : (x : ℕ × ℕ) → is_part x ≡ true → ((x.0 ∷ []) ++ number 2 x.1 ≡ number 3 x.1) × IsSmall x.1
part_is x is =
    let o = and_true (eqb x.0 0) (ltb 0 x.1 && leb x.1 most_small) is in
    let r = and_true (ltb 0 x.1) (leb x.1 most_small) o.1 in
    let few : x.1 ≤ most_small = leb-true _ _ r.1 in
    (ap (λ (b : ℕ). b ∷ number 2 x.1) (eqb-true _ _ o.0) ∙ three x.1 (omega (arith, few)), (ltb-true _ _ r.0, few))

part_true : (p : ℕ) → IsSmall p → is_part (0, p) ≡ true
part_true p is = rw (lt-ltb 0 p is.0, le-leb p most_small is.1) refl

-- a part
pub part_format : IsFormat part_at (number 3) IsSmall
unfolding part_at
part_format =
    made_format (λ x. x.1) (number 3) IsSmall
    (λ x is. part_is x is.1)
    (λ p is. ((0, p), ((omega arith, omega (arith, is.1)), part_true p is), refl))
    (such_format is_part (both_format byte_format (number_format 2 wide2)))

-- flipping twice gives the number back
record IsFlipped (w : Width) : Type 0 where
  signed : IsSigned w
  small : (n : ℕ) → flip w n < 2 ^ bits w
  back : (n : ℕ) → n < 2 ^ bits w → flip w (flip w n) ≡ n

flipped32 : IsFlipped w32
flipped32 = record { signed = signed32; small = λ n. omega arith; back = λ n lt. omega arith }

flipped64 : IsFlipped w64
flipped64 = record { signed = signed64; small = λ n. omega arith; back = λ n lt. omega arith }

flipped_is : (w : Width) (is : IsFlipped w) (n : ℕ) → n < 256 ^ byte_len w → (number (byte_len w) n ≡ flipped w (cast_signed w (flip w n))) × FitsSigned w (cast_signed w (flip w n))
flipped_is w is n small =
    let lt : n < 2 ^ bits w = subst (λ (limit : ℕ). n < limit) is.signed.size small in
    (ap (number (byte_len w)) (sym (ap (flip w) (of_z-to_z w (flip w n) (is.small n)) ∙ is.back n lt)), sfits_to_z {w = w} {n = flip w n} (Fits-of_lt (is.small n)))

flipped_from : (w : Width) (is : IsFlipped w) (z : ℤ) → FitsSigned w z → (n : ℕ) × (n < 256 ^ byte_len w) × (cast_signed w (flip w n) ≡ z)
flipped_from w is z fits =
    let n = cast_unsigned w z in
    (flip w n, subst (λ (limit : ℕ). flip w n < limit) (sym is.signed.size) (is.small n), ap (cast_signed w) (is.back n (Fits-lt-pow (Fits-of_z {w = w} {z = z} fits))) ∙ to_z-of_z w z fits)

-- a signed number with its sign bit flipped
flipped_format : (w : Width) → IsFlipped w → IsFormat (flipped_at w) (flipped w) (λ z. FitsSigned w z)
unfolding flipped_at
flipped_format w is = made_format (λ n. cast_signed w (flip w n)) (flipped w) (λ z. FitsSigned w z) (flipped_is w is) (flipped_from w is) (number_format (byte_len w) is.signed.wide)

-- a number's field
number_of : (v : Vid) → IsOf kinds.Num v → (n : ℤ) × FitsSigned w64 n × (ids_of.Num n ≡ v)
number_of (ids_of.Num n) is = (n, is, refl)
number_of (ids_of.Name n) is = absurd is

-- a text's field
text_to : (most : ℕ) → most ≤ 32 → (x : List ℕ × ℕ) → length x.0 ≡ most → is_text most x ≡ true → (x.0 ++ x.1 ∷ [] ≡ vertex (kinds.Name most) (text_id x)) × IsOf (kinds.Name most) (text_id x)
text_to most small x size is =
    let filled = filled_of most x.0 x.1 size is in
    let named = name_of_filled most x.0 x.1 small filled in
    (ap₂ (λ (run : List ℕ) (len : ℕ). run ++ len ∷ []) (sym named.front) (sym filled.long), (named.is, named.short))

text_from : (most : ℕ) → most ≤ 32 → (v : Vid) → IsOf (kinds.Name most) v → (x : List ℕ × ℕ) × (((length x.0 ≡ most) × (x.1 < 256)) × (is_text most x ≡ true)) × (text_id x ≡ v)
text_from most small (ids_of.Num n) is = absurd is
text_from most small (ids_of.Name n) is =
    ((take most n.bytes, n.len), ((omega (arith, length-take most n.bytes, is.0.size, small), omega (arith, is.0.short)), text_is most n small is.0 is.1), ap (λ (t : List ℕ). ids_of.Name (name_of t)) (text_in most n small is.0 is.1) ∙ ap (λ (m : names.Name). ids_of.Name m) (name_back n is.0))

-- an id of the kind
pub vertex_format : (ids : VidKind) → IsKind ids → IsFormat (vertex_at ids) (vertex ids) (IsOf ids)
unfolding vertex_at
vertex_format kinds.Num is-kind = made_format (λ n. ids_of.Num n) (vertex kinds.Num) (IsOf kinds.Num) (λ n is. (refl, is)) number_of (flipped_format w64 flipped64)
vertex_format (kinds.Name most) is-kind =
    made_format text_id (vertex (kinds.Name most)) (IsOf (kinds.Name most))
    (λ x is. text_to most is-kind.1 x is.0.0 is.1) (text_from most is-kind.1)
    (such_format (is_text most) (both_format (run_format most) byte_format))

-- an edge as its part sees it
pub record FitsForm (ids : VidKind) (f : ℕ × EdgeId) : Type 0 where
  pub part : IsSmall f.0
  pub src : IsOf ids f.1.src
  pub etype : FitsSigned w32 f.1.etype
  pub rank : FitsSigned w64 f.1.rank
  pub dst : IsOf ids f.1.dst

placeholder_format : IsFormat placeholder_at (λ x. x ∷ []) (λ x. (x < 256) × (eqb x 0 ≡ true))
unfolding placeholder_at
placeholder_format = such_format (λ x. eqb x 0) byte_format

form_format : (ids : VidKind) → IsKind ids → IsFormat (form_at ids) (λ f. edge_form ids f.0 f.1) (FitsForm ids)
unfolding form_at
form_format ids is-kind =
    made_format form_of_fields (λ f. edge_form ids f.0 f.1) (FitsForm ids)
    (λ x is. (ap (λ (b : ℕ). number 3 x.0.0.0.0.0 ++ vertex ids x.0.0.0.0.1 ++ flipped w32 x.0.0.0.1 ++ flipped w64 x.0.0.1 ++ vertex ids x.0.1 ++ b ∷ []) (eqb-true _ _ is.1.1), record { part = is.0.0.0.0.0; src = is.0.0.0.0.1; etype = is.0.0.0.1; rank = is.0.0.1; dst = is.0.1 }))
    (λ f is. ((((((f.0, f.1.src), f.1.etype), f.1.rank), f.1.dst), 0), (((((is.part, is.src), is.etype), is.rank), is.dst), (omega arith, refl)), refl))
    (both_format (both_format (both_format (both_format (both_format part_format (vertex_format ids is-kind)) (flipped_format w32 flipped32)) (flipped_format w64 flipped64)) (vertex_format ids is-kind)) placeholder_format)

-- ---- in-edges and out-edges

-- a number turned twice is itself
pub neg_neg : (t : ℤ) → neg_ℤ (neg_ℤ t) ≡ t
neg_neg (pos zero) = refl
neg_neg (pos (suc n)) = refl
neg_neg (negsuc n) = refl

turned_twice : (e : EdgeId) → turned (turned e) ≡ e
turned_twice e = ap (λ (t : ℤ). record { src = e.src; etype = t; rank = e.rank; dst = e.dst }) (neg_neg e.etype)

negated_fits : (t : ℤ) → negsuc 2147483647 <ℤ t → t <ℤ pos 0 → FitsSigned w32 (neg_ℤ t) × (pos 0 <ℤ neg_ℤ t)
negated_fits (pos n) low high = absurd (omega (arith, ints))
negated_fits (negsuc n) low high = (record { sfits = omega (arith, ints) }, omega (arith, ints))

-- a positive type, negated
record IsBack (t : ℤ) : Type 0 where
  not_out : int_lt (pos 0) (neg_ℤ t) ≡ false
  above : int_lt (negsuc 2147483647) (neg_ℤ t) ≡ true
  below : int_lt (neg_ℤ t) (pos 0) ≡ true
  fits : FitsSigned w32 (neg_ℤ t)

is_back : (t : ℤ) → FitsSigned w32 t → pos 0 <ℤ t → IsBack t
is_back (pos zero) fits is = absurd (omega (arith, ints))
is_back (pos (suc n)) fits is = let small = fits.sfits in record { not_out = refl; above = true_above (negsuc 2147483647) (negsuc n) (omega (arith, ints)); below = refl; fits = record { sfits = omega arith } }
is_back (negsuc n) fits is = absurd (omega (arith, ints))

-- the key of an edge as its part sees it
seen_by : (ids : VidKind) (f : ℕ × EdgeId) → FitsForm ids f → (out : Bool) → int_lt (pos 0) f.1.etype ≡ out → (out || (int_lt (negsuc 2147483647) f.1.etype && int_lt f.1.etype (pos 0))) ≡ true
    → (2 ∷ edge_form ids f.0 f.1 ≡ key ids (cond out (OutEdge f.0 f.1) (InEdge f.0 (turned f.1)))) × FitsKey ids (cond out (OutEdge f.0 f.1) (InEdge f.0 (turned f.1)))
seen_by ids f fits true out either = (refl, (fits.part, record { src = fits.src; etype = fits.etype; rank = fits.rank; dst = fits.dst; is = above_true (pos 0) f.1.etype out }))
seen_by ids f fits false out either =
    let both = and_true (int_lt (negsuc 2147483647) f.1.etype) (int_lt f.1.etype (pos 0)) either in
    let n = negated_fits f.1.etype (above_true (negsuc 2147483647) f.1.etype both.0) (above_true f.1.etype (pos 0) both.1) in
    (ap (λ (e : EdgeId). 2 ∷ edge_form ids f.0 e) (sym (turned_twice f.1)), (fits.part, record { src = fits.dst; etype = n.0; rank = fits.rank; dst = fits.src; is = n.1 }))

seen_is : (ids : VidKind) (f : ℕ × EdgeId) → FitsForm ids f → is_either f ≡ true → (2 ∷ edge_form ids f.0 f.1 ≡ key ids (seen_key f)) × FitsKey ids (seen_key f)
seen_is ids f fits either = seen_by ids f fits (int_lt (pos 0) f.1.etype) refl either

-- an edge that has a key is seen as it is by the part of its source
pub form_of_edge : (ids : VidKind) (part : ℕ) (e : EdgeId) → IsSmall part × FitsKeyEdge ids e → FitsForm ids (part, e)
form_of_edge ids part e fits = record { part = fits.0; src = fits.1.src; etype = fits.1.etype; rank = fits.1.rank; dst = fits.1.dst }

-- an edge that has a key is seen turned by the part of its other end
pub form_of_turned : (ids : VidKind) (part : ℕ) (e : EdgeId) → IsSmall part × FitsKeyEdge ids e → FitsForm ids (part, turned e)
form_of_turned ids part e fits = record { part = fits.0; src = fits.1.dst; etype = (is_back e.etype fits.1.etype fits.1.is).fits; rank = fits.1.rank; dst = fits.1.src }

out_either : (part : ℕ) (e : EdgeId) → pos 0 <ℤ e.etype → is_either (part, e) ≡ true
out_either part e is = rw (true_above (pos 0) e.etype is) refl

seen_out : (part : ℕ) (e : EdgeId) → pos 0 <ℤ e.etype → seen_key (part, e) ≡ OutEdge part e
seen_out part e is = rw (true_above (pos 0) e.etype is) refl

in_either : (part : ℕ) (e : EdgeId) → FitsSigned w32 e.etype → pos 0 <ℤ e.etype → is_either (part, turned e) ≡ true
in_either part e fits is = let b = is_back e.etype fits is in rw (b.not_out, b.above, b.below) refl

seen_in : (part : ℕ) (e : EdgeId) → FitsSigned w32 e.etype → pos 0 <ℤ e.etype → seen_key (part, turned e) ≡ InEdge part e
seen_in part e fits is = let b = is_back e.etype fits is in rw b.not_out (ap (λ (x : EdgeId). InEdge part x) (turned_twice e))

-- a chain's edge
positive_format : (ids : VidKind) → IsKind ids → IsFormat (positive_at ids) (λ f. edge_form ids f.0 f.1) (λ f. IsSmall f.0 × FitsKeyEdge ids f.1)
unfolding positive_at
positive_format ids is-kind =
    renamed_format (λ f. IsSmall f.0 × FitsKeyEdge ids f.1)
    (λ f is. (is.0.part, record { src = is.0.src; etype = is.0.etype; rank = is.0.rank; dst = is.0.dst; is = above_true (pos 0) f.1.etype is.1 }))
    (λ f is. (form_of_edge ids f.0 f.1 is, true_above (pos 0) f.1.etype is.1.is))
    (such_format (λ f. int_lt (pos 0) f.1.etype) (form_format ids is-kind))

-- ---- keys

-- a byte that is no kind doesn't fit
no_key : (ids : VidKind) (is-kind : IsKind ids) (b : ℕ) (bytes : List ℕ) → 6 < b → key_at ids (b ∷ bytes) ≡ Err (misfit (b ∷ bytes))
unfolding key_at byte_at
no_key ids is-kind b bytes above = rw (ne_eqb b 1 (omega (arith, above)), ne_eqb b 2 (omega (arith, above)), ne_eqb b 3 (omega (arith, above)), ne_eqb b 4 (omega (arith, above)), ne_eqb b 5 (omega (arith, above)), ne_eqb b 6 (omega (arith, above))) refl

key_takes : (ids : VidKind) (is-kind : IsKind ids) (bytes : List ℕ) (x : Key) (rest : List ℕ) → IsBytes bytes → key_at ids bytes ≡ Ok (x, rest) → Takes bytes (key ids x) rest × FitsKey ids x
unfolding key_at byte_at
key_takes ids is-kind [] x rest fits e = absurd cc
key_takes ids is-kind (zero ∷ bytes) x rest fits e = absurd cc
key_takes ids is-kind (suc zero ∷ bytes) x rest fits e = kind_takes 1 (λ x. Tag x.0.0 x.0.1 x.1) (key ids) (FitsKey ids) (both_format (both_format part_format (vertex_format ids is-kind)) (number_format 4 wide4)) (λ a is. (refl, (is.0.0, is.0.1, is.1))) bytes x rest fits e
key_takes ids is-kind (suc (suc zero) ∷ bytes) x rest fits e = kind_takes 2 seen_key (key ids) (FitsKey ids) (such_format is_either (form_format ids is-kind)) (λ f is. seen_is ids f is.0 is.1) bytes x rest fits e
key_takes ids is-kind (suc (suc (suc zero)) ∷ bytes) x rest fits e = kind_takes 3 (λ f. Prime f.0 f.1) (key ids) (FitsKey ids) (positive_format ids is-kind) (λ a is. (refl, is)) bytes x rest fits e
key_takes ids is-kind (suc (suc (suc (suc zero))) ∷ bytes) x rest fits e = kind_takes 4 (λ f. DoublePrime f.0 f.1) (key ids) (FitsKey ids) (positive_format ids is-kind) (λ a is. (refl, is)) bytes x rest fits e
key_takes ids is-kind (suc (suc (suc (suc (suc zero)))) ∷ bytes) x rest fits e = kind_takes 5 (λ x. Guard x.0 x.1) (key ids) (FitsKey ids) (both_format part_format part_format) (λ a is. (refl, is)) bytes x rest fits e
key_takes ids is-kind (suc (suc (suc (suc (suc (suc zero))))) ∷ bytes) x rest fits e = kind_takes 6 (λ x. Client x.0 x.1) (key ids) (FitsKey ids) (both_format part_format small_format) (λ a is. (refl, is)) bytes x rest fits e
key_takes ids is-kind (suc (suc (suc (suc (suc (suc (suc kind)))))) ∷ bytes) x rest fits e = let no = sym (no_key ids is-kind (suc (suc (suc (suc (suc (suc (suc kind))))))) bytes (omega arith)) ∙ e in absurd cc

key_again : (ids : VidKind) (is-kind : IsKind ids) (x : Key) (rest : List ℕ) → FitsKey ids x → key_at ids (key ids x ++ rest) ≡ Ok (x, rest)
unfolding key_at byte_at
key_again ids is-kind (Tag part v tag) rest fits = made_again (λ x. Tag x.0.0 x.0.1 x.1) (both_format (both_format part_format (vertex_format ids is-kind)) (number_format 4 wide4)) ((part, v), tag) rest ((fits.0, fits.1), fits.2)
key_again ids is-kind (OutEdge part e) rest fits = made_again seen_key (such_format is_either (form_format ids is-kind)) (part, e) rest (form_of_edge ids part e fits, out_either part e fits.1.is) ∙ ap (λ (x : Key). Ok (x, rest)) (seen_out part e fits.1.is)
key_again ids is-kind (InEdge part e) rest fits = made_again seen_key (such_format is_either (form_format ids is-kind)) (part, turned e) rest (form_of_turned ids part e fits, in_either part e fits.1.etype fits.1.is) ∙ ap (λ (x : Key). Ok (x, rest)) (seen_in part e fits.1.etype fits.1.is)
key_again ids is-kind (Prime part e) rest fits = made_again (λ f. Prime f.0 f.1) (positive_format ids is-kind) (part, e) rest fits
key_again ids is-kind (DoublePrime part e) rest fits = made_again (λ f. DoublePrime f.0 f.1) (positive_format ids is-kind) (part, e) rest fits
key_again ids is-kind (Guard part source) rest fits = made_again (λ x. Guard x.0 x.1) (both_format part_format part_format) (part, source) rest fits
key_again ids is-kind (Client part client) rest fits = made_again (λ x. Client x.0 x.1) (both_format part_format small_format) (part, client) rest fits

key_within : (ids : VidKind) (is-kind : IsKind ids) (bytes : List ℕ) → IsWithin (length bytes) (key_at ids bytes)
unfolding key_at byte_at
key_within ids is-kind [] = omega arith
key_within ids is-kind (zero ∷ bytes) = omega arith
key_within ids is-kind (suc zero ∷ bytes) = made_within (λ x. Tag x.0.0 x.0.1 x.1) (both_format (both_format part_format (vertex_format ids is-kind)) (number_format 4 wide4)) (length (1 ∷ bytes)) bytes (omega arith)
key_within ids is-kind (suc (suc zero) ∷ bytes) = made_within seen_key (such_format is_either (form_format ids is-kind)) (length (2 ∷ bytes)) bytes (omega arith)
key_within ids is-kind (suc (suc (suc zero)) ∷ bytes) = made_within (λ f. Prime f.0 f.1) (positive_format ids is-kind) (length (3 ∷ bytes)) bytes (omega arith)
key_within ids is-kind (suc (suc (suc (suc zero))) ∷ bytes) = made_within (λ f. DoublePrime f.0 f.1) (positive_format ids is-kind) (length (4 ∷ bytes)) bytes (omega arith)
key_within ids is-kind (suc (suc (suc (suc (suc zero)))) ∷ bytes) = made_within (λ x. Guard x.0 x.1) (both_format part_format part_format) (length (5 ∷ bytes)) bytes (omega arith)
key_within ids is-kind (suc (suc (suc (suc (suc (suc zero))))) ∷ bytes) = made_within (λ x. Client x.0 x.1) (both_format part_format small_format) (length (6 ∷ bytes)) bytes (omega arith)
key_within ids is-kind (suc (suc (suc (suc (suc (suc (suc kind)))))) ∷ bytes) = rw (no_key ids is-kind (suc (suc (suc (suc (suc (suc (suc kind))))))) bytes (omega arith)) (omega arith)

-- a key
pub key_format : (ids : VidKind) (is-kind : IsKind ids) → IsFormat (key_at ids) (key ids) (FitsKey ids)
key_format ids is-kind = record { takes = key_takes ids is-kind; again = key_again ids is-kind; within = key_within ids is-kind }
