-- A file is read in one way.
use Rattle.std.proofs.Common.{◌≡◌, ◌≢◌, ℕ, ◌+◌, List, [], ◌∷◌, ◌++◌, length, get_or, take, drop, refl, sym, ◌∙◌, ap, subst, inl, inr, ⊎_elim, arith, append_assoc, length-append}
use Rattle.std.proofs.lemmas.List.{take_at, drop_at}
use Rattle.std.proofs.lemmas.Nat.{from_be_bytes-to_be_bytes_4}
use Rattle.std.specs.List.{flat_map, AllByRecursion}
use Rattle.std.specs.Int.{w32, from_be_bytes}
use Rattle.byte_fields.specs.Fields.{number}
use Rattle.byte_fields.proofs.Numbers.{length-number}
use Rattle.byte_fields.specs.Frames.{HasFrame, sized, open_gate}
use Rattle.wal_disk.specs.File.{opened, magic, front, IsFile, IsBroken, IsCutAt, IsCutBehind}

-- the length and the body, in front of whatever follows
size_of : (body rest : List ℕ) → HasFrame body → from_be_bytes w32 (take 4 (sized body ++ rest)) ≡ length body
unfolding number
size_of body rest fits =
    ap (from_be_bytes w32) (ap (take 4) (append_assoc (number 4 (length body)) body rest) ∙ take_at (number 4 (length body)) (body ++ rest) 4 (length-number 4 (length body)))
    ∙ from_be_bytes-to_be_bytes_4 (length body) fits

behind_size : (body rest : List ℕ) → drop 4 (sized body ++ rest) ≡ body ++ rest
behind_size body rest = ap (drop 4) (append_assoc (number 4 (length body)) body rest) ∙ drop_at (number 4 (length body)) (body ++ rest) 4 (length-number 4 (length body))

-- one body is read in one way
one_body : (a b more rest : List ℕ) → HasFrame a → HasFrame b → sized a ++ more ≡ sized b ++ rest → (a ≡ b) × (more ≡ rest)
one_body a b more rest fits_a fits_b same =
    let long : length a ≡ length b = sym (size_of a more fits_a) ∙ ap (λ (l : List ℕ). from_be_bytes w32 (take 4 l)) same ∙ size_of b rest fits_b in
    let behind : a ++ more ≡ b ++ rest = sym (behind_size a more) ∙ ap (drop 4) same ∙ behind_size b rest in (
      sym (take_at a more (length a) refl) ∙ ap (take (length a)) behind ∙ take_at b rest (length a) (sym long),
      sym (drop_at a more (length a) refl) ∙ ap (drop (length a)) behind ∙ drop_at b rest (length a) (sym long),
    )

heads : (a b : ℕ) (x y : List ℕ) → a ∷ x ≡ b ∷ y → a ≡ b
heads a b x y same = cc

tails : (a b : ℕ) (x y : List ℕ) → a ∷ x ≡ b ∷ y → x ≡ y
tails a b x y same = cc

-- a record in front of others
regroup : (body rest more : List ℕ) → (opened body ++ rest) ++ more ≡ open_gate ∷ (sized body ++ (rest ++ more))
regroup body rest more = append_assoc (opened body) rest more

one_list : (bodies others : List (List ℕ)) (g h : ℕ) (x y : List ℕ) → g ≢ open_gate → h ≢ open_gate → AllByRecursion HasFrame bodies → AllByRecursion HasFrame others
    → flat_map opened bodies ++ g ∷ x ≡ flat_map opened others ++ h ∷ y → bodies ≡ others
one_list [] [] g h x y shut_g shut_h fit fit' same = refl
one_list [] (b ∷ others) g h x y shut_g shut_h fit fit' same = absurd (shut_g (heads _ _ _ _ (same ∙ regroup b (flat_map opened others) (h ∷ y))))
one_list (a ∷ bodies) [] g h x y shut_g shut_h fit fit' same = absurd (shut_h (heads _ _ _ _ (sym same ∙ regroup a (flat_map opened bodies) (g ∷ x))))
one_list (a ∷ bodies) (b ∷ others) g h x y shut_g shut_h fit fit' same =
    let both = one_body a b _ _ fit.0 fit'.0 (tails _ _ _ _ (sym (regroup a (flat_map opened bodies) (g ∷ x)) ∙ same ∙ regroup b (flat_map opened others) (h ∷ y))) in
    ap (λ (l : List ℕ). l ∷ bodies) both.0 ∙ ap (λ (l : List (List ℕ)). b ∷ l) (one_list bodies others g h x y shut_g shut_h fit.1 fit'.1 both.1)

-- what a file of a version begins with, and what is behind it
behind_magic : (version : ℕ) (bodies : List (List ℕ)) (rest : List ℕ) → front version bodies ++ rest ≡ magic version ++ (flat_map opened bodies ++ rest)
behind_magic version bodies rest = append_assoc (magic version) (flat_map opened bodies) rest

begins_with : (version : ℕ) (bodies : List (List ℕ)) (rest file : List ℕ) → file ≡ front version bodies ++ rest → take 4 file ≡ magic version
begins_with version bodies rest file is = ap (take 4) (is ∙ behind_magic version bodies rest) ∙ take_at (magic version) (flat_map opened bodies ++ rest) 4 refl

goes_on_with : (version : ℕ) (bodies : List (List ℕ)) (rest file : List ℕ) → file ≡ front version bodies ++ rest → drop 4 file ≡ flat_map opened bodies ++ rest
goes_on_with version bodies rest file is = ap (drop 4) (is ∙ behind_magic version bodies rest) ∙ drop_at (magic version) (flat_map opened bodies ++ rest) 4 refl

-- a magic is one version's
one_version : (version other : ℕ) → magic version ≡ magic other → version ≡ other
one_version version other same = let e = ap (λ (l : List ℕ). get_or l 3 0) same in omega (arith, e)

-- a file is of one version and has one list of records
pub same_records : (file : List ℕ) (version other : ℕ) (bodies others : List (List ℕ)) → IsFile version bodies file → IsFile other others file → (version ≡ other) × (bodies ≡ others)
same_records file version other bodies others is also = (
  one_version version other (sym (begins_with version bodies (is.gate ∷ is.rest) file is.whole) ∙ begins_with other others (also.gate ∷ also.rest) file also.whole),
  one_list bodies others is.gate also.gate is.rest also.rest is.closed also.closed is.fit also.fit
      (sym (goes_on_with version bodies (is.gate ∷ is.rest) file is.whole) ∙ goes_on_with other others (also.gate ∷ also.rest) file also.whole),
)

-- a whole body isn't cut
whole_body : (body rest behind : List ℕ) (n : ℕ) → HasFrame body → behind ≡ sized body ++ rest → IsCutBehind behind n → ⊥
whole_body body rest behind n fits is cut =
    let long : length behind ≡ 4 + (length body + length rest) =
    omega (arith, ap length is, length-append (sized body) rest, length-append (number 4 (length body)) body, length-number 4 (length body)) in
    let size : from_be_bytes w32 (take 4 behind) ≡ length body = ap (λ (l : List ℕ). from_be_bytes w32 (take 4 l)) is ∙ size_of body rest fits in
    let left : length (drop 4 behind) ≡ length body + length rest = ap (λ (l : List ℕ). length (drop 4 l)) is ∙ ap length (behind_size body rest) ∙ length-append body rest in
    ⊎_elim (λ short. absurd (omega (arith, short.0, long))) (λ short. absurd (omega (arith, short.1, size, left))) cut

not_cut : (bodies others : List (List ℕ)) (g n : ℕ) (x rest : List ℕ) → g ≢ open_gate → AllByRecursion HasFrame bodies → AllByRecursion HasFrame others
    → flat_map opened bodies ++ g ∷ x ≡ flat_map opened others ++ rest → IsCutAt rest n → ⊥
not_cut [] [] g n x rest shut fit fit' same (inl none) = absurd (cc (same, none.0))
not_cut [] [] g n x rest shut fit fit' same (inr cut) = shut (heads _ _ _ _ (same ∙ cut.1))
not_cut [] (b ∷ others) g n x rest shut fit fit' same cut = shut (heads _ _ _ _ (same ∙ regroup b (flat_map opened others) rest))
not_cut (a ∷ bodies) [] g n x rest shut fit fit' same (inl none) = absurd (cc (same, none.0))
not_cut (a ∷ bodies) [] g n x rest shut fit fit' same (inr cut) =
    whole_body a (flat_map opened bodies ++ g ∷ x) cut.0 n fit.0 (tails _ _ _ _ (sym cut.1 ∙ sym same ∙ regroup a (flat_map opened bodies) (g ∷ x))) cut.2
not_cut (a ∷ bodies) (b ∷ others) g n x rest shut fit fit' same cut =
    let both = one_body a b _ _ fit.0 fit'.0 (tails _ _ _ _ (sym (regroup a (flat_map opened bodies) (g ∷ x)) ∙ same ∙ regroup b (flat_map opened others) rest)) in
    not_cut bodies others g n x rest shut fit.1 fit'.1 both.1 cut

-- a file that has records isn't outside the grammar
pub not_broken : (file : List ℕ) (version : ℕ) (bodies : List (List ℕ)) (at : ℕ) → IsFile version bodies file → IsBroken file at → ⊥
not_broken file version bodies at is (inl wrong) = wrong.0 version is.known (begins_with version bodies (is.gate ∷ is.rest) file is.whole)
not_broken file version bodies at is (inr broken) =
    let b = broken.2 in
    not_cut bodies broken.1 is.gate b.n is.rest b.rest is.closed is.fit b.fit
    (sym (goes_on_with version bodies (is.gate ∷ is.rest) file is.whole) ∙ goes_on_with broken.0 broken.1 b.rest file b.whole) b.cut

same_place_behind : (behind : List ℕ) (n m : ℕ) → IsCutBehind behind n → IsCutBehind behind m → n ≡ m
same_place_behind behind n m (inl a) (inl b) = a.1 ∙ sym b.1
same_place_behind behind n m (inl a) (inr b) = absurd (omega (arith, a.0, b.0))
same_place_behind behind n m (inr a) (inl b) = absurd (omega (arith, a.0, b.0))
same_place_behind behind n m (inr a) (inr b) = a.2 ∙ sym b.2

same_place : (rest : List ℕ) (n m : ℕ) → IsCutAt rest n → IsCutAt rest m → n ≡ m
same_place rest n m (inl a) (inl b) = a.1 ∙ sym b.1
same_place rest n m (inl a) (inr b) = absurd (cc (a.0, b.1))
same_place rest n m (inr a) (inl b) = absurd (cc (a.1, b.0))
same_place rest n m (inr a) (inr b) = same_place_behind a.0 n m a.2 (subst (λ (behind : List ℕ). IsCutBehind behind m) (tails _ _ _ _ (sym b.1 ∙ a.1)) b.2)

-- a whole record isn't cut
whole_record : (body more rest : List ℕ) (n : ℕ) → HasFrame body → rest ≡ opened body ++ more → IsCutAt rest n → ⊥
whole_record body more rest n fits is (inl none) = absurd (cc (is, none.0))
whole_record body more rest n fits is (inr cut) = whole_body body more cut.0 n fits (tails _ _ _ _ (sym cut.1 ∙ is)) cut.2

places_behind : (bodies others : List (List ℕ)) (rest more : List ℕ) (n m : ℕ) → AllByRecursion HasFrame bodies → AllByRecursion HasFrame others
    → flat_map opened bodies ++ rest ≡ flat_map opened others ++ more → IsCutAt rest n → IsCutAt more m → length (flat_map opened bodies) + n ≡ length (flat_map opened others) + m
places_behind [] [] rest more n m fit fit' same a b =
    let one = same_place rest n m a (subst (λ (l : List ℕ). IsCutAt l m) (sym same) b) in omega (arith, one)
places_behind [] (b ∷ others) rest more n m fit fit' same x y = absurd (whole_record b (flat_map opened others ++ more) rest n fit'.0 (same ∙ regroup b (flat_map opened others) more) x)
places_behind (a ∷ bodies) [] rest more n m fit fit' same x y = absurd (whole_record a (flat_map opened bodies ++ rest) more m fit.0 (sym same ∙ regroup a (flat_map opened bodies) rest) y)
places_behind (a ∷ bodies) (b ∷ others) rest more n m fit fit' same x y =
    let both = one_body a b _ _ fit.0 fit'.0 (tails _ _ _ _ (sym (regroup a (flat_map opened bodies) rest) ∙ same ∙ regroup b (flat_map opened others) more)) in
    let later = places_behind bodies others rest more n m fit.1 fit'.1 both.1 x y in
    let size = ap length both.0 in
    omega (
      arith,
      later,
      size,
      length-append (opened a) (flat_map opened bodies),
      length-append (opened b) (flat_map opened others),
      length-append (number 4 (length a)) a,
      length-append (number 4 (length b)) b,
      length-number 4 (length a),
      length-number 4 (length b),
    )

-- a file is outside the grammar at one place
pub one_broken_place : (file : List ℕ) (at place : ℕ) → IsBroken file at → IsBroken file place → at ≡ place
one_broken_place file at place (inl a) (inl b) = a.1 ∙ sym b.1
one_broken_place file at place (inl a) (inr b) = absurd (a.0 b.0 b.2.known (begins_with b.0 b.1 b.2.rest file b.2.whole))
one_broken_place file at place (inr a) (inl b) = absurd (b.0 a.0 a.2.known (begins_with a.0 a.1 a.2.rest file a.2.whole))
one_broken_place file at place (inr a) (inr b) =
    let x = a.2 in let y = b.2 in
    let places = places_behind a.1 b.1 x.rest y.rest x.n y.n x.fit y.fit
    (sym (goes_on_with a.0 a.1 x.rest file x.whole) ∙ goes_on_with b.0 b.1 y.rest file y.whole) x.cut y.cut in
    omega (arith, x.place, y.place, places, length-append (magic a.0) (flat_map opened a.1), length-append (magic b.0) (flat_map opened b.1))
