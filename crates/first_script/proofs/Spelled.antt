-- What is spelled is read.
use Rattle.std.proofs.Common.{◌≡◌, inl, inr, ℕ, suc, ◌+◌, ◌<◌, ◌≤◌, length, take, drop, arith, List, [], ◌∷◌, ◌++◌, Option, Some, None, cond, Bool, true, false, refl, ap, sym, ◌∙◌, append_assoc}
use Rattle.std.specs.Prelude.{nat_eq, nat_le, ◌&&◌, ℤ, codes, option_map, option_and_then, bytes_eq}
use Rattle.std.specs.Char.{is_ascii_digit}
use Rattle.std.specs.Cmp.Lexicographic.{pointwise}
use Rattle.std.specs.List.{prefix_len, starts_with}
use Rattle.std.specs.Str.{all_ascii_digits}
use Rattle.std.proofs.Math.Seq.{take-append_seam, drop-append_seam}
use Rattle.std.proofs.lemmas.Bool.{leb-true, eqb-true}
use Rattle.std.proofs.lemmas.Slice.Eq.{bytes_eq-Decides}
use Rattle.first_script.specs.declared.statement.Statement.{Statement}
use Rattle.first_script.specs.declared.statement.Statement.TheVariants.{Insert, Out, In}
use Rattle.first_script.specs.Statements.{behind, natural_of, negative_of, digits_at, spelled, integer_without, integer_at, integer_behind, insert_of, go_of, or_else, asked, statement_of, Spells}
use Rattle.first_script.proofs.NumberLemmas.{not_true, natural_some, negative_some}

-- a text is taken off the front
behind_self : (text rest : List ℕ) → behind text (text ++ rest) ≡ Some rest
unfolding behind
behind_self text rest =
    let starts : starts_with nat_eq (text ++ rest) text ≡ true = ap (pointwise nat_eq text) (take-append_seam text rest) ∙ (bytes_eq-Decides text text).1 refl in
    ap (λ t. cond t (Some (drop (length text) (text ++ rest))) None) starts ∙ ap Some (drop-append_seam text rest)

and_first : (a b : Bool) → (a && b) ≡ true → a ≡ true
and_first true b h = refl
and_first false b h = cc

and_second : (a b : Bool) → (a && b) ≡ true → b ≡ true
and_second true b h = h
and_second false b h = cc

-- a digit is no minus
no_minus : (digits rest : List ℕ) → 0 < length digits → all_ascii_digits digits ≡ true → behind (codes "-") (digits ++ rest) ≡ None
unfolding behind
no_minus [] rest some h = absurd (omega arith)
no_minus (d ∷ ds) rest some h =
    let digit : is_ascii_digit d ≡ true = and_first (is_ascii_digit d) (all_ascii_digits ds) h in
    let least : 48 ≤ d = leb-true 48 d (and_first (nat_le 48 d) (nat_le d 57) digit) in
    let apart : nat_eq 45 d ≡ false = not_true (nat_eq 45 d) (λ p. let same : 45 ≡ d = eqb-true 45 d p in omega arith) in
    ap (λ t. cond (t && pointwise nat_eq [] (take 0 (ds ++ rest))) (Some (drop 1 (d ∷ (ds ++ rest)))) None) apart

-- the longest run of digits ends where no digit follows
digits_end : (digits rest : List ℕ) → all_ascii_digits digits ≡ true → prefix_len is_ascii_digit rest ≡ 0 → prefix_len is_ascii_digit (digits ++ rest) ≡ length digits
digits_end [] rest h ends = ends
digits_end (d ∷ ds) rest h ends =
    let digit : is_ascii_digit d ≡ true = and_first (is_ascii_digit d) (all_ascii_digits ds) h in
    let more : prefix_len is_ascii_digit (ds ++ rest) ≡ length ds = digits_end ds rest (and_second (is_ascii_digit d) (all_ascii_digits ds) h) ends in
    let one : 1 + prefix_len is_ascii_digit (ds ++ rest) ≡ suc (length ds) = omega arith in
    ap (λ t. cond t (1 + prefix_len is_ascii_digit (ds ++ rest)) 0) digit ∙ one

digits_found : (digits rest : List ℕ) → all_ascii_digits digits ≡ true → prefix_len is_ascii_digit rest ≡ 0 → digits_at (digits ++ rest) ≡ digits
digits_found digits rest h ends = ap (λ n. take n (digits ++ rest)) (digits_end digits rest h ends) ∙ take-append_seam digits rest

spelled_found : (number_of : List ℕ → Option ℤ) (digits rest : List ℕ) (n : ℤ) → digits_at (digits ++ rest) ≡ digits → number_of digits ≡ Some n → spelled (number_of (digits_at (digits ++ rest))) (digits ++ rest) ≡ Some (n, rest)
spelled_found number_of digits rest n found number =
    ap (λ ds. spelled_by number_of ds (digits ++ rest)) found
    ∙ ap (option_map (λ m. (m, drop (length digits) (digits ++ rest)))) number
    ∙ ap (λ r. Some (n, r)) (drop-append_seam digits rest)
  where
    spelled_by : (List ℕ → Option ℤ) → List ℕ → List ℕ → Option (ℤ × List ℕ)
    spelled_by f ds bytes = option_map (λ m. (m, drop (length ds) bytes)) (f ds)

-- a spelled number is read, where no digit follows
integer_read : (text rest : List ℕ) (n : ℤ) → Spells text n → prefix_len is_ascii_digit rest ≡ 0 → integer_at (text ++ rest) ≡ Some (n, rest)
unfolding integer_at
integer_read text rest n (inl s) ends =
    ap (λ o. integer_without o (text ++ rest)) (no_minus text rest s.0.0 s.0.1)
    ∙ spelled_found natural_of text rest n (digits_found text rest s.0.1 ends) (natural_some text s.0.0 s.1 ∙ ap Some (sym s.2))
integer_read text rest n (inr s) ends =
    let digits = s.0 in
    ap (λ t. integer_without (behind (codes "-") (t ++ rest)) (t ++ rest)) s.1
    ∙ ap (λ o. integer_without o (codes "-" ++ (digits ++ rest))) (behind_self (codes "-") (digits ++ rest))
    ∙ spelled_found negative_of digits rest n (digits_found digits rest s.2.1 ends) (negative_some digits s.2.0 s.3 ∙ ap Some (sym s.4))

read_behind : (front text rest : List ℕ) (n : ℤ) → Spells text n → prefix_len is_ascii_digit rest ≡ 0 → integer_behind front (front ++ (text ++ rest)) ≡ Some (n, rest)
unfolding integer_behind
read_behind front text rest n s ends = ap (option_and_then integer_at) (behind_self front (text ++ rest)) ∙ integer_read text rest n s ends

go_on : {A B : Type 0} {o : Option A} {r : Option B} (next : A → Option B) (x : A) → o ≡ Some x → next x ≡ r → option_and_then next o ≡ r
go_on next x e h = ap (option_and_then next) e ∙ h

-- how an INSERT goes on behind each of its numbers
abbrev with_degree : ℤ → ℤ → ℤ × List ℕ → Option Statement
with_degree v w n = cond (bytes_eq n.1 (codes ")")) (Some (Insert v w n.0)) None

abbrev with_dst : ℤ → ℤ × List ℕ → Option Statement
with_dst v w = option_and_then (with_degree v w.0) (integer_behind (codes ":(") w.1)

abbrev with_src : ℤ × List ℕ → Option Statement
with_src v = option_and_then (with_dst v.0) (integer_behind (codes "->") v.1)

insert_found : (a b c : List ℕ) (v w n : ℤ) → Spells a v → Spells b w → Spells c n → insert_of (codes "INSERT EDGE follow(degree) VALUES " ++ (a ++ (codes "->" ++ (b ++ (codes ":(" ++ (c ++ codes ")")))))) ≡ Some (Insert v w n)
unfolding insert_of
insert_found a b c v w n sa sb sc =
    let behind_dst = codes ":(" ++ (c ++ codes ")") in
    let behind_src = codes "->" ++ (b ++ behind_dst) in
    go_on with_src (v, behind_src) (read_behind (codes "INSERT EDGE follow(degree) VALUES ") a behind_src v sa refl) (
    go_on (with_dst v) (w, behind_dst) (read_behind (codes "->") b behind_dst w sb refl) (
    go_on (with_degree v w) (n, codes ")") (read_behind (codes ":(") c (codes ")") n sc refl) refl))

regrouped : (front a arrow b colon c end : List ℕ) → front ++ a ++ arrow ++ b ++ colon ++ c ++ end ≡ front ++ (a ++ (arrow ++ (b ++ (colon ++ (c ++ end)))))
regrouped front a arrow b colon c end = simp append_assoc

pub insert_read : (a b c : List ℕ) (v w n : ℤ) → Spells a v → Spells b w → Spells c n → statement_of (codes "INSERT EDGE follow(degree) VALUES " ++ a ++ codes "->" ++ b ++ codes ":(" ++ c ++ codes ")") ≡ Some (Insert v w n)
insert_read a b c v w n sa sb sc =
    let line = codes "INSERT EDGE follow(degree) VALUES " ++ (a ++ (codes "->" ++ (b ++ (codes ":(" ++ (c ++ codes ")"))))) in
    ap statement_of (regrouped (codes "INSERT EDGE follow(degree) VALUES ") a (codes "->") b (codes ":(") c (codes ")"))
    ∙ ap (λ o. or_else o (go_of line)) (insert_found a b c v w n sa sb sc)

-- a GO is no INSERT
not_insert : (rest : List ℕ) → insert_of (codes "GO FROM " ++ rest) ≡ None
unfolding insert_of integer_behind behind
not_insert rest = refl

go_found : (text : List ℕ) (n : ℤ) (rest : List ℕ) → Spells text n → prefix_len is_ascii_digit rest ≡ 0 → go_of (codes "GO FROM " ++ (text ++ rest)) ≡ asked n rest
unfolding go_of
go_found text n rest s ends = rw (read_behind (codes "GO FROM ") text rest n s ends) refl

pub out_read : (a : List ℕ) (v : ℤ) → Spells a v → statement_of (codes "GO FROM " ++ a ++ codes " OVER follow YIELD dst(edge), follow.degree") ≡ Some (Out v)
out_read a v s =
    let rest = codes " OVER follow YIELD dst(edge), follow.degree" in
    ap (λ o. or_else o (go_of (codes "GO FROM " ++ (a ++ rest)))) (not_insert (a ++ rest)) ∙ go_found a v rest s refl

pub in_read : (a : List ℕ) (v : ℤ) → Spells a v → statement_of (codes "GO FROM " ++ a ++ codes " OVER follow REVERSELY YIELD src(edge), follow.degree") ≡ Some (In v)
in_read a v s =
    let rest = codes " OVER follow REVERSELY YIELD src(edge), follow.degree" in
    ap (λ o. or_else o (go_of (codes "GO FROM " ++ (a ++ rest)))) (not_insert (a ++ rest)) ∙ go_found a v rest s refl
