-- Where the first LF of a script stands.
use Rattle.std.proofs.Common.{◌≡◌, ℕ, zero, suc, ◌+◌, ◌-◌, ◌<◌, ◌≤◌, length, get_or, take, drop, arith, List, [], ◌∷◌, Some, None, cond, Bool, true, false, refl, ap, sym, ◌∙◌}
use Rattle.std.specs.Prelude.{◌==◌, position, not, nat_lt}
use Rattle.std.specs.List.{prefix_len}
use Rattle.std.proofs.lemmas.Bool.{ltb-false}
use Rattle.std.proofs.lemmas.List.{take_all, length-drop}
use Rattle.std.proofs.lemmas.List.Sums.{prefix_len_passes}
use Rattle.std.proofs.lemmas.List.Quantifiers.{position-Some}
use Rattle.first_script.specs.Lines.{lines, whole_lines, in_front, in_front_whole}

suc_add : (i : ℕ) → suc i + 1 ≡ suc (i + 1)
suc_add i = omega arith

-- cut at an LF that no other stands before
cut : (bs : List ℕ) (i : ℕ) → i < length bs → (get_or bs i 0 == 10) ≡ true → ((k : ℕ) → k < i → (get_or bs k 0 == 10) ≡ false) → lines bs ≡ take i bs ∷ lines (drop (i + 1) bs)
cut [] i within here before = absurd (omega arith)
cut (b ∷ bs) zero within here before = ap (λ t. cond t ([] ∷ lines bs) (in_front b (lines bs))) here
cut (b ∷ bs) (suc i) within here before =
    let rest : lines bs ≡ take i bs ∷ lines (drop (i + 1) bs) = cut bs i (omega arith) here (λ k h. before (suc k) (omega arith)) in
    ap (λ t. cond t ([] ∷ lines bs) (in_front b (lines bs))) (before 0 (omega arith)) ∙ ap (in_front b) rest ∙ ap (λ n. (b ∷ take i bs) ∷ lines (drop n (b ∷ bs))) (sym (suc_add i))

cut_whole : (bs : List ℕ) (i : ℕ) → i < length bs → (get_or bs i 0 == 10) ≡ true → ((k : ℕ) → k < i → (get_or bs k 0 == 10) ≡ false) → whole_lines bs ≡ take i bs ∷ whole_lines (drop (i + 1) bs)
cut_whole [] i within here before = absurd (omega arith)
cut_whole (b ∷ bs) zero within here before = ap (λ t. cond t ([] ∷ whole_lines bs) (in_front_whole b (whole_lines bs))) here
cut_whole (b ∷ bs) (suc i) within here before =
    let rest : whole_lines bs ≡ take i bs ∷ whole_lines (drop (i + 1) bs) = cut_whole bs i (omega arith) here (λ k h. before (suc k) (omega arith)) in
    ap (λ t. cond t ([] ∷ whole_lines bs) (in_front_whole b (whole_lines bs))) (before 0 (omega arith)) ∙ ap (in_front_whole b) rest ∙ ap (λ n. (b ∷ take i bs) ∷ whole_lines (drop n (b ∷ bs))) (sym (suc_add i))

-- the part of the bytes from a place on
pub rest_behind : (bs : List ℕ) (k : ℕ) → take (length bs - k) (drop k bs) ≡ drop k bs
rest_behind bs k = take_all (length bs - k) (drop k bs) (omega (arith, length-drop k bs))

-- the first LF ends the first line
pub lines_at : (bs : List ℕ) (i : ℕ) → position (λ b. b == 10) bs ≡ Some i → lines bs ≡ take i bs ∷ lines (drop (i + 1) bs)
lines_at bs i h = let p = position-Some (λ b. b == 10) bs i 0 h in cut bs i p.0 p.1 p.2

pub whole_lines_at : (bs : List ℕ) (i : ℕ) → position (λ b. b == 10) bs ≡ Some i → whole_lines bs ≡ take i bs ∷ whole_lines (drop (i + 1) bs)
whole_lines_at bs i h = let p = position-Some (λ b. b == 10) bs i 0 h in cut_whole bs i p.0 p.1 p.2

in_front_some : (b : ℕ) (ls : List (List ℕ)) → in_front_whole b ls ≡ [] → ls ≡ []
in_front_some b [] h = refl
in_front_some b (l ∷ ls) h = cc

-- the bytes as one line, where there are any
abbrev alone : List ℕ → List (List ℕ)
alone [] = []
alone (b ∷ bs) = (b ∷ bs) ∷ []

in_front_alone : (b : ℕ) (bs : List ℕ) → in_front b (alone bs) ≡ (b ∷ bs) ∷ []
in_front_alone b [] = refl
in_front_alone b (c ∷ bs) = refl

-- a byte of what no LF ends is no LF, and no LF ends what stands behind it
behind_first : (b : ℕ) (bs : List ℕ) (t : Bool) → cond t ([] ∷ whole_lines bs) (in_front_whole b (whole_lines bs)) ≡ [] → (t ≡ false) × (whole_lines bs ≡ [])
behind_first b bs true h = cc
behind_first b bs false h = (refl, in_front_some b (whole_lines bs) h)

-- what no LF ends is one line
one_line : (bs : List ℕ) → whole_lines bs ≡ [] → lines bs ≡ alone bs
one_line [] h = refl
one_line (b ∷ bs) h =
    let f = behind_first b bs (b == 10) h in
    ap (λ t. cond t ([] ∷ lines bs) (in_front b (lines bs))) f.0 ∙ ap (in_front b) (one_line bs f.1) ∙ in_front_alone b bs

pub last_line : (bs : List ℕ) → whole_lines bs ≡ [] → (length bs == 0) ≡ false → lines bs ≡ bs ∷ []
last_line [] h some = cc
last_line (b ∷ bs) h some = one_line (b ∷ bs) h

none_at_by : (n m : ℕ) (t : Bool) → nat_lt n m ≡ t → cond t (Some n) None ≡ None → m ≤ n
none_at_by n m true e h = cc
none_at_by n m false e h = ltb-false n m e

none_at : (n m : ℕ) → cond (nat_lt n m) (Some n) None ≡ None → m ≤ n
none_at n m h = none_at_by n m (nat_lt n m) refl h

-- where no LF is found none ends a line
no_cut : (bs : List ℕ) → ((k : ℕ) → k < length bs → (get_or bs k 0 == 10) ≡ false) → whole_lines bs ≡ []
no_cut [] none = refl
no_cut (b ∷ bs) none =
    ap (λ t. cond t ([] ∷ whole_lines bs) (in_front_whole b (whole_lines bs))) (none 0 (omega arith)) ∙ ap (in_front_whole b) (no_cut bs (λ k h. none (suc k) (omega arith)))

passes : (b : Bool) → not b ≡ true → b ≡ false
passes true h = cc
passes false h = refl

pub no_whole_line : (bs : List ℕ) → position (λ b. b == 10) bs ≡ None → whole_lines bs ≡ []
no_whole_line bs h = no_cut bs (λ k within. passes (get_or bs k 0 == 10) (prefix_len_passes (λ b. not (b == 10)) bs k 0 (omega (arith, none_at (prefix_len (λ b. not (b == 10)) bs) (length bs) h))))
