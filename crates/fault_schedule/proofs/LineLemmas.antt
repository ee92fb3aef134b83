-- The words of a line, and the spaces at its end.
use Rattle.std.proofs.Common.{◌≡◌, ℕ, zero, suc, ◌<◌, ◌≤◌, ◌+◌, ◌-◌, length, arith, List, [], ◌∷◌, None, cond, Bool, true, false, refl, ap, sym, ◌∙◌, take, drop}
use Rattle.std.specs.Prelude.{get_or, not, nat_eq}
use Rattle.std.proofs.lemmas.Bool.{cond-true, cond-false, eq-eqb, ne_eqb}
use Rattle.std.proofs.Math.Seq.{take-length}
use Rattle.std.proofs.lemmas.List.{length-drop}
use Rattle.std.proofs.lemmas.List.Sums.{take_while-cons}
use Rattle.fault_schedule.specs.Words.{words, first, goes_on, without_spaces, before_spaces}
use Rattle.fault_schedule.specs.Reading.{control_of}

-- a space behind the text goes, and another byte stays
pub space_goes : (line : List ℕ) (n : ℕ) → n < length line → get_or line n 0 ≡ 32 → without_spaces (take (suc n) line) ≡ without_spaces (take n line)
unfolding without_spaces
space_goes [] n inside is = absurd (omega arith)
space_goes (b ∷ line) zero inside is = cond-true _ _ _ (eq-eqb b 32 is)
space_goes (b ∷ line) (suc n) inside is = ap (before_spaces b) (space_goes line n (omega arith) is)

before_some : (b : ℕ) (line : List ℕ) → 0 < length line → before_spaces b line ≡ b ∷ line
before_some b [] some = absurd (omega arith)
before_some b (c ∷ line) some = refl

pub byte_stays : (line : List ℕ) (n : ℕ) → n < length line → (get_or line n 0 ≡ 32 → ⊥) → without_spaces (take (suc n) line) ≡ take (suc n) line
unfolding without_spaces
byte_stays [] n inside not_space = absurd (omega arith)
byte_stays (b ∷ line) zero inside not_space = cond-false _ _ _ (ne_eqb b 32 not_space)
byte_stays (b ∷ []) (suc n) inside not_space = absurd (omega arith)
byte_stays (b ∷ c ∷ line) (suc n) inside not_space =
    ap (before_spaces b) (byte_stays (c ∷ line) n (omega arith) not_space)

pub one_less : (line : List ℕ) (end : ℕ) → 0 < end → end ≤ length line → get_or line (end - 1) 0 ≡ 32 → without_spaces (take (end - 1) line) ≡ without_spaces (take end line)
one_less line zero some within is = absurd (omega arith)
one_less line (suc n) some within is =
    let m : suc n - 1 ≡ n = omega arith in
    ap (λ k. without_spaces (take k line)) m ∙ sym (space_goes line n (omega arith) (ap (λ k. get_or line k 0) (sym m) ∙ is))

pub ends_there : (line : List ℕ) (end : ℕ) → 0 < end → end ≤ length line → (get_or line (end - 1) 0 ≡ 32 → ⊥) → without_spaces (take end line) ≡ take end line
ends_there line zero some within not_space = absurd (omega arith)
ends_there line (suc n) some within not_space =
    let m : suc n - 1 ≡ n = omega arith in
    byte_stays line n (omega arith) (λ is. not_space (ap (λ k. get_or line k 0) m ∙ is))

pub none_left : without_spaces [] ≡ []
unfolding without_spaces
none_left = refl

-- the words of a text are its first word and those behind the space that ends it
pub first_step : (b : ℕ) (text : List ℕ) → first (b ∷ text) ≡ cond (not (nat_eq b 32)) (b ∷ first text) []
first_step b text = take_while-cons (λ b. not (nat_eq b 32)) b text

all_step : (b : ℕ) (text : List ℕ) (t : Bool) → length (cond (not t) (b ∷ first text) []) ≡ suc (length text) → (length (first text) ≡ length text → words text ≡ text ∷ []) → cond t ([] ∷ words text) (goes_on b (words text)) ≡ (b ∷ text) ∷ []
all_step b text true len hence = absurd (omega arith)
all_step b text false len hence = ap (goes_on b) (hence (omega arith))

pub one_word : (text : List ℕ) → length (first text) ≡ length text → words text ≡ text ∷ []
unfolding words
one_word [] len = refl
one_word (b ∷ text) len = all_step b text (nat_eq b 32) (rw (← first_step b text) len) (one_word text)

cut_step : (b : ℕ) (text : List ℕ) (t : Bool) → length (cond (not t) (b ∷ first text) []) < suc (length text) → (length (first text) < length text → words text ≡ take (length (first text)) text ∷ words (drop (suc (length (first text))) text)) → cond t ([] ∷ words text) (goes_on b (words text)) ≡ take (length (cond (not t) (b ∷ first text) [])) (b ∷ text) ∷ words (drop (suc (length (cond (not t) (b ∷ first text) []))) (b ∷ text))
cut_step b text true len hence = refl
cut_step b text false len hence = ap (goes_on b) (hence (omega arith))

pub first_of_many : (text : List ℕ) → length (first text) < length text → words text ≡ take (length (first text)) text ∷ words (drop (suc (length (first text))) text)
unfolding words
first_of_many [] len = absurd (omega arith)
first_of_many (b ∷ text) len = rw (first_step b text) (cut_step b text (nat_eq b 32) (rw (← first_step b text) len) (first_of_many text))

-- a text has a word, so five words or more are no control's
pub too_many : (command a b c text : List ℕ) → control_of (command ∷ a ∷ b ∷ c ∷ words text) ≡ None
unfolding words
too_many command a b c [] = refl
too_many command a b c (d ∷ text) = five command a b c (words text) d (nat_eq d 32)
  where
    five : (command a b c : List ℕ) (more : List (List ℕ)) (d : ℕ) (t : Bool) → control_of (command ∷ a ∷ b ∷ c ∷ cond t ([] ∷ more) (goes_on d more)) ≡ None
    five command a b c more d true = refl
    five command a b c [] d false = refl
    five command a b c (word ∷ more) d false = refl

pub rest_taken : (text : List ℕ) (n : ℕ) → n ≡ length (first text) → n ≤ length text → (n ≡ length text → ⊥) → words text ≡ take n text ∷ words (take (length text - (n + 1)) (drop (n + 1) text))
rest_taken text n is within more =
    let all : take (length text - (n + 1)) (drop (n + 1) text) ≡ drop (n + 1) text = ap (λ k. take k (drop (n + 1) text)) (sym (length-drop (n + 1) text)) ∙ take-length (drop (n + 1) text) in
    let next : n + 1 ≡ suc n = omega arith in
    rw (all, next, is) (first_of_many text (omega arith))
