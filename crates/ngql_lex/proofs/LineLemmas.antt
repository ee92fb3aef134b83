-- How the tokens of a line go on, and that there is one way to go on.
use Rattle.std.proofs.Common.{◌≡◌, ◌⊎◌, ℕ, zero, suc, ◌+◌, ◌-◌, ◌<◌, ◌≤◌, ◌==◌, ◌||◌, Bool, true, false, List, [], ◌∷◌, ◌++◌, length, drop, get_or, refl, sym, ◌∙◌, ap, subst, arith, inl, inr, append_assoc, append-nil}
use Rattle.std.proofs.Math.ListN.{drop_of_length-le}
use Rattle.std.proofs.Math.Nat.{eq-or-lt_of_le}
use Rattle.std.proofs.lemmas.Bool.{eqb-true}
use Rattle.std.specs.Str.Lossy.{utf8_valid_len}
use Rattle.ngql_lex.specs.Bytes.{is_blank}
use Rattle.ngql_lex.specs.Front.{front}
use Rattle.ngql_lex.specs.Lines.{front_at, AreBlank, Stands, AreTokens}
use Rattle.ngql_lex.specs.declared.front.Front.{Front}
use Rattle.ngql_lex.specs.declared.front.Front.TheVariants.{Found, Bad}
use Rattle.ngql_lex.specs.declared.token.Token.{Token}
use Rattle.ngql_lex.specs.declared.token.TokenKind.{TokenKind}
use Rattle.ngql_lex.specs.declared.token.TokenKind.TheVariants.{Mark}

abbrev pub token_at : TokenKind → ℕ → ℕ → Token
token_at kind at len = record { kind = kind; from = at; upto = at + len }

none_between : (k n : ℕ) → n ≤ k → k < n → ⊥
none_between k n low high = omega arith

no_blanks : (line : List ℕ) (at : ℕ) → AreBlank line at at
no_blanks line at = record { rising = omega arith; blank = λ k low high. elim (none_between k at low high) [ ] }

at_or_below : (k n : ℕ) → k < n + 1 → (k ≡ n) ⊎ (k < n)
at_or_below k n h = let le : k ≤ n = omega arith in eq-or-lt_of_le le

one_blank_more : (line : List ℕ) (a at : ℕ) → AreBlank line a at → is_blank (get_or line at 0) ≡ true → AreBlank line a (at + 1)
one_blank_more line a at run here = record {
  rising = let r = run.rising in omega arith;
  blank = λ k low high. blank_by k low (at_or_below k at high);
}
  where
    blank_by : (k : ℕ) → a ≤ k → (k ≡ at) ⊎ (k < at) → is_blank (get_or line k 0) ≡ true
    blank_by k low (inl e) = rw e here
    blank_by k low (inr below) = run.blank k low below

-- a blank behind what was read
pub blank_more : (line : List ℕ) (a : ℕ) (tokens : List Token) (at : ℕ) → AreTokens line a tokens at → is_blank (get_or line at 0) ≡ true → AreTokens line a tokens (at + 1)
blank_more line a [] at run here = one_blank_more line a at run here
blank_more line a (t ∷ tokens) at h here = (h.0, blank_more line t.upto tokens at h.1 here)

-- a token behind what was read
pub token_more : (line : List ℕ) (a : ℕ) (tokens : List Token) (at : ℕ) (kind : TokenKind) (len : ℕ) → AreTokens line a tokens at → front_at line at ≡ Found kind len
    → AreTokens line a (tokens ++ token_at kind at len ∷ []) (at + len)
token_more line a [] at kind len run is = (record { blanks = run; len = len; token = is; upto = refl }, no_blanks line (at + len))
token_more line a (t ∷ tokens) at kind len h is = (h.0, token_more line t.upto tokens at kind len h.1 is)

-- the tokens of the line are those so far, and others from a place on
pub record GoesOn (line : List ℕ) (made : List Token) (at : ℕ) (tokens : List Token) : Type 0 where
  pub rest : List Token
  pub are : tokens ≡ made ++ rest
  pub behind : AreTokens line at rest (length line)

-- no token begins with a blank
or_true : (x y : Bool) → (x || y) ≡ true → (x ≡ true) ⊎ (y ≡ true)
or_true true y h = inl refl
or_true false y h = inr h

blank_front : (good b : ℕ) (bytes : List ℕ) → (b ≡ 32) ⊎ (b ≡ 9) → front good (b ∷ bytes) ≡ Bad 0
blank_front good b bytes (inl e) = rw e refl
blank_front good b bytes (inr e) = rw e refl

is_one : (b : ℕ) → (b == 32 ≡ true) ⊎ (b == 9 ≡ true) → (b ≡ 32) ⊎ (b ≡ 9)
is_one b (inl e) = inl (eqb-true b 32 e)
is_one b (inr e) = inr (eqb-true b 9 e)

front_behind : (good : ℕ) (line : List ℕ) (at : ℕ) → is_blank (get_or line at 0) ≡ true → front good (drop at line) ≡ Bad 0
front_behind good [] zero h = refl
front_behind good [] (suc at) h = refl
front_behind good (b ∷ line) zero h = blank_front good b line (is_one b (or_true (b == 32) (b == 9) h))
front_behind good (b ∷ line) (suc at) h = front_behind good line at h

blank_front_at : (line : List ℕ) (at : ℕ) → is_blank (get_or line at 0) ≡ true → front_at line at ≡ Bad 0
blank_front_at line at h = front_behind (utf8_valid_len line - at) line at h

-- nothing begins behind the line
end_front_at : (line : List ℕ) (at : ℕ) → length line ≤ at → front_at line at ≡ Bad 0
end_front_at line at h = rw (drop_of_length-le line h) refl

not_both : (kind : TokenKind) (len behind : ℕ) (line : List ℕ) (at : ℕ) → front_at line at ≡ Found kind len → front_at line at ≡ Bad behind → ⊥
not_both kind len behind line at found bad = let h : Found kind len ≡ Bad behind = sym found ∙ bad in cc

marked : (line : List ℕ) (at : ℕ) → is_blank (get_or line at 0) ≡ true → is_blank (get_or line at 0) ≡ false → ⊥
marked line at yes_blank no_blank = let h : true ≡ false = sym yes_blank ∙ no_blank in cc

narrowed : (line : List ℕ) (at upto : ℕ) → at < upto → AreBlank line at upto → AreBlank line (at + 1) upto
narrowed line at upto below run = record { rising = omega arith; blank = λ k low high. run.blank k (omega arith) high }

-- behind a blank the same tokens stand
later_start : (line : List ℕ) (at : ℕ) (t : Token) → is_blank (get_or line at 0) ≡ true → Stands line at t → (at ≡ t.from) ⊎ (at < t.from) → Stands line (at + 1) t
later_start line at t here s (inl e) = elim (not_both t.kind s.len 0 line at (rw e s.token) (blank_front_at line at here)) [ ]
later_start line at t here s (inr below) = record { blanks = narrowed line at t.from below s.blanks; len = s.len; token = s.token; upto = s.upto }

past_blank : (line : List ℕ) (at : ℕ) (rest : List Token) → at < length line → is_blank (get_or line at 0) ≡ true → AreTokens line at rest (length line) → AreTokens line (at + 1) rest (length line)
past_blank line at [] inside here run = narrowed line at (length line) inside run
past_blank line at (t ∷ rest) inside here h = (later_start line at t here h.0 (eq-or-lt_of_le h.0.blanks.rising), h.1)

pub blank_on : (line : List ℕ) (made : List Token) (at : ℕ) (tokens : List Token) → at < length line → is_blank (get_or line at 0) ≡ true → GoesOn line made at tokens → GoesOn line made (at + 1) tokens
blank_on line made at tokens inside here g = record { rest = g.rest; are = g.are; behind = past_blank line at g.rest inside here g.behind }

-- the next token is the one that begins here
kind_in : Front → TokenKind
kind_in (Found kind len) = kind
kind_in (Bad behind) = Mark

len_in : Front → ℕ
len_in (Found kind len) = len
len_in (Bad behind) = 0

token_is : (t : Token) (kind : TokenKind) (at len : ℕ) → t.kind ≡ kind → t.from ≡ at → t.upto ≡ at + len → t ≡ token_at kind at len
token_is t kind at len a b c = rw (← c, ← b, ← a) refl

-- the tokens from here on begin with it
pub record Next (line : List ℕ) (t : Token) (rest : List Token) : Type 0 where
  pub others : List Token
  pub are : rest ≡ t ∷ others
  pub behind : AreTokens line t.upto others (length line)

begins_with : (line : List ℕ) (at : ℕ) (t : Token) (rest : List Token) (kind : TokenKind) (len : ℕ) → is_blank (get_or line at 0) ≡ false → front_at line at ≡ Found kind len
    → Stands line at t → AreTokens line t.upto rest (length line) → (at ≡ t.from) ⊎ (at < t.from) → Next line (token_at kind at len) (t ∷ rest)
unfolding len_in kind_in
begins_with line at t rest kind len mark is s behind (inr below) = elim (marked line at (s.blanks.blank at (omega arith) below) mark) [ ]
begins_with line at t rest kind len mark is s behind (inl e) =
    let same : Found t.kind s.len ≡ Found kind len = sym s.token ∙ (rw (← e) is) in
    let ends : t.upto ≡ at + len = s.upto ∙ (rw (← e) (ap (λ n. at + n) (ap len_in same))) in
    record {
      others = rest;
      are = ap (λ x. x ∷ rest) (token_is t kind at len (ap kind_in same) (sym e) ends);
      behind = subst (λ n. AreTokens line n rest (length line)) ends behind;
    }

next_token : (line : List ℕ) (at : ℕ) (rest : List Token) (kind : TokenKind) (len : ℕ) → at < length line → is_blank (get_or line at 0) ≡ false → front_at line at ≡ Found kind len
    → AreTokens line at rest (length line) → Next line (token_at kind at len) rest
next_token line at [] kind len inside mark is run = elim (marked line at (run.blank at (omega arith) inside) mark) [ ]
next_token line at (t ∷ rest) kind len inside mark is h = begins_with line at t rest kind len mark is h.0 h.1 (eq-or-lt_of_le h.0.blanks.rising)

pub token_on : (line : List ℕ) (made : List Token) (at : ℕ) (tokens : List Token) (kind : TokenKind) (len : ℕ) → at < length line → is_blank (get_or line at 0) ≡ false
    → front_at line at ≡ Found kind len → GoesOn line made at tokens → GoesOn line (made ++ token_at kind at len ∷ []) (at + len) tokens
token_on line made at tokens kind len inside mark is g =
    let n : Next line (token_at kind at len) g.rest = next_token line at g.rest kind len inside mark is g.behind in
    record { rest = n.others; are = g.are ∙ (ap (λ r. made ++ r) n.are ∙ sym (append_assoc made (token_at kind at len ∷ []) n.others)); behind = n.behind }

-- where nothing begins, the line has no tokens
bad_by : (line : List ℕ) (at : ℕ) (t : Token) (behind : ℕ) → is_blank (get_or line at 0) ≡ false → front_at line at ≡ Bad behind → Stands line at t → (at ≡ t.from) ⊎ (at < t.from) → ⊥
bad_by line at t behind mark is s (inl e) = not_both t.kind s.len behind line at (rw e s.token) is
bad_by line at t behind mark is s (inr below) = marked line at (s.blanks.blank at (omega arith) below) mark

no_tokens : (line : List ℕ) (at : ℕ) (rest : List Token) (behind : ℕ) → at < length line → is_blank (get_or line at 0) ≡ false → front_at line at ≡ Bad behind → AreTokens line at rest (length line) → ⊥
no_tokens line at [] behind inside mark is run = marked line at (run.blank at (omega arith) inside) mark
no_tokens line at (t ∷ rest) behind inside mark is h = bad_by line at t behind mark is h.0 (eq-or-lt_of_le h.0.blanks.rising)

pub bad_on : (line : List ℕ) (made : List Token) (at : ℕ) (tokens : List Token) (behind : ℕ) → at < length line → is_blank (get_or line at 0) ≡ false → front_at line at ≡ Bad behind → GoesOn line made at tokens → ⊥
bad_on line made at tokens behind inside mark is g = no_tokens line at g.rest behind inside mark is g.behind

-- at the line's end all tokens were made
none_left : (line : List ℕ) (at : ℕ) (rest : List Token) → length line ≤ at → AreTokens line at rest (length line) → rest ≡ []
none_left line at [] high run = refl
none_left line at (t ∷ rest) high h =
    let low : at ≤ t.from = h.0.blanks.rising in
    elim (not_both t.kind h.0.len 0 line t.from h.0.token (end_front_at line t.from (omega arith))) [ ]

pub end_on : (line : List ℕ) (made : List Token) (at : ℕ) (tokens : List Token) → length line ≤ at → GoesOn line made at tokens → made ≡ tokens
end_on line made at tokens high g = sym (g.are ∙ (ap (λ r. made ++ r) (none_left line at g.rest high g.behind) ∙ append-nil made))
