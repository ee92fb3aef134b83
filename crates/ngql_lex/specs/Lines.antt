-- The tokens of a line, and the first misfit of a line that has none.
use Rattle.std.specs.Prelude.{◌≡◌, ℕ, ◌+◌, ◌-◌, ◌≤◌, ◌<◌, ◌==◌, Bool, true, false, List, [], ◌∷◌, length, drop, take, get_or, if◌then◌else◌, Result, Ok, Err}
use Rattle.std.specs.Str.Lossy.{utf8_valid_len}
use Rattle.ngql_lex.specs.Bytes.{is_blank}
use Rattle.ngql_lex.specs.Front.{front}
use Rattle.ngql_lex.specs.declared.front.Front.{Front}
use Rattle.ngql_lex.specs.declared.front.Front.TheVariants.{Found, Bad}
use Rattle.ngql_lex.specs.declared.refused.LexRefused.{LexRefused}
use Rattle.ngql_lex.specs.declared.refused.LexRefused.TheVariants.{BadToken, NoMemory}
use Rattle.ngql_lex.specs.declared.token.Token.{Token}

-- a line without the CR that it ends in
abbrev pub ends_in_cr : List ℕ → Bool
ends_in_cr line = get_or line (length line - 1) 0 == 13

abbrev pub without_cr : List ℕ → List ℕ
without_cr line = if ends_in_cr line then take (length line - 1) line else line

-- the token that begins in a line behind so many bytes
abbrev pub front_at : List ℕ → ℕ → Front
front_at line at = front (utf8_valid_len line - at) (drop at line)

-- each byte from a place up to another is a blank
pub record AreBlank (line : List ℕ) (from upto : ℕ) : Type 0 where
  pub rising : from ≤ upto
  pub blank : (k : ℕ) → from ≤ k → k < upto → is_blank (get_or line k 0) ≡ true

-- behind blanks from a place on stands the token, which is the longest that begins there
pub record Stands (line : List ℕ) (at : ℕ) (t : Token) : Type 0 where
  pub blanks : AreBlank line at t.from
  pub len : ℕ
  pub token : front_at line t.from ≡ Found t.kind len
  pub upto : t.upto ≡ t.from + len

-- from a place up to another stand these tokens, and blanks
abbrev pub AreTokens : List ℕ → ℕ → List Token → ℕ → Type 0
AreTokens line at [] upto = AreBlank line at upto
AreTokens line at (t ∷ tokens) upto = Stands line at t × AreTokens line t.upto tokens upto

-- the tokens of a whole line
abbrev pub IsLexed : List ℕ → List Token → Type 0
IsLexed line tokens = AreTokens line 0 tokens (length line)

-- The first byte that fits no token: up to some place stand tokens and blanks, and there stands neither.
pub record IsMisfit (line : List ℕ) (place : ℕ) : Type 0 where
  pub before : List Token
  pub at : ℕ
  pub tokens : AreTokens line 0 before at
  pub inside : at < length line
  pub mark : is_blank (get_or line at 0) ≡ false
  pub behind : ℕ
  pub bad : front_at line at ≡ Bad behind
  pub place_is : place ≡ at + behind + 1

-- what a refusal says: places count from 1
abbrev pub Refused : List ℕ → LexRefused → Type 0
Refused line (BadToken place) = IsMisfit line place
Refused line NoMemory = Unit {0}

-- the line's tokens are answered, unless memory runs out
abbrev pub IsAnswered : List Token → Result (List Token) LexRefused → Type 0
IsAnswered tokens (Ok found) = found ≡ tokens
IsAnswered tokens (Err NoMemory) = Unit {0}
IsAnswered tokens (Err (BadToken place)) = ⊥
