-- What is promised of reading a line.
use Rattle.std.specs.Prelude.{◌≡◌, ◌⊎◌, ℕ, ◌+◌, Bool, true, false, List, [], ◌∷◌, length, Result, Ok, Err, if◌then◌else◌}
use Rattle.grammar.specs.Grammar.{is_among}
use Rattle.grammar.specs.Language.{Spelled, Misfit}
use Rattle.ngql_lex.specs.Lines.{without_cr, IsLexed, IsMisfit}
use Rattle.ngql_lex.specs.declared.token.Token.{Token as Lexed}
use Rattle.ngql_syntax.specs.declared.statement.Line.{Line}
use Rattle.ngql_parser.specs.declared.kind.Kind.TheVariants as kind
use Rattle.ngql_parser.specs.declared.parse_refused.ParseRefused.{ParseRefused}
use Rattle.ngql_parser.specs.declared.parse_refused.ParseRefused.TheVariants as refused
use Rattle.ngql_parser.specs.declared.refusal.Refusal.{Refusal}
use Rattle.ngql_parser.specs.declared.refusal.Refusal.TheVariants as refusal
use Rattle.ngql_parser.specs.declared.token.Token.{Token}
use Rattle.ngql_parser.specs.Kinds.{code, bad_options}
use Rattle.ngql_parser.specs.Rules.{ngql, line, kind_of}
use Rattle.ngql_parser.specs.Tokens.{line_from}

-- the tokens spell the line, within the limits
abbrev pub AreLine : List Token → Line → Type 0
AreLine ts l = Spelled ngql false line ts l

-- the first misfit of the tokens stands where rest begins
abbrev pub Misfits : List Token → Bool → List Token → Type 0
Misfits ts of_limits rest = Misfit ngql line ts of_limits rest

-- what a refused reading says
abbrev pub Refused : List Token → Refusal → Type 0
Refused ts refusal.NoMemory = Unit {0}
Refused ts refusal.Spent = ⊥
Refused ts (refusal.Misfit of_limits rest) = Misfits ts of_limits rest.now

-- nothing else is answered, unless memory runs out
abbrev pub IsThis : Line → Result Line Refusal → Type 0
IsThis l (Ok found) = found ≡ l
IsThis l (Err refusal.NoMemory) = Unit {0}
IsThis l (Err refusal.Spent) = ⊥
IsThis l (Err (refusal.Misfit of_limits rest)) = ⊥

-- the place of the next token, or of the end of the line
abbrev pub place : ℕ → List Token → ℕ
place end [] = end
place end (t ∷ rest) = t.at

-- the refusal for a misfit of the limits: a number that is too wide, an option that isn't allowed, or too many
abbrev pub limit_by : ℕ → ℕ → ParseRefused
limit_by k at =
    if is_among k (code kind.WideInt ∷ []) then refused.NumberTooWide at
    else if is_among k bad_options then refused.BadOption at
    else refused.TooMany at

abbrev pub limit_at : ℕ → List Token → ParseRefused
limit_at end [] = refused.Syntax end
limit_at end (t ∷ rest) = limit_by (kind_of t) t.at

abbrev pub refused_at : Bool → ℕ → List Token → ParseRefused
refused_at false end rest = refused.Syntax (place end rest)
refused_at true end rest = limit_at end rest

-- The tokens of the line's bytes, as the grammar sees them.
pub record Tokens (version : ℕ) (bytes : List ℕ) : Type 0 where
  pub lexed : List Lexed
  pub are : IsLexed (without_cr bytes) lexed

abbrev pub tokens_in : (version : ℕ) (bytes : List ℕ) → Tokens version bytes → List Token
tokens_in version bytes t = line_from version (without_cr bytes) t.lexed

-- The bytes spell the line.
pub record Spells (version : ℕ) (bytes : List ℕ) (l : Line) : Type 0 where
  pub tokens : Tokens version bytes
  pub line : AreLine (tokens_in version bytes tokens) l

-- A refusal names the first misfit: of the tokens, or of the grammar and its limits, at its place from 1.
pub record RefusedAt (version : ℕ) (bytes : List ℕ) (e : ParseRefused) : Type 0 where
  pub tokens : Tokens version bytes
  pub of_limits : Bool
  pub rest : List Token
  pub misfit : Misfits (tokens_in version bytes tokens) of_limits rest
  pub is : e ≡ refused_at of_limits (length (without_cr bytes) + 1) rest

-- what a refusal says: want of memory, the first byte that begins no token, or the first misfit of the grammar
abbrev pub Says : ℕ → List ℕ → ParseRefused → Type 0
Says version bytes e = (e ≡ refused.NoMemory) ⊎ (((at : ℕ) × (e ≡ refused.BadToken at) × IsMisfit (without_cr bytes) at) ⊎ RefusedAt version bytes e)

-- a line that the bytes spell is answered, unless memory runs out
abbrev pub IsAnswered : Line → Result Line ParseRefused → Type 0
IsAnswered l (Ok found) = found ≡ l
IsAnswered l (Err refused.NoMemory) = Unit {0}
IsAnswered l (Err e) = ⊥

-- the tokens of the bytes, if there are any
abbrev pub AreTokensOf : ℕ → List ℕ → List Token → Type 0
AreTokensOf version bytes tokens = (t : Tokens version bytes) × (tokens ≡ tokens_in version bytes t)

abbrev pub AreAnswered : List Token → Result (List Token) ParseRefused → Type 0
AreAnswered tokens (Ok found) = found ≡ tokens
AreAnswered tokens (Err refused.NoMemory) = Unit {0}
AreAnswered tokens (Err e) = ⊥

abbrev pub Unlexed : List ℕ → ParseRefused → Type 0
Unlexed bytes e = (e ≡ refused.NoMemory) ⊎ ((at : ℕ) × (e ≡ refused.BadToken at) × IsMisfit (without_cr bytes) at)
