-- Lines of the same words: keywords in any case, and blanks of any number.
use Rattle.std.specs.Prelude.{◌≡◌, ℕ, true, List, [], ◌∷◌}
use Rattle.std.specs.Str.{str_to_ascii_lowercase}
use Rattle.ngql_lex.specs.declared.token.Token.{Token as Lexed}
use Rattle.ngql_lex.specs.declared.token.TokenKind.{TokenKind}
use Rattle.ngql_lex.specs.declared.token.TokenKind.TheVariants as lexed
use Rattle.ngql_parser.specs.declared.kind.Kind.TheVariants as kind
use Rattle.ngql_parser.specs.Tokens.{word_of, own_kind, is_kind, is_space_at}

-- a keyword in any case, and any other token as it is
abbrev pub SameWord : TokenKind → List ℕ → List ℕ → Type 0
SameWord lexed.Keyword one other = str_to_ascii_lowercase one ≡ str_to_ascii_lowercase other
SameWord _ one other = one ≡ other

pub record SameToken (line other : List ℕ) (t u : Lexed) : Type 0 where
  pub kind : u.kind ≡ t.kind
  pub word : SameWord t.kind (word_of line t) (word_of other u)

abbrev pub SameTokens : List ℕ → List ℕ → List Lexed → List Lexed → Type 0
SameTokens line other [] [] = Unit {0}
SameTokens line other (t ∷ ts) (u ∷ us) = SameToken line other t u × SameTokens line other ts us
SameTokens line other _ _ = ⊥

-- the number of a client, and whether a space stands behind it
abbrev pub SameClient : List ℕ → List ℕ → List Lexed → List Lexed → Type 0
SameClient line other (t ∷ c ∷ ts) (u ∷ d ∷ us) =
    is_kind (own_kind line t) kind.At ≡ true → (word_of line c ≡ word_of other d) × (is_space_at line c.upto ≡ is_space_at other d.upto)
SameClient line other _ _ = Unit {0}

-- the tokens of a line, and of another with the same words
pub record SameLine (line other : List ℕ) (ts us : List Lexed) : Type 0 where
  pub tokens : SameTokens line other ts us
  pub client : SameClient line other ts us
