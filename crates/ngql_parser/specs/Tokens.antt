-- The tokens of a line as the grammar sees them, from those that the line has.
use Rattle.std.specs.Prelude.{ℕ, ℤ, pos, negsuc, ◌+◌, ◌-◌, ◌<◌, ◌^◌, ◌==◌, Bool, true, false, not, ◌&&◌, ◌||◌, List, [], ◌∷◌, ◌++◌, length, take, drop, get_or, nat_le, Option, Some, None, unwrap_or, if◌then◌else◌}
use Rattle.grammar.specs.Grammar.{is_among}
use Rattle.ngql_lex.specs.declared.token.Token.{Token as Lexed}
use Rattle.ngql_lex.specs.declared.token.TokenKind.{TokenKind}
use Rattle.ngql_lex.specs.declared.token.TokenKind.TheVariants as lexed
use Rattle.ngql_parser.specs.declared.kind.Kind.{Kind}
use Rattle.ngql_parser.specs.declared.kind.Kind.TheVariants as kind
use Rattle.ngql_parser.specs.declared.seen.Seen.{Seen}
use Rattle.ngql_parser.specs.declared.token.Token.{Token}
use Rattle.ngql_parser.specs.Kinds.{code}
use Rattle.ngql_parser.specs.Numbers.{number_of}
use Rattle.ngql_parser.specs.Texts.{unescaped, inner}
use Rattle.ngql_parser.specs.Words.{kind_in, keywords, words, marks}

-- its places fit, counted from 1
abbrev pub IsPlaced : Lexed → Type 0
IsPlaced t = (t.from + 1 < 2 ^ 32) × (t.upto + 1 < 2 ^ 32)

abbrev pub ArePlaced : List Lexed → Type 0
ArePlaced [] = Unit {0}
ArePlaced (t ∷ rest) = IsPlaced t × ArePlaced rest

-- the bytes of a token
abbrev pub word_of : List ℕ → Lexed → List ℕ
word_of line t = take (t.upto - t.from) (drop t.from line)

-- the number that it spells, where it is a whole number that fits, or 0
abbrev pub value_by : TokenKind → List ℕ → ℤ
value_by lexed.Int word = unwrap_or (number_of word) (pos 0)
value_by _ word = pos 0

abbrev pub value_of : List ℕ → Lexed → ℤ
value_of line t = value_by t.kind (word_of line t)

-- the name or the text that it spells: a word in backquotes is the name between them
abbrev pub name_in : List ℕ → List ℕ
name_in word = if get_or word 0 0 == 96 then inner word else word

abbrev pub text_by : TokenKind → List ℕ → List ℕ
text_by lexed.Name word = name_in word
text_by lexed.Words word = unescaped false (inner word)
text_by _ word = []

-- whether a number is from one up to another
abbrev pub is_from_to : ℕ → ℕ → ℤ → Bool
is_from_to low high (pos n) = nat_le low n && nat_le n high
is_from_to low high (negsuc n) = false

-- a number that fits: 0 to 8, or another
abbrev pub int_kind : Option ℤ → Kind
int_kind None = kind.WideInt
int_kind (Some n) = if is_from_to 0 8 n then kind.SmallInt else kind.Int

-- a word or a mark by a table
abbrev pub table_kind : Option Kind → Kind → Kind
table_kind (Some found) other = found
table_kind None other = other

-- the kind of a token by itself
abbrev pub kind_by : TokenKind → List ℕ → Kind
kind_by lexed.Keyword word = table_kind (kind_in keywords word) kind.Stray
kind_by lexed.Name word = table_kind (kind_in words word) kind.Name
kind_by lexed.Int word = int_kind (number_of word)
kind_by lexed.Words word = kind.Text
kind_by lexed.Mark word = table_kind (kind_in marks word) kind.Stray

abbrev pub own_kind : List ℕ → Lexed → Kind
own_kind line t = kind_by t.kind (word_of line t)

-- the kind and the number of the next token
abbrev pub next_kind : List ℕ → List Lexed → Kind
next_kind line [] = kind.Ellipsis
next_kind line (t ∷ rest) = own_kind line t

abbrev pub next_value : List ℕ → List Lexed → ℤ
next_value line [] = pos 0
next_value line (t ∷ rest) = value_of line t

abbrev pub is_kind : Kind → Kind → Bool
is_kind a b = code a == code b

abbrev pub is_int : Kind → Bool
is_int k = is_among (code k) (code kind.SmallInt ∷ code kind.Int ∷ code kind.WideInt ∷ [])

-- What a word that may be called is: it is a function before `(` alone, and else a name. Of `properties` what stands in the
-- brackets tells whose.
abbrev pub called : Kind → Kind → Kind
called kind.PropsCall kind.Edge = kind.EdgePropsCall
called kind.PropsCall kind.Vertex = kind.VertexPropsCall
called word inside = word

abbrev pub is_callable : Kind → Bool
is_callable k = is_among (code k) (code kind.SrcCall ∷ code kind.DstCall ∷ code kind.RankCall ∷ code kind.TypeCall ∷ code kind.IdCall ∷ code kind.PropsCall ∷ [])

abbrev pub call_kind : List ℕ → Kind → List Lexed → Kind
call_kind line word rest = if is_kind (next_kind line rest) kind.Open then called word (next_kind line (drop 1 rest)) else kind.Name

-- `~` stands before INSERT, DELETE, FETCH and GO alone
abbrev pub tilde_kind : Kind → Kind
tilde_kind next = if is_among (code next) (code kind.Insert ∷ code kind.Delete ∷ code kind.Fetch ∷ code kind.Go ∷ []) then kind.Tilde else kind.Stray

-- Options of CREATE SPACE. Which of them stood before; nothing counts before SPACE.
abbrev pub none_seen : Seen
none_seen = record { space = false; parts = false; factor = false; ids = false }

-- whether a word is that of an option: a `=` stands behind it
abbrev pub is_set : List ℕ → List Lexed → Bool
is_set line rest = is_kind (next_kind line rest) kind.Equals

abbrev pub behind_kind : Kind → Bool → Seen → Seen
behind_kind kind.Space set seen = record seen { space = true }
behind_kind kind.PartsWord true seen = record seen { parts = true }
behind_kind kind.FactorWord true seen = record seen { factor = true }
behind_kind kind.IdsWord true seen = record seen { ids = true }
behind_kind _ set seen = seen

-- whether a value of an option is a number outside those allowed
abbrev pub is_outside : List ℕ → (ℤ → Bool) → List Lexed → Bool
is_outside line allowed rest = is_int (next_kind line rest) && not (allowed (next_value line rest))

abbrev pub is_factor : ℤ → Bool
is_factor n = is_from_to 1 1 n || (is_from_to 3 3 n || is_from_to 5 5 n)

-- texts as ids: refused in a file of version 1, and where their length is a number outside 1 to 32
abbrev pub are_bad_texts : ℕ → List ℕ → List Lexed → Bool
are_bad_texts version line rest =
    is_kind (next_kind line rest) kind.FixedWord
    && ((version == 1) || (is_kind (next_kind line (drop 1 rest)) kind.Open && is_outside line (is_from_to 1 32) (drop 2 rest)))

-- An option is refused where it stood before, and where its value is a number that isn't allowed.
abbrev pub option_kind : ℕ → List ℕ → Seen → Kind → List Lexed → Kind
option_kind version line seen kind.PartsWord rest =
    if seen.space && (seen.parts || (is_set line rest && is_outside line (is_from_to 1 64) (drop 1 rest))) then kind.BadParts else kind.PartsWord
option_kind version line seen kind.FactorWord rest =
    if seen.space && (seen.factor || (is_set line rest && is_outside line is_factor (drop 1 rest))) then kind.BadFactor else kind.FactorWord
option_kind version line seen kind.IdsWord rest =
    if seen.space && (seen.ids || (is_set line rest && are_bad_texts version line (drop 1 rest))) then kind.BadIds else kind.IdsWord
option_kind version line seen k rest = k

-- the kind of a token, by what stands before and behind it
abbrev pub placed_kind : ℕ → List ℕ → Seen → Kind → List Lexed → Kind
placed_kind version line seen k rest =
    if is_callable k then call_kind line k rest
    else if is_kind k kind.Tilde then tilde_kind (next_kind line rest)
    else option_kind version line seen k rest

-- a text of more than 256 bytes is too long
abbrev pub sized_kind : Kind → List ℕ → Kind
sized_kind k text = if is_kind k kind.Text && not (nat_le (length text) 256) then kind.LongText else k

abbrev pub token_of : List ℕ → Kind → Lexed → Token
token_of line k t = record {
  kind = sized_kind k (text_by t.kind (word_of line t));
  number = value_of line t;
  text = text_by t.kind (word_of line t);
  at = t.from + 1;
}

-- the tokens of a statement
abbrev pub tokens_from : ℕ → List ℕ → Seen → List Lexed → List Token
tokens_from version line seen [] = []
tokens_from version line seen (t ∷ rest) =
    token_of line (placed_kind version line seen (own_kind line t) rest) t
    ∷ tokens_from version line (behind_kind (own_kind line t) (is_set line rest) seen) rest

-- The number of a client: 1 to 64, with no zero in front.
abbrev pub client_kind : List ℕ → Lexed → Kind
client_kind line t =
    if is_int (own_kind line t) && (is_from_to 1 64 (value_of line t) && not (get_or (word_of line t) 0 0 == 48)) then kind.Client
    else own_kind line t

-- the space behind it
abbrev pub is_space_at : List ℕ → ℕ → Bool
is_space_at line at = get_or line at 0 == 32

abbrev pub blank_behind : List ℕ → Lexed → List Token
blank_behind line t =
    if is_space_at line t.upto then record { kind = kind.Blank; number = pos 0; text = []; at = t.upto + 1 } ∷ [] else []

-- behind an `@` at the head of the line
abbrev pub client_from : ℕ → List ℕ → List Lexed → List Token
client_from version line [] = []
client_from version line (t ∷ rest) =
    token_of line (client_kind line t) t ∷ (blank_behind line t ++ tokens_from version line none_seen rest)

abbrev pub line_from : ℕ → List ℕ → List Lexed → List Token
line_from version line [] = []
line_from version line (t ∷ rest) =
    if is_kind (own_kind line t) kind.At then token_of line kind.At t ∷ client_from version line rest
    else tokens_from version line none_seen (t ∷ rest)
