-- The bytes of tokens in their plain form: keywords in capitals, names in backquotes, texts in double quotes, and a blank behind each.
use Rattle.std.specs.Prelude.{◌≡◌, ◌≤◌, ◌<◌, ◌^◌, ◌==◌, ◌||◌, ℕ, suc, ℤ, pos, negsuc, true, false, List, [], ◌∷◌, ◌++◌, length, decimal, IsUtf8, if◌then◌else◌}
use Rattle.ngql_lex.specs.Bytes.{is_word_start, is_word_byte}
use Rattle.part_keys.specs.declared.vid_kind.VidKind.{VidKind}
use Rattle.part_keys.specs.declared.vid_kind.VidKind.TheVariants as ids
use Rattle.ngql_syntax.specs.declared.statement.Line.{Line}
use Rattle.ngql_syntax.specs.declared.statement.Statement.{Statement}
use Rattle.ngql_parser.specs.declared.kind.Kind.{Kind}
use Rattle.ngql_parser.specs.declared.kind.Kind.TheVariants as kind
use Rattle.ngql_parser.specs.declared.token.Token.{Token}
use Rattle.ngql_parser.specs.Places.{bare_line}
use Rattle.ngql_parser.specs.Plain.{word_for, alone}
use Rattle.ngql_parser.specs.Promise.{Spells}
use Rattle.ngql_parser.specs.Words.{keywords, words, marks}

-- a whole number: its digits, behind a `-` where it is negative
abbrev pub written : ℤ → List ℕ
written (pos n) = decimal n
written (negsuc n) = 45 ∷ decimal (suc n)

-- a text, with a backslash before each quote and each backslash, and `\n` for a line feed
abbrev pub escaped : List ℕ → List ℕ
escaped [] = []
escaped (b ∷ bytes) =
    if (b == 34) || (b == 92) then 92 ∷ b ∷ escaped bytes
    else if b == 10 then 92 ∷ 110 ∷ escaped bytes
    else b ∷ escaped bytes

-- a token by its kind: a name, a number, a text, or the word or the mark of the tables
abbrev pub printed_by : Kind → Token → List ℕ
printed_by kind.Name t = 96 ∷ (t.text ++ 96 ∷ [])
printed_by kind.SmallInt t = written t.number
printed_by kind.Int t = written t.number
printed_by kind.Text t = 34 ∷ (escaped t.text ++ 34 ∷ [])
printed_by k t = word_for (keywords ++ (words ++ marks)) (alone k)

abbrev pub printed : List Token → List ℕ
printed [] = []
printed (t ∷ ts) = printed_by t.kind t ++ 32 ∷ printed ts

-- What can be printed: a name is a word, a number fits 64 bits, and a text has at most 256 bytes.
abbrev pub AreWordBytes : List ℕ → Type 0
AreWordBytes [] = Unit {0}
AreWordBytes (b ∷ bytes) = (is_word_byte b ≡ true) × AreWordBytes bytes

abbrev pub IsWord : List ℕ → Type 0
IsWord [] = ⊥
IsWord (b ∷ bytes) = (is_word_start b ≡ true) × AreWordBytes bytes

abbrev pub Fits64 : ℤ → Type 0
Fits64 (pos n) = n < 2 ^ 63
Fits64 (negsuc n) = n < 2 ^ 63

abbrev pub CanPrintAs : Kind → Token → Type 0
CanPrintAs kind.Name t = IsWord t.text
CanPrintAs kind.SmallInt t = Fits64 t.number
CanPrintAs kind.Int t = Fits64 t.number
CanPrintAs kind.Text t = length t.text ≤ 256
CanPrintAs k t = Unit {0}

abbrev pub CanPrint : List Token → Type 0
CanPrint [] = Unit {0}
CanPrint (t ∷ ts) = CanPrintAs t.kind t × CanPrint ts

-- texts as ids are in no file of version 1
abbrev pub AllowsIds : ℕ → VidKind → Type 0
AllowsIds version ids.Num = Unit {0}
AllowsIds version (ids.Name n) = (version == 1) ≡ false

-- a statement of the first client, not collected
abbrev pub whole_line : Statement → Line
whole_line s = record { client = 1; collected = false; statement = s }

-- where it can be printed, and the bytes are UTF-8, they spell the statement but for the places in it
abbrev pub IsReadBack : ℕ → List Token → Statement → Type 0
IsReadBack version ts s = CanPrint ts → IsUtf8 (printed ts) → (m : Line) × Spells version (printed ts) m × (bare_line m ≡ bare_line (whole_line s))
