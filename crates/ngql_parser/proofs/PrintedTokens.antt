-- Tokens in their plain form, one by one: what they are lexed as, and that what stands around most of them says nothing.
use Rattle.std.proofs.Common.{◌≡◌, ℕ, ℤ, pos, negsuc, zero, suc, ◌+◌, ◌-◌, ◌<◌, ◌≤◌, ◌==◌, ◌||◌, Bool, true, false, not, ◌&&◌, List, [], ◌∷◌, ◌++◌, length, take, drop, Some, None, refl, sym, ap, ap₂, ◌∙◌, arith, append_assoc, length-append, if◌then◌else◌}
use Rattle.std.proofs.Math.Seq.{take-append_seam, drop-append_seam}
use Rattle.std.proofs.lemmas.Bool.{cond-true, cond-false, eqb-true, le-leb, lt-leb, ne_eqb, true≢false}
use Rattle.std.proofs.lemmas.Fmt.{digits_decimal, digits_value-decimal, decimal_is_IsNumeral}
use Rattle.std.proofs.lemmas.List.Sums.{take_while-cons}
use Rattle.std.proofs.lemmas.Str.Parse.{IsDigitsTest, IsNumeralModel, FoldsDigits, numerals_by_fold}
use Rattle.std.specs.Prelude.{◌^◌, take_while, nat_le, decimal, unwrap_or}
use Rattle.std.specs.Int.{IsInRange}
use Rattle.ngql_lex.specs.Bytes.{is_word_start, is_word_byte, is_digit}
use Rattle.ngql_lex.specs.Front.{front, begins, word_front, quoted_front, dash_front, text_front, mark_front}
use Rattle.ngql_lex.specs.Texts.{ending, later}
use Rattle.ngql_lex.specs.declared.front.Front.TheVariants.{Found, Bad}
use Rattle.ngql_lex.specs.declared.text.Ending.TheVariants.{Closed, Unread}
use Rattle.ngql_lex.specs.declared.token.Token.{Token as Lexed}
use Rattle.ngql_lex.specs.declared.token.TokenKind.{TokenKind}
use Rattle.ngql_lex.specs.declared.token.TokenKind.TheVariants as lexed
use Rattle.graph_model.specs.declared.val.Val.TheVariants as val
use Rattle.ngql_syntax.specs.declared.spanned.Spanned.{Spanned}
use Rattle.ngql_parser.specs.declared.kind.Kind.{Kind}
use Rattle.ngql_parser.specs.declared.kind.Kind.TheVariants as kind
use Rattle.ngql_parser.specs.declared.seen.Seen.{Seen}
use Rattle.ngql_parser.specs.declared.token.Token.{Token}
use Rattle.ngql_parser.specs.Numbers.{magnitude, number_of, up_to, negative_of, positive_of}
use Rattle.ngql_parser.specs.Plain.{alone, mark_at, plain_name, plain_value, number_at}
use Rattle.ngql_parser.specs.PlainBytes.{written, escaped, printed_by, AreWordBytes, IsWord, Fits64, CanPrintAs}
use Rattle.ngql_parser.specs.Texts.{unescaped, inner, escape_value}
use Rattle.ngql_parser.specs.Tokens.{kind_by, value_by, text_by, int_kind, sized_kind, placed_kind, behind_kind}
use Rattle.ngql_parser.proofs.Printed.{int_case}

-- a printed token is lexed as itself before a blank
pub record Lexes (t : Token) : Type 0 where
  pub as_kind : TokenKind
  pub begins : (good : ℕ) (rest : List ℕ) → length (printed_by t.kind t) ≤ good → front good (printed_by t.kind t ++ 32 ∷ rest) ≡ Found as_kind (length (printed_by t.kind t))
  pub own : kind_by as_kind (printed_by t.kind t) ≡ alone t.kind
  pub value : value_by as_kind (printed_by t.kind t) ≡ t.number
  pub spelled : text_by as_kind (printed_by t.kind t) ≡ t.text
  pub sized : sized_kind t.kind t.text ≡ t.kind

-- a kind on which nothing around it has a say, and which has none on what comes
pub record Still (k : Kind) : Type 0 where
  pub by_itself : alone k ≡ k
  pub placed : (version : ℕ) (line : List ℕ) (seen : Seen) (rest : List Lexed) → placed_kind version line seen k rest ≡ k
  pub behind : (is_set : Bool) (seen : Seen) → behind_kind k is_set seen ≡ seen

-- the words and the marks of plain forms, and those of them on which nothing around has a say
abbrev pub is_still : Kind → Bool
is_still kind.Create = true
is_still kind.Use = true
is_still kind.Tag = true
is_still kind.Edge = true
is_still kind.If = true
is_still kind.Not = true
is_still kind.Exists = true
is_still kind.Insert = true
is_still kind.Vertex = true
is_still kind.Values = true
is_still kind.Delete = true
is_still kind.Fetch = true
is_still kind.Prop = true
is_still kind.On = true
is_still kind.Go = true
is_still kind.Steps = true
is_still kind.From = true
is_still kind.Over = true
is_still kind.Reversely = true
is_still kind.Bidirect = true
is_still kind.Where = true
is_still kind.Yield = true
is_still kind.And = true
is_still kind.Or = true
is_still kind.Null = true
is_still kind.Default = true
is_still kind.True = true
is_still kind.False = true
is_still kind.Int64Word = true
is_still kind.BoolWord = true
is_still kind.StringWord = true
is_still kind.FixedWord = true
is_still kind.Arrow = true
is_still kind.At = true
is_still kind.Comma = true
is_still kind.Colon = true
is_still kind.Open = true
is_still kind.Close = true
is_still kind.Dot = true
is_still kind.Star = true
is_still kind.Equals = true
is_still kind.Eq = true
is_still kind.Ne = true
is_still kind.Lt = true
is_still kind.Le = true
is_still kind.Gt = true
is_still kind.Ge = true
is_still _ = false

abbrev pub is_spoken : Kind → Bool
is_spoken kind.Space = true
is_spoken kind.PartsWord = true
is_spoken kind.FactorWord = true
is_spoken kind.IdsWord = true
is_spoken kind.SrcCall = true
is_spoken kind.DstCall = true
is_spoken kind.RankCall = true
is_spoken kind.TypeCall = true
is_spoken kind.IdCall = true
is_spoken kind.EdgePropsCall = true
is_spoken kind.VertexPropsCall = true
is_spoken k = is_still k

-- words and marks
pub spoken : (k : Kind) (at : ℕ) → is_spoken k ≡ true → Lexes (mark_at k at)
spoken kind.Create at h = record { as_kind = lexed.Keyword; begins = λ good rest le. refl; own = refl; value = refl; spelled = refl; sized = refl }
spoken kind.Space at h = record { as_kind = lexed.Keyword; begins = λ good rest le. refl; own = refl; value = refl; spelled = refl; sized = refl }
spoken kind.Use at h = record { as_kind = lexed.Keyword; begins = λ good rest le. refl; own = refl; value = refl; spelled = refl; sized = refl }
spoken kind.Tag at h = record { as_kind = lexed.Keyword; begins = λ good rest le. refl; own = refl; value = refl; spelled = refl; sized = refl }
spoken kind.Edge at h = record { as_kind = lexed.Keyword; begins = λ good rest le. refl; own = refl; value = refl; spelled = refl; sized = refl }
spoken kind.If at h = record { as_kind = lexed.Keyword; begins = λ good rest le. refl; own = refl; value = refl; spelled = refl; sized = refl }
spoken kind.Not at h = record { as_kind = lexed.Keyword; begins = λ good rest le. refl; own = refl; value = refl; spelled = refl; sized = refl }
spoken kind.Exists at h = record { as_kind = lexed.Keyword; begins = λ good rest le. refl; own = refl; value = refl; spelled = refl; sized = refl }
spoken kind.Insert at h = record { as_kind = lexed.Keyword; begins = λ good rest le. refl; own = refl; value = refl; spelled = refl; sized = refl }
spoken kind.Vertex at h = record { as_kind = lexed.Keyword; begins = λ good rest le. refl; own = refl; value = refl; spelled = refl; sized = refl }
spoken kind.Values at h = record { as_kind = lexed.Keyword; begins = λ good rest le. refl; own = refl; value = refl; spelled = refl; sized = refl }
spoken kind.Delete at h = record { as_kind = lexed.Keyword; begins = λ good rest le. refl; own = refl; value = refl; spelled = refl; sized = refl }
spoken kind.Fetch at h = record { as_kind = lexed.Keyword; begins = λ good rest le. refl; own = refl; value = refl; spelled = refl; sized = refl }
spoken kind.Prop at h = record { as_kind = lexed.Keyword; begins = λ good rest le. refl; own = refl; value = refl; spelled = refl; sized = refl }
spoken kind.On at h = record { as_kind = lexed.Keyword; begins = λ good rest le. refl; own = refl; value = refl; spelled = refl; sized = refl }
spoken kind.Go at h = record { as_kind = lexed.Keyword; begins = λ good rest le. refl; own = refl; value = refl; spelled = refl; sized = refl }
spoken kind.Steps at h = record { as_kind = lexed.Keyword; begins = λ good rest le. refl; own = refl; value = refl; spelled = refl; sized = refl }
spoken kind.From at h = record { as_kind = lexed.Keyword; begins = λ good rest le. refl; own = refl; value = refl; spelled = refl; sized = refl }
spoken kind.Over at h = record { as_kind = lexed.Keyword; begins = λ good rest le. refl; own = refl; value = refl; spelled = refl; sized = refl }
spoken kind.Reversely at h = record { as_kind = lexed.Keyword; begins = λ good rest le. refl; own = refl; value = refl; spelled = refl; sized = refl }
spoken kind.Bidirect at h = record { as_kind = lexed.Keyword; begins = λ good rest le. refl; own = refl; value = refl; spelled = refl; sized = refl }
spoken kind.Where at h = record { as_kind = lexed.Keyword; begins = λ good rest le. refl; own = refl; value = refl; spelled = refl; sized = refl }
spoken kind.Yield at h = record { as_kind = lexed.Keyword; begins = λ good rest le. refl; own = refl; value = refl; spelled = refl; sized = refl }
spoken kind.And at h = record { as_kind = lexed.Keyword; begins = λ good rest le. refl; own = refl; value = refl; spelled = refl; sized = refl }
spoken kind.Or at h = record { as_kind = lexed.Keyword; begins = λ good rest le. refl; own = refl; value = refl; spelled = refl; sized = refl }
spoken kind.Null at h = record { as_kind = lexed.Keyword; begins = λ good rest le. refl; own = refl; value = refl; spelled = refl; sized = refl }
spoken kind.Default at h = record { as_kind = lexed.Keyword; begins = λ good rest le. refl; own = refl; value = refl; spelled = refl; sized = refl }
spoken kind.True at h = record { as_kind = lexed.Keyword; begins = λ good rest le. refl; own = refl; value = refl; spelled = refl; sized = refl }
spoken kind.False at h = record { as_kind = lexed.Keyword; begins = λ good rest le. refl; own = refl; value = refl; spelled = refl; sized = refl }
spoken kind.Int64Word at h = record { as_kind = lexed.Name; begins = λ good rest le. refl; own = refl; value = refl; spelled = refl; sized = refl }
spoken kind.BoolWord at h = record { as_kind = lexed.Name; begins = λ good rest le. refl; own = refl; value = refl; spelled = refl; sized = refl }
spoken kind.StringWord at h = record { as_kind = lexed.Name; begins = λ good rest le. refl; own = refl; value = refl; spelled = refl; sized = refl }
spoken kind.FixedWord at h = record { as_kind = lexed.Name; begins = λ good rest le. refl; own = refl; value = refl; spelled = refl; sized = refl }
spoken kind.PartsWord at h = record { as_kind = lexed.Name; begins = λ good rest le. refl; own = refl; value = refl; spelled = refl; sized = refl }
spoken kind.FactorWord at h = record { as_kind = lexed.Name; begins = λ good rest le. refl; own = refl; value = refl; spelled = refl; sized = refl }
spoken kind.IdsWord at h = record { as_kind = lexed.Name; begins = λ good rest le. refl; own = refl; value = refl; spelled = refl; sized = refl }
spoken kind.SrcCall at h = record { as_kind = lexed.Name; begins = λ good rest le. refl; own = refl; value = refl; spelled = refl; sized = refl }
spoken kind.DstCall at h = record { as_kind = lexed.Name; begins = λ good rest le. refl; own = refl; value = refl; spelled = refl; sized = refl }
spoken kind.RankCall at h = record { as_kind = lexed.Name; begins = λ good rest le. refl; own = refl; value = refl; spelled = refl; sized = refl }
spoken kind.TypeCall at h = record { as_kind = lexed.Name; begins = λ good rest le. refl; own = refl; value = refl; spelled = refl; sized = refl }
spoken kind.IdCall at h = record { as_kind = lexed.Name; begins = λ good rest le. refl; own = refl; value = refl; spelled = refl; sized = refl }
spoken kind.EdgePropsCall at h = record { as_kind = lexed.Name; begins = λ good rest le. refl; own = refl; value = refl; spelled = refl; sized = refl }
spoken kind.VertexPropsCall at h = record { as_kind = lexed.Name; begins = λ good rest le. refl; own = refl; value = refl; spelled = refl; sized = refl }
spoken kind.Arrow at h = record { as_kind = lexed.Mark; begins = λ good rest le. refl; own = refl; value = refl; spelled = refl; sized = refl }
spoken kind.At at h = record { as_kind = lexed.Mark; begins = λ good rest le. refl; own = refl; value = refl; spelled = refl; sized = refl }
spoken kind.Comma at h = record { as_kind = lexed.Mark; begins = λ good rest le. refl; own = refl; value = refl; spelled = refl; sized = refl }
spoken kind.Colon at h = record { as_kind = lexed.Mark; begins = λ good rest le. refl; own = refl; value = refl; spelled = refl; sized = refl }
spoken kind.Open at h = record { as_kind = lexed.Mark; begins = λ good rest le. refl; own = refl; value = refl; spelled = refl; sized = refl }
spoken kind.Close at h = record { as_kind = lexed.Mark; begins = λ good rest le. refl; own = refl; value = refl; spelled = refl; sized = refl }
spoken kind.Dot at h = record { as_kind = lexed.Mark; begins = λ good rest le. refl; own = refl; value = refl; spelled = refl; sized = refl }
spoken kind.Star at h = record { as_kind = lexed.Mark; begins = λ good rest le. refl; own = refl; value = refl; spelled = refl; sized = refl }
spoken kind.Equals at h = record { as_kind = lexed.Mark; begins = λ good rest le. refl; own = refl; value = refl; spelled = refl; sized = refl }
spoken kind.Eq at h = record { as_kind = lexed.Mark; begins = λ good rest le. refl; own = refl; value = refl; spelled = refl; sized = refl }
spoken kind.Ne at h = record { as_kind = lexed.Mark; begins = λ good rest le. refl; own = refl; value = refl; spelled = refl; sized = refl }
spoken kind.Lt at h = record { as_kind = lexed.Mark; begins = λ good rest le. refl; own = refl; value = refl; spelled = refl; sized = refl }
spoken kind.Le at h = record { as_kind = lexed.Mark; begins = λ good rest le. refl; own = refl; value = refl; spelled = refl; sized = refl }
spoken kind.Gt at h = record { as_kind = lexed.Mark; begins = λ good rest le. refl; own = refl; value = refl; spelled = refl; sized = refl }
spoken kind.Ge at h = record { as_kind = lexed.Mark; begins = λ good rest le. refl; own = refl; value = refl; spelled = refl; sized = refl }
spoken _ at h = absurd (true≢false (sym h))

pub still : (k : Kind) → is_still k ≡ true → Still k
still kind.Create h = record { by_itself = refl; placed = λ version line seen rest. refl; behind = λ is_set seen. refl }
still kind.Use h = record { by_itself = refl; placed = λ version line seen rest. refl; behind = λ is_set seen. refl }
still kind.Tag h = record { by_itself = refl; placed = λ version line seen rest. refl; behind = λ is_set seen. refl }
still kind.Edge h = record { by_itself = refl; placed = λ version line seen rest. refl; behind = λ is_set seen. refl }
still kind.If h = record { by_itself = refl; placed = λ version line seen rest. refl; behind = λ is_set seen. refl }
still kind.Not h = record { by_itself = refl; placed = λ version line seen rest. refl; behind = λ is_set seen. refl }
still kind.Exists h = record { by_itself = refl; placed = λ version line seen rest. refl; behind = λ is_set seen. refl }
still kind.Insert h = record { by_itself = refl; placed = λ version line seen rest. refl; behind = λ is_set seen. refl }
still kind.Vertex h = record { by_itself = refl; placed = λ version line seen rest. refl; behind = λ is_set seen. refl }
still kind.Values h = record { by_itself = refl; placed = λ version line seen rest. refl; behind = λ is_set seen. refl }
still kind.Delete h = record { by_itself = refl; placed = λ version line seen rest. refl; behind = λ is_set seen. refl }
still kind.Fetch h = record { by_itself = refl; placed = λ version line seen rest. refl; behind = λ is_set seen. refl }
still kind.Prop h = record { by_itself = refl; placed = λ version line seen rest. refl; behind = λ is_set seen. refl }
still kind.On h = record { by_itself = refl; placed = λ version line seen rest. refl; behind = λ is_set seen. refl }
still kind.Go h = record { by_itself = refl; placed = λ version line seen rest. refl; behind = λ is_set seen. refl }
still kind.Steps h = record { by_itself = refl; placed = λ version line seen rest. refl; behind = λ is_set seen. refl }
still kind.From h = record { by_itself = refl; placed = λ version line seen rest. refl; behind = λ is_set seen. refl }
still kind.Over h = record { by_itself = refl; placed = λ version line seen rest. refl; behind = λ is_set seen. refl }
still kind.Reversely h = record { by_itself = refl; placed = λ version line seen rest. refl; behind = λ is_set seen. refl }
still kind.Bidirect h = record { by_itself = refl; placed = λ version line seen rest. refl; behind = λ is_set seen. refl }
still kind.Where h = record { by_itself = refl; placed = λ version line seen rest. refl; behind = λ is_set seen. refl }
still kind.Yield h = record { by_itself = refl; placed = λ version line seen rest. refl; behind = λ is_set seen. refl }
still kind.And h = record { by_itself = refl; placed = λ version line seen rest. refl; behind = λ is_set seen. refl }
still kind.Or h = record { by_itself = refl; placed = λ version line seen rest. refl; behind = λ is_set seen. refl }
still kind.Null h = record { by_itself = refl; placed = λ version line seen rest. refl; behind = λ is_set seen. refl }
still kind.Default h = record { by_itself = refl; placed = λ version line seen rest. refl; behind = λ is_set seen. refl }
still kind.True h = record { by_itself = refl; placed = λ version line seen rest. refl; behind = λ is_set seen. refl }
still kind.False h = record { by_itself = refl; placed = λ version line seen rest. refl; behind = λ is_set seen. refl }
still kind.Int64Word h = record { by_itself = refl; placed = λ version line seen rest. refl; behind = λ is_set seen. refl }
still kind.BoolWord h = record { by_itself = refl; placed = λ version line seen rest. refl; behind = λ is_set seen. refl }
still kind.StringWord h = record { by_itself = refl; placed = λ version line seen rest. refl; behind = λ is_set seen. refl }
still kind.FixedWord h = record { by_itself = refl; placed = λ version line seen rest. refl; behind = λ is_set seen. refl }
still kind.Arrow h = record { by_itself = refl; placed = λ version line seen rest. refl; behind = λ is_set seen. refl }
still kind.At h = record { by_itself = refl; placed = λ version line seen rest. refl; behind = λ is_set seen. refl }
still kind.Comma h = record { by_itself = refl; placed = λ version line seen rest. refl; behind = λ is_set seen. refl }
still kind.Colon h = record { by_itself = refl; placed = λ version line seen rest. refl; behind = λ is_set seen. refl }
still kind.Open h = record { by_itself = refl; placed = λ version line seen rest. refl; behind = λ is_set seen. refl }
still kind.Close h = record { by_itself = refl; placed = λ version line seen rest. refl; behind = λ is_set seen. refl }
still kind.Dot h = record { by_itself = refl; placed = λ version line seen rest. refl; behind = λ is_set seen. refl }
still kind.Star h = record { by_itself = refl; placed = λ version line seen rest. refl; behind = λ is_set seen. refl }
still kind.Equals h = record { by_itself = refl; placed = λ version line seen rest. refl; behind = λ is_set seen. refl }
still kind.Eq h = record { by_itself = refl; placed = λ version line seen rest. refl; behind = λ is_set seen. refl }
still kind.Ne h = record { by_itself = refl; placed = λ version line seen rest. refl; behind = λ is_set seen. refl }
still kind.Lt h = record { by_itself = refl; placed = λ version line seen rest. refl; behind = λ is_set seen. refl }
still kind.Le h = record { by_itself = refl; placed = λ version line seen rest. refl; behind = λ is_set seen. refl }
still kind.Gt h = record { by_itself = refl; placed = λ version line seen rest. refl; behind = λ is_set seen. refl }
still kind.Ge h = record { by_itself = refl; placed = λ version line seen rest. refl; behind = λ is_set seen. refl }
still _ h = absurd (true≢false (sym h))

pub still_name : Still kind.Name
still_name = record { by_itself = refl; placed = λ version line seen rest. refl; behind = λ is_set seen. refl }

pub still_text : Still kind.Text
still_text = record { by_itself = refl; placed = λ version line seen rest. refl; behind = λ is_set seen. refl }

pub still_small : Still kind.SmallInt
still_small = record { by_itself = refl; placed = λ version line seen rest. refl; behind = λ is_set seen. refl }

pub still_number : (n : ℤ) → Still (int_kind (Some n))
still_number n = int_case Still n still_small (record { by_itself = refl; placed = λ version line seen rest. refl; behind = λ is_set seen. refl })

-- names
while_word : (bytes rest : List ℕ) (stop : ℕ) → AreWordBytes bytes → is_word_byte stop ≡ false → take_while is_word_byte (bytes ++ stop ∷ rest) ≡ bytes
while_word [] rest stop h e = take_while-cons is_word_byte stop rest ∙ cond-false (is_word_byte stop) (stop ∷ take_while is_word_byte rest) [] e
while_word (b ∷ bytes) rest stop h e =
    take_while-cons is_word_byte b (bytes ++ stop ∷ rest)
    ∙ (cond-true (is_word_byte b) (b ∷ take_while is_word_byte (bytes ++ stop ∷ rest)) [] h.0 ∙ ap (λ w. b ∷ w) (while_word bytes rest stop h.1 e))

starts_go_on : (b : ℕ) → is_word_start b ≡ true → is_word_byte b ≡ true
starts_go_on b h = ap (λ x. x || is_digit b) h

quoted : (w bytes rest : List ℕ) → take_while is_word_byte bytes ≡ w → begins is_word_start bytes ≡ true → drop (length w) bytes ≡ 96 ∷ rest → quoted_front bytes ≡ Found lexed.Name (length w + 2)
quoted w bytes rest e start behind =
    ap (λ t. if begins is_word_start bytes && begins (λ b. b == 96) (drop (length t) bytes) then Found lexed.Name (length t + 2) else Bad 0) e
    ∙ ap₂ (λ x l. if x && begins (λ b. b == 96) l then Found lexed.Name (length w + 2) else Bad 0) start behind

between_len : (q : ℕ) (bytes : List ℕ) (k : TokenKind) → Found k (length bytes + 2) ≡ Found k (length (q ∷ (bytes ++ q ∷ [])))
between_len q bytes k = ap (λ n. Found k n) (let e = length-append bytes (q ∷ []) in omega arith)

name_begins : (text rest : List ℕ) (good : ℕ) → IsWord text → front good (96 ∷ (text ++ 96 ∷ []) ++ 32 ∷ rest) ≡ Found lexed.Name (length (96 ∷ (text ++ 96 ∷ [])))
name_begins [] rest good h = absurd h
name_begins (b ∷ bytes) rest good h =
    let all : AreWordBytes (b ∷ bytes) = (starts_go_on b h.0, h.1) in
    let same : (b ∷ bytes ++ 96 ∷ []) ++ 32 ∷ rest ≡ b ∷ bytes ++ 96 ∷ 32 ∷ rest = append_assoc (b ∷ bytes) (96 ∷ []) (32 ∷ rest) in
    let word : take_while is_word_byte ((b ∷ bytes ++ 96 ∷ []) ++ 32 ∷ rest) ≡ b ∷ bytes = ap (λ l. take_while is_word_byte l) same ∙ while_word (b ∷ bytes) (32 ∷ rest) 96 all refl in
    let behind : drop (length (b ∷ bytes)) ((b ∷ bytes ++ 96 ∷ []) ++ 32 ∷ rest) ≡ 96 ∷ 32 ∷ rest = ap (λ l. drop (length (b ∷ bytes)) l) same ∙ drop-append_seam (b ∷ bytes) (96 ∷ 32 ∷ rest) in
    quoted (b ∷ bytes) ((b ∷ bytes ++ 96 ∷ []) ++ 32 ∷ rest) (32 ∷ rest) word h.0 behind ∙ between_len 96 (b ∷ bytes) lexed.Name

inner_is : (q : ℕ) (bytes : List ℕ) → inner (q ∷ (bytes ++ q ∷ [])) ≡ bytes
inner_is q bytes =
    let n : length (q ∷ (bytes ++ q ∷ [])) - 2 ≡ length bytes = let e = length-append bytes (q ∷ []) in omega arith in
    ap (λ k. take k (bytes ++ q ∷ [])) n ∙ take-append_seam bytes (q ∷ [])

pub name_lexes : (w : Spanned) → IsWord w.text → Lexes (plain_name w)
name_lexes w h = record {
  as_kind = lexed.Name;
  begins = λ good rest le. name_begins w.text rest good h;
  own = refl;
  value = refl;
  spelled = inner_is 96 w.text;
  sized = refl;
}

-- texts
abbrev escaped_by : Bool → Bool → ℕ → List ℕ → List ℕ
escaped_by c d b behind = if c then 92 ∷ b ∷ behind else if d then 92 ∷ 110 ∷ behind else b ∷ behind

or_more : (x y z w : Bool) → (x || y) ≡ true → (x || (z || (y || w))) ≡ true
or_more true y z w h = refl
or_more false true true w h = refl
or_more false true false w h = refl
or_more false false z w h = absurd (true≢false (sym h))

none_of : (x y : Bool) → (x || y) ≡ false → (x ≡ false) × (y ≡ false)
none_of true y h = absurd (true≢false h)
none_of false true h = absurd (true≢false h)
none_of false false h = (refl, refl)

ends_by : (b : ℕ) (E rest : List ℕ) (c d : Bool) → ((b == 34) || (b == 92)) ≡ c → ((good : ℕ) → length E + 1 ≤ good → ending 34 false good (E ++ 34 ∷ rest) ≡ Closed (length E + 1)) →
    (good : ℕ) → length (escaped_by c d b E) + 1 ≤ good → ending 34 false good (escaped_by c d b E ++ 34 ∷ rest) ≡ Closed (length (escaped_by c d b E) + 1)
ends_by b E rest true d e ends zero le = absurd (omega arith)
ends_by b E rest true d e ends (suc zero) le = absurd (omega arith)
ends_by b E rest true d e ends (suc (suc good)) le =
    ap (λ x. later 1 (if x then later 1 (ending 34 false good (E ++ 34 ∷ rest)) else Unread)) (or_more (b == 34) (b == 92) (b == 39) ((b == 110) || (b == 116)) e)
    ∙ (ap (λ x. later 1 (later 1 x)) (ends good (omega arith)) ∙ ap Closed (omega arith))
ends_by b E rest false true e ends zero le = absurd (omega arith)
ends_by b E rest false true e ends (suc zero) le = absurd (omega arith)
ends_by b E rest false true e ends (suc (suc good)) le = ap (λ x. later 1 (later 1 x)) (ends good (omega arith)) ∙ ap Closed (omega arith)
ends_by b E rest false false e ends zero le = absurd (omega arith)
ends_by b E rest false false e ends (suc good) le =
    let n = none_of (b == 34) (b == 92) e in
    ap₂ (λ x y. if x then Closed 1 else later 1 (ending 34 y good (E ++ 34 ∷ rest))) n.0 n.1 ∙ (ap (later 1) (ends good (omega arith)) ∙ ap Closed (omega arith))

text_ends : (text rest : List ℕ) (good : ℕ) → length (escaped text) + 1 ≤ good → ending 34 false good (escaped text ++ 34 ∷ rest) ≡ Closed (length (escaped text) + 1)
text_ends [] rest zero le = absurd (omega arith)
text_ends [] rest (suc good) le = refl
text_ends (b ∷ bytes) rest good le = ends_by b (escaped bytes) rest ((b == 34) || (b == 92)) (b == 10) refl (λ g h. text_ends bytes rest g h) good le

text_begins : (text rest : List ℕ) (good : ℕ) → length (34 ∷ (escaped text ++ 34 ∷ [])) ≤ good → front good (34 ∷ (escaped text ++ 34 ∷ []) ++ 32 ∷ rest) ≡ Found lexed.Words (length (34 ∷ (escaped text ++ 34 ∷ [])))
text_begins text rest good le =
    let room : length (escaped text) + 1 ≤ good - 1 = let e = length-append (escaped text) (34 ∷ []) in omega arith in
    ap (λ l. text_front (ending 34 false (good - 1) l)) (append_assoc (escaped text) (34 ∷ []) (32 ∷ rest))
    ∙ (ap text_front (text_ends text (32 ∷ rest) (good - 1) room) ∙ (ap (λ n. Found lexed.Words n) (omega arith) ∙ between_len 34 (escaped text) lexed.Words))

kept : (b : ℕ) (x y : Bool) → (b == 34) ≡ x → (b == 92) ≡ y → (x || y) ≡ true → escape_value b ≡ b
kept b true y p q h = let e : b ≡ 34 = eqb-true b 34 p in rw e refl
kept b false true p q h = let e : b ≡ 92 = eqb-true b 92 q in rw e refl
kept b false false p q h = absurd (true≢false (sym h))

back_by : (b : ℕ) (E bytes : List ℕ) (c d : Bool) → ((b == 34) || (b == 92)) ≡ c → (b == 10) ≡ d → unescaped false E ≡ bytes → unescaped false (escaped_by c d b E) ≡ b ∷ bytes
back_by b E bytes true d e f h = ap₂ (λ x l. x ∷ l) (kept b (b == 34) (b == 92) refl refl e) h
back_by b E bytes false true e f h = ap₂ (λ x l. x ∷ l) (sym (eqb-true b 10 f)) h
back_by b E bytes false false e f h = ap (λ x. if x then unescaped true E else b ∷ unescaped false E) (none_of (b == 34) (b == 92) e).1 ∙ ap (λ l. b ∷ l) h

text_back : (text : List ℕ) → unescaped false (escaped text) ≡ text
text_back [] = refl
text_back (b ∷ bytes) = back_by b (escaped bytes) bytes ((b == 34) || (b == 92)) (b == 10) refl refl (text_back bytes)

pub text_lexes : (text : List ℕ) (at : ℕ) → length text ≤ 256 → Lexes (plain_value (val.Words text) at)
text_lexes text at le = record {
  as_kind = lexed.Words;
  begins = λ good rest room. text_begins text rest good room;
  own = refl;
  value = refl;
  spelled = ap (unescaped false) (inner_is 34 (escaped text)) ∙ text_back text;
  sized = ap (λ b. if not b then kind.LongText else kind.Text) (le-leb (length text) 256 le);
}

-- numbers
abbrev AreDigits : List ℕ → Type 0
AreDigits [] = Unit {0}
AreDigits (c ∷ cs) = IsInRange 48 57 c × AreDigits cs

digits_test : IsDigitsTest AreDigits
digits_test = record { empty = tt; parts = λ c cs h. h; more = λ c cs p h. (p, h) }

digits_fold : FoldsDigits magnitude
digits_fold = record { empty = λ n. refl; more = λ n c cs h. refl }

model : IsNumeralModel AreDigits (magnitude 0)
model = numerals_by_fold AreDigits digits_test magnitude digits_fold

-- the digits of a number
record Digits (n : ℕ) (ds : List ℕ) : Type 0 where
  pub are : AreDigits ds
  pub some : 0 < length ds
  pub value : magnitude 0 ds ≡ n

digits : (n : ℕ) → n < 2 ^ 64 → Digits n (decimal n)
digits n h = record { are = digits_decimal model n h; some = (decimal_is_IsNumeral n h).0.0; value = digits_value-decimal model n h }

is_a_digit : (c : ℕ) → IsInRange 48 57 c → is_digit c ≡ true
is_a_digit c h = let low = h.0 in let high = h.1 in ap₂ (λ x y. x && y) (le-leb 48 c low) (le-leb c 57 high)

is_no_letter : (c : ℕ) → c ≤ 57 → is_word_start c ≡ false
is_no_letter c h =
    let a : nat_le 65 c ≡ false = lt-leb 65 c (omega arith) in
    let b : nat_le 97 c ≡ false = lt-leb 97 c (omega arith) in
    ap₂ (λ x y. x || y) (ap₂ (λ x y. (x && nat_le c 90) || (y && nat_le c 122)) a b) (ne_eqb c 95 (λ e. omega arith))

while_digits : (ds rest : List ℕ) → AreDigits ds → take_while is_digit (ds ++ 32 ∷ rest) ≡ ds
while_digits [] rest h = take_while-cons is_digit 32 rest
while_digits (c ∷ cs) rest h =
    take_while-cons is_digit c (cs ++ 32 ∷ rest)
    ∙ (cond-true (is_digit c) (c ∷ take_while is_digit (cs ++ 32 ∷ rest)) [] (is_a_digit c h.0) ∙ ap (λ l. c ∷ l) (while_digits cs rest h.1))

digits_begin : (ds rest : List ℕ) (good : ℕ) → AreDigits ds → 0 < length ds → front good (ds ++ 32 ∷ rest) ≡ Found lexed.Int (length ds)
digits_begin [] rest good h some = absurd (omega arith)
digits_begin (c ∷ cs) rest good h some =
    let bytes = c ∷ cs ++ 32 ∷ rest in
    ap₂ (λ x y. if x then word_front bytes else if y then Found lexed.Int (length (take_while is_digit bytes)) else if c == 45 then dash_front (cs ++ 32 ∷ rest) else if c == 96 then quoted_front (cs ++ 32 ∷ rest)
    else if (c == 34) || (c == 39) then text_front (ending c false (good - 1) (cs ++ 32 ∷ rest)) else mark_front c (cs ++ 32 ∷ rest)) (is_no_letter c h.0.1) (is_a_digit c h.0)
    ∙ ap (λ l. Found lexed.Int (length l)) (while_digits (c ∷ cs) rest h)

begins_digit : (ds rest : List ℕ) → AreDigits ds → 0 < length ds → begins is_digit (ds ++ 32 ∷ rest) ≡ true
begins_digit [] rest h some = absurd (omega arith)
begins_digit (c ∷ cs) rest h some = is_a_digit c h.0

negative_begins : (ds rest : List ℕ) (good : ℕ) → AreDigits ds → 0 < length ds → front good (45 ∷ ds ++ 32 ∷ rest) ≡ Found lexed.Int (length (45 ∷ ds))
negative_begins ds rest good h some =
    ap₂ (λ x l. if x then Found lexed.Int (length l + 1) else if begins (λ b. b == 62) (ds ++ 32 ∷ rest) then Found lexed.Mark 2 else Bad 0) (begins_digit ds rest h some) (while_digits ds rest h)
    ∙ ap (λ n. Found lexed.Int n) (omega arith)

number_begins : (n : ℤ) → Fits64 n → (good : ℕ) (rest : List ℕ) → front good (written n ++ 32 ∷ rest) ≡ Found lexed.Int (length (written n))
number_begins (pos n) h good rest = let d = digits n (omega arith) in digits_begin (decimal n) rest good d.are d.some
number_begins (negsuc n) h good rest = let d = digits (suc n) (omega arith) in negative_begins (decimal (suc n)) rest good d.are d.some

up_to_is : (most n : ℕ) → n ≤ most → up_to most n ≡ Some n
up_to_is most n le = cond-true (nat_le n most) (Some n) None (le-leb n most le)

positive_is : (ds : List ℕ) (n : ℕ) → AreDigits ds → 0 < length ds → magnitude 0 ds ≡ n → n < 2 ^ 63 → number_of ds ≡ Some (pos n)
positive_is [] n h some value le = absurd (omega arith)
positive_is (c ∷ cs) n h some value le =
    let low = h.0.0 in
    ap₂ (λ x m. if x then negative_of (up_to (2 ^ 63) (magnitude 0 cs)) else positive_of (up_to (2 ^ 63 - 1) m)) (ne_eqb c 45 (λ e. omega arith)) value
    ∙ ap positive_of (up_to_is (2 ^ 63 - 1) n (omega arith))

number_is : (n : ℤ) → Fits64 n → number_of (written n) ≡ Some n
number_is (pos n) h = let d = digits n (omega arith) in positive_is (decimal n) n d.are d.some d.value h
number_is (negsuc n) h =
    let d = digits (suc n) (omega arith) in
    ap (λ m. negative_of (up_to (2 ^ 63) m)) d.value ∙ ap negative_of (up_to_is (2 ^ 63) (suc n) (omega arith))

pub small_number_lexes : (n : ℤ) (at : ℕ) → Fits64 n → int_kind (Some n) ≡ kind.SmallInt → Lexes (record { kind = kind.SmallInt; number = n; text = []; at = at })
small_number_lexes n at h e = record {
  as_kind = lexed.Int;
  begins = λ good rest le. number_begins n h good rest;
  own = ap int_kind (number_is n h) ∙ e;
  value = ap (λ o. unwrap_or o (pos 0)) (number_is n h);
  spelled = refl;
  sized = refl;
}

other_number_lexes : (n : ℤ) (at : ℕ) → Fits64 n → int_kind (Some n) ≡ kind.Int → Lexes (record { kind = kind.Int; number = n; text = []; at = at })
other_number_lexes n at h e = record {
  as_kind = lexed.Int;
  begins = λ good rest le. number_begins n h good rest;
  own = ap int_kind (number_is n h) ∙ e;
  value = ap (λ o. unwrap_or o (pos 0)) (number_is n h);
  spelled = refl;
  sized = refl;
}

pub number_lexes : (n : ℤ) (at : ℕ) → Fits64 n → Lexes (number_at n at)
number_lexes n at h = int_case (λ k. (int_kind (Some n) ≡ k) → Lexes (record { kind = k; number = n; text = []; at = at })) n (small_number_lexes n at h) (other_number_lexes n at h) refl

pub fits : (n : ℤ) (at : ℕ) → CanPrintAs (int_kind (Some n)) (number_at n at) → Fits64 n
fits n at = int_case (λ k. CanPrintAs k (number_at n at) → Fits64 n) n (λ h. h) (λ h. h)
