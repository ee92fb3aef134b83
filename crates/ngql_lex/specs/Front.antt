-- The token at the front of some bytes: the longest one that begins there, or none.
use Rattle.std.specs.Prelude.{ℕ, ◌+◌, ◌-◌, ◌<◌, ◌≤◌, Bool, false, ◌||◌, ◌&&◌, ◌==◌, List, [], ◌∷◌, length, drop, take_while, if◌then◌else◌}
use Rattle.ngql_lex.specs.Bytes.{is_word_start, is_word_byte, is_digit}
use Rattle.ngql_lex.specs.Keywords.{is_keyword}
use Rattle.ngql_lex.specs.Texts.{ending}
use Rattle.ngql_lex.specs.declared.front.Front.{Front}
use Rattle.ngql_lex.specs.declared.front.Front.TheVariants.{Found, Bad}
use Rattle.ngql_lex.specs.declared.text.Ending.{Ending}
use Rattle.ngql_lex.specs.declared.text.Ending.TheVariants.{Closed, Unread, Broken}
use Rattle.ngql_lex.specs.declared.token.TokenKind.TheVariants.{Keyword, Name, Int, Words, Mark}

-- the bytes begin with one that passes a test
abbrev pub begins : (ℕ → Bool) → List ℕ → Bool
begins test [] = false
begins test (b ∷ bytes) = test b

-- a word: a keyword, or a name
abbrev pub word_front : List ℕ → Front
word_front bytes =
    Found (if is_keyword (take_while is_word_byte bytes) then Keyword else Name) (length (take_while is_word_byte bytes))

-- behind a backquote: a word and a backquote
abbrev pub quoted_front : List ℕ → Front
quoted_front bytes =
    if begins is_word_start bytes && begins (λ b. b == 96) (drop (length (take_while is_word_byte bytes)) bytes)
    then Found Name (length (take_while is_word_byte bytes) + 2)
    else Bad 0

-- behind a `-`: the digits of a number, or the `>` of an arrow
abbrev pub dash_front : List ℕ → Front
dash_front bytes =
    if begins is_digit bytes then Found Int (length (take_while is_digit bytes) + 1)
    else if begins (λ b. b == 62) bytes then Found Mark 2
    else Bad 0

-- behind the quote of a text
abbrev pub text_front : Ending → Front
text_front (Closed n) = Found Words (n + 1)
text_front Unread = Bad 0
text_front (Broken n) = Bad (n + 1)

-- `(` `)` `,` `.` `:` `;` `*` `@` `~`
abbrev pub is_mark : ℕ → Bool
is_mark b = (b == 40) || ((b == 41) || ((b == 44) || ((b == 46) || ((b == 58) || ((b == 59) || ((b == 42) || ((b == 64) || (b == 126))))))))

-- `=` `<` `>`, each also with a `=` behind it
abbrev pub is_open_mark : ℕ → Bool
is_open_mark b = (b == 61) || ((b == 60) || (b == 62))

-- a mark, where the byte and those behind it begin one
abbrev pub mark_front : ℕ → List ℕ → Front
mark_front b bytes =
    if is_mark b then Found Mark 1
    else if (is_open_mark b || (b == 33)) && begins (λ c. c == 61) bytes then Found Mark 2
    else if is_open_mark b then Found Mark 1
    else Bad 0

-- The token at the front of the bytes, which don't begin with a blank; the first `good` of them are UTF-8. Where no token begins,
-- the misfit is the first byte; in a text, it is the byte that isn't UTF-8.
abbrev pub front : ℕ → List ℕ → Front
front good [] = Bad 0
front good (b ∷ bytes) =
    if is_word_start b then word_front (b ∷ bytes)
    else if is_digit b then Found Int (length (take_while is_digit (b ∷ bytes)))
    else if b == 45 then dash_front bytes
    else if b == 96 then quoted_front bytes
    else if (b == 34) || (b == 39) then text_front (ending b false (good - 1) bytes)
    else mark_front b bytes

-- what is told of so many bytes stands among them
abbrev pub IsFrontWithin : Front → ℕ → Type 0
IsFrontWithin (Found kind n) len = (0 < n) × (n ≤ len)
IsFrontWithin (Bad n) len = n < len
