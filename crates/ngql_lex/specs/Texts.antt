-- Texts in quotes.
use Rattle.std.specs.Prelude.{ℕ, suc, zero, ◌+◌, ◌≤◌, ◌<◌, Bool, true, false, ◌||◌, ◌==◌, List, [], ◌∷◌, if◌then◌else◌}
use Rattle.ngql_lex.specs.declared.text.Ending.{Ending}
use Rattle.ngql_lex.specs.declared.text.Ending.TheVariants.{Closed, Unread, Broken}

-- what may stand behind a backslash: a quote, a backslash, `n` or `t`
abbrev pub is_escape : ℕ → Bool
is_escape b = (b == 34) || ((b == 39) || ((b == 92) || ((b == 110) || (b == 116))))

-- so many bytes later
abbrev pub later : ℕ → Ending → Ending
later k (Closed n) = Closed (k + n)
later k Unread = Unread
later k (Broken n) = Broken (k + n)

-- How a text ends. The bytes are those behind its quote, or, where a backslash stands before them, behind the backslash; the
-- first `good` of them are UTF-8. It ends at its own quote. It can't be read where the line ends, and where something else than
-- an escape stands behind a backslash; it is broken at a byte that isn't UTF-8.
abbrev pub ending : ℕ → Bool → ℕ → List ℕ → Ending
ending quote escaped good [] = Unread
ending quote true zero (b ∷ bytes) = Unread
ending quote false zero (b ∷ bytes) = Broken 0
ending quote true (suc good) (b ∷ bytes) = if is_escape b then later 1 (ending quote false good bytes) else Unread
ending quote false (suc good) (b ∷ bytes) = if b == quote then Closed 1 else later 1 (ending quote (b == 92) good bytes)

-- the text's end, or the byte that isn't UTF-8, is among so many bytes
abbrev pub IsWithin : Ending → ℕ → Type 0
IsWithin (Closed n) len = n ≤ len
IsWithin Unread len = Unit {0}
IsWithin (Broken n) len = n < len
