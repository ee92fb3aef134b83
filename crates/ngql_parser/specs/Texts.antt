-- The value of a text.
use Rattle.std.specs.Prelude.{ℕ, ◌-◌, ◌==◌, Bool, true, false, List, [], ◌∷◌, length, take, drop, if◌then◌else◌}

-- the byte that an escape stands for: `\n` and `\t` a line feed and a tab, and others themselves
abbrev pub escape_value : ℕ → ℕ
escape_value b = if b == 110 then 10 else if b == 116 then 9 else b

-- what the bytes between the quotes stand for; behind a backslash stands an escape
abbrev pub unescaped : Bool → List ℕ → List ℕ
unescaped escaped [] = []
unescaped true (b ∷ bytes) = escape_value b ∷ unescaped false bytes
unescaped false (b ∷ bytes) = if b == 92 then unescaped true bytes else b ∷ unescaped false bytes

-- a word without its first and its last byte
abbrev pub inner : List ℕ → List ℕ
inner word = take (length word - 2) (drop 1 word)
