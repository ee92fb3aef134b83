-- The words of a control line.
use Rattle.std.specs.Prelude.{ℕ, ◌-◌, ◌==◌, Bool, List, [], ◌∷◌, length, take, take_while, get_or, not, Option, None, Some, if◌then◌else◌}
use denote.Ref.{Bor}

-- a line without the CR that it ends in
abbrev pub ends_in_cr : List ℕ → Bool
ends_in_cr line = get_or line (length line - 1) 0 == 13

abbrev pub without_cr : List ℕ → List ℕ
without_cr line = if ends_in_cr line then take (length line - 1) line else line

-- a line without the spaces that it ends in
abbrev pub before_spaces : ℕ → List ℕ → List ℕ
before_spaces b [] = if b == 32 then [] else b ∷ []
before_spaces b (c ∷ line) = b ∷ c ∷ line

unfoldable pub without_spaces : List ℕ → List ℕ
without_spaces [] = []
without_spaces (b ∷ line) = before_spaces b (without_spaces line)

-- what stands in a line: without its CR, and then without the spaces at its end
abbrev pub text_of : List ℕ → List ℕ
text_of line = without_spaces (without_cr line)

-- the words of a text: what stands between its spaces, two of which part an empty word
abbrev pub goes_on : ℕ → List (List ℕ) → List (List ℕ)
goes_on b [] = (b ∷ []) ∷ []
goes_on b (word ∷ words) = (b ∷ word) ∷ words

unfoldable pub words : List ℕ → List (List ℕ)
words [] = [] ∷ []
words (b ∷ text) = if b == 32 then [] ∷ words text else goes_on b (words text)

-- the first word
abbrev pub first : List ℕ → List ℕ
first text = take_while (λ b. not (b == 32)) text

-- the words of what stands behind a space, where there is one
abbrev pub words_behind : Option (Bor (List ℕ)) → List (List ℕ)
words_behind None = []
words_behind (Some text) = words text.now
