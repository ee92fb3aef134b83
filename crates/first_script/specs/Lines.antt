-- The lines of a script.
use Rattle.std.specs.Prelude.{ℕ, List, [], ◌∷◌, ◌==◌, if◌then◌else◌}

-- the lines, with a byte in front of the first
abbrev pub in_front : ℕ → List (List ℕ) → List (List ℕ)
in_front b [] = (b ∷ []) ∷ []
in_front b (line ∷ rest) = (b ∷ line) ∷ rest

-- the lines of a script: each LF ends one, and the last needs none
abbrev pub lines : List ℕ → List (List ℕ)
lines [] = []
lines (b ∷ bytes) = if b == 10 then [] ∷ lines bytes else in_front b (lines bytes)

-- whole lines, with a byte in front of the first, where there is one
abbrev pub in_front_whole : ℕ → List (List ℕ) → List (List ℕ)
in_front_whole b [] = []
in_front_whole b (line ∷ rest) = (b ∷ line) ∷ rest

-- the lines that an LF ends
abbrev pub whole_lines : List ℕ → List (List ℕ)
whole_lines [] = []
whole_lines (b ∷ bytes) = if b == 10 then [] ∷ whole_lines bytes else in_front_whole b (whole_lines bytes)
