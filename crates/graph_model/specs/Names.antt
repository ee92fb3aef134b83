-- Text ids: a text of at most 32 bytes, filled up with zeros.
use Rattle.std.specs.Prelude.{◌≡◌, ℕ, ◌-◌, ◌≤◌, List, [], ◌∷◌, ◌++◌, length, take}
use Rattle.std.specs.List.{repeat}

-- the bytes of a text with zeros behind them, and the number of bytes of the text
pub record ShortText : Type 0 where
  pub bytes : List ℕ
  pub len : ℕ

-- n zeros
abbrev pub zeros : ℕ → List ℕ
zeros n = repeat n (0 ∷ [])

-- the text
abbrev pub text_of : ShortText → List ℕ
text_of name = take name.len name.bytes

-- a text, filled up
abbrev pub name_of : List ℕ → ShortText
name_of text = record { bytes = text ++ zeros (32 - length text); len = length text }

-- what every Name keeps: 32 bytes, of which the text is at most all, and zeros behind it
pub record IsShortText (name : ShortText) : Type 0 where
  pub size : length name.bytes ≡ 32
  pub short : name.len ≤ 32
  pub filled : name.bytes ≡ text_of name ++ zeros (32 - name.len)
