-- Text ids, as the formats have them.
use Rattle.std.specs.Prelude.{ℕ, ◌≡◌, ◌++◌, ◌-◌, ◌≤◌, length}
use Rattle.std.specs.Str.{IsUtf8}
use Rattle.graph_model.specs.Names.{zeros, text_of}
use Rattle.graph_model.specs.declared.name.Name.{Name}

-- the most bytes of a text id
abbrev pub most_text : ℕ
most_text = 32

-- a text of at most 32 bytes, with zeros behind it, that is UTF-8
pub record IsName (name : Name) : Type 0 where
  pub size : length name.bytes ≡ most_text
  pub short : name.len ≤ most_text
  pub filled : name.bytes ≡ text_of name ++ zeros (most_text - name.len)
  pub utf8 : IsUtf8 (text_of name)
