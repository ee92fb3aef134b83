-- Tags, or edge types, in the order of their creation.
use Rattle.std.specs.Prelude.{ℕ, zero, suc, ◌≡◌, ◌≤◌, Bool, true, is_some, List, length, Option, None, position, slice_get}
use Rattle.std.specs.List.{list_all}
use Rattle.std.specs.Map.{keys_of}
use Rattle.std.specs.Option.{option_and_then, option_map}
use Rattle.std.specs.Str.{bytes_eq}
use Rattle.ngql_syntax.specs.declared.define.Column.{Column}
use Rattle.schema_book.specs.Columns.{are_sound}

-- tags, or edge types: each with its name and its columns; the first has number 1
abbrev pub Entries : Type 0
Entries = List (List ℕ × List Column)

-- where the first of this name stands
abbrev pub place_of : List ℕ → Entries → Option ℕ
place_of name entries = position (bytes_eq name) (keys_of entries)

-- the place and the columns of the first of this name
abbrev pub entry_of : List ℕ → Entries → Option (ℕ × List Column)
entry_of name entries = option_and_then (λ i. option_map (λ e. (i, e.1)) (slice_get entries i)) (place_of name entries)

-- the name of the tag, or the edge type, with this number
abbrev pub name_of : Entries → ℕ → Option (List ℕ)
name_of entries zero = None
name_of entries (suc place) = option_map (λ e. e.0) (slice_get entries place)

-- the greatest number of tags, and of edge types
abbrev pub most_entries : ℕ
most_entries = 64

-- whether there is one of this name
abbrev pub is_named : List ℕ → Entries → Bool
is_named name entries = is_some (place_of name entries)

-- what the book keeps of its tags and of its edge types: there are at most so many, and of each the columns are sound
pub record AreSound (entries : Entries) : Type 0 where
  pub few : length entries ≤ most_entries
  pub sound : list_all (λ e. are_sound e.1) entries ≡ true
