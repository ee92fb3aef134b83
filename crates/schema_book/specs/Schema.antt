-- A schema: the space, and its tags and edge types in the order of their creation.
use Rattle.std.specs.Prelude.{ℕ, [], List, Option, None}
use Rattle.ngql_syntax.specs.declared.define.Column.{Column}
use Rattle.schema_book.specs.Entries.{AreSound}
use Rattle.schema_book.specs.declared.space.Space.{Space}

pub record Schema : Type 0 where
  pub space : Option Space
  pub tags : List (List ℕ × List Column)
  pub edges : List (List ℕ × List Column)

-- nothing yet
abbrev pub nothing : Schema
nothing = record { space = None; tags = []; edges = [] }

-- what the book keeps of its tags and its edge types
pub record IsSound (s : Schema) : Type 0 where
  pub tags : AreSound s.tags
  pub edges : AreSound s.edges
