-- How entries stand in a log, as bytes: what the replicas are told of it.
use Rattle.std.specs.Prelude.{◌≡◌, ℕ, List, Option, Some}
use Rattle.part_keys.specs.declared.entry.PartEntry.{PartEntry}

-- an entry's one spelling, where it has one, and the entry that bytes spell, if any; what is spelled is read back
pub record Spelling : Type 0 where
  pub spell : PartEntry → Option (List ℕ)
  pub read : List ℕ → Option PartEntry
  pub back : (entry : PartEntry) (bytes : List ℕ) → spell entry ≡ Some bytes → read bytes ≡ Some entry
