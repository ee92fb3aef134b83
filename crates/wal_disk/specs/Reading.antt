-- What the reading of a file answers.
use Rattle.std.specs.Prelude.{ℕ, List}
use Rattle.wal_disk.specs.File.{IsBroken}
use Rattle.wal_disk.specs.declared.refused.OpenWhy.{OpenWhy}
use Rattle.wal_disk.specs.declared.refused.OpenWhy.TheVariants as why

-- the bytes are outside the grammar at this place, or memory ran out
abbrev pub IsBadFile : List ℕ → OpenWhy → Type 0
IsBadFile file why.DiskFault = ⊥
IsBadFile file (why.BadFile at) = IsBroken file at
IsBadFile file why.NoMemory = Unit {0}
