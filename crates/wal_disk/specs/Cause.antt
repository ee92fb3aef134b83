-- Why a file wasn't opened.
use Rattle.std.specs.Prelude.{◌≡◌, ◌<◌, ℕ}
use Rattle.wal_disk.specs.declared.refused.OpenWhy.{OpenWhy}
use Rattle.wal_disk.specs.declared.refused.OpenWhy.TheVariants as why

-- the disk's count of faults rose exactly at a fault; a place of a bad file has what is said of it
abbrev pub HasCause : (ℕ → Type 0) → ℕ → ℕ → OpenWhy → Type 0
HasCause IsBad old new why.DiskFault = old < new
HasCause IsBad old new (why.BadFile at) = IsBad at × (new ≡ old)
HasCause IsBad old new why.NoMemory = new ≡ old

-- no file is bad
abbrev pub NeverBad : ℕ → Type 0
NeverBad at = ⊥
