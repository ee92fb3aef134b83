-- Up to where the terms of a log rise.
use Rattle.std.specs.Prelude.{ℕ, suc, ◌+◌, ◌<◌, ◌==◌, nat_le, List, [], ◌∷◌, ◌&&◌, if◌then◌else◌}
use Rattle.std.specs.List.{AllByRecursion}
use Rattle.raft_log.specs.declared.entry.Entry.{Entry}
use Rattle.raft_log.specs.declared.mark.Mark.{Mark}

-- how many of the first entries have terms that rise, the first not below this one
abbrev pub rising_from : ℕ → List Entry → ℕ
rising_from low [] = 0
rising_from low (entry ∷ log) = if nat_le low entry.term then suc (rising_from entry.term log) else 0

-- up to where the terms of the log rise
abbrev pub rising : List Entry → ℕ
rising log = rising_from 0 log

-- how many do, with one entry more, of this term
abbrev pub risen : ℕ → Mark → ℕ → ℕ
risen known last term = if (known == last.index) && nat_le last.term term then known + 1 else known

-- each entry has a term below this one
abbrev pub IsOlder : ℕ → List Entry → Type 0
IsOlder term log = AllByRecursion (λ (entry : Entry). entry.term < term) log
