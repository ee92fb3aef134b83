-- The versions of the formats.
use Rattle.std.specs.Prelude.{ℕ, ◌≤◌}

-- In version 1 ids are bare numbers, in version 2 they are tagged.
abbrev pub IsVersion : ℕ → Type 0
IsVersion version = (1 ≤ version) × (version ≤ 2)
