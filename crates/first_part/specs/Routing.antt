-- To which part a vertex belongs.
use Rattle.std.specs.Prelude.{ℕ, ◌+◌, ◌%◌, ℤ}
use Rattle.std.specs.Int.{w64, cast_unsigned}

-- the part of a vertex: its id as an unsigned number of 64 bits, modulo the number of parts, plus 1
abbrev pub part_number : ℤ → ℕ → ℕ
part_number v parts = cast_unsigned w64 v % parts + 1
