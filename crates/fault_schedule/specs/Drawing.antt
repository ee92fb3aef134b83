-- Control lines drawn by a seed.
use Rattle.std.specs.Prelude.{ℕ, zero, suc, ◌+◌, ◌%◌, ◌==◌, List, [], ◌∷◌, if◌then◌else◌}
use Rattle.rand_core.specs.Stream.{Stream, next_u32}
use Rattle.rand_core.specs.Steps.{stream_of, steps_u32}
use Rattle.rand_core.specs.Pcg32Seed.{pcg32_seed}
use Rattle.rand_pcg.specs.Lcg.{Lcg}
use Rattle.rand_pcg.specs.Pcg.{pcg32, pcg32_of_seed}
use Rattle.fault_schedule.specs.declared.control.Control.{Control}
use Rattle.fault_schedule.specs.declared.control.Control.TheVariants.{Cut, Heal, Crash, Restart, Elect, Lose, Keep, Rounds}

-- The words that a seed gives: the 32-bit outputs of PCG (XSH RR 64/32), seeded by that number.
abbrev pub stream_at : Lcg → Stream
stream_at = stream_of (steps_u32 pcg32)

abbrev pub stream_from : ℕ → Stream
stream_from seed = stream_at (pcg32_of_seed (pcg32_seed 16 seed))

-- a number from 1 to so many, by the next word
abbrev pub number : ℕ → Stream → ℕ × Stream
number most s = ((next_u32 s).0 % most + 1, (next_u32 s).1)

-- The drawn lines, by the word for their kind. Each number takes one word more; an odd word means `cancel`.
abbrev pub cut : ℕ → Stream → Control × Stream
cut nodes s = (Cut (number nodes s).0 (number nodes (number nodes s).1).0, (number nodes (number nodes s).1).1)

abbrev pub elect : ℕ → ℕ → Stream → Control × Stream
elect nodes parts s =
    let part = number parts s in
    let node = number nodes part.1 in
    let last = next_u32 node.1 in
    (Elect part.0 node.0 (last.0 % 2 == 1), last.1)

abbrev pub of_kind : ℕ → ℕ → ℕ → Stream → Control × Stream
of_kind nodes parts kind s =
    if kind == 0 then cut nodes s else
    (if kind == 1 then (Heal, s) else
    (if kind == 2 then (Crash (number nodes s).0, (number nodes s).1) else
    (if kind == 3 then (Restart (number nodes s).0, (number nodes s).1) else
    (if kind == 4 then elect nodes parts s else
    (if kind == 5 then (Lose (number 14 s).0, (number 14 s).1) else
    (if kind == 6 then (Keep, s) else (Rounds 1, s)))))))

-- the next line: its kind is the next word modulo 8
unfoldable pub drawn : ℕ → ℕ → Stream → Control × Stream
drawn nodes parts s = of_kind nodes parts ((next_u32 s).0 % 8) (next_u32 s).1

-- so many lines, each drawn behind the one before it
unfoldable pub lines : ℕ → ℕ → ℕ → Stream → List Control
lines nodes parts zero s = []
lines nodes parts (suc count) s = (drawn nodes parts s).0 ∷ lines nodes parts count (drawn nodes parts s).1

-- the lines that a seed draws
abbrev pub schedule : ℕ → ℕ → ℕ → ℕ → List Control
schedule seed count nodes parts = lines nodes parts count (stream_from seed)
