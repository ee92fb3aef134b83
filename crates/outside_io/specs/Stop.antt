-- Why a read of many pieces stopped.
use Rattle.std.specs.Prelude.{◌≡◌, ◌<◌, ◌≤◌, ◌+◌, ℕ, List, Option}
use Rattle.outside_io.specs.Bytes.{IsEnded}
use Rattle.outside_io.specs.declared.reading.Stop.{Stop}
use Rattle.outside_io.specs.declared.reading.Stop.TheVariants.{Ended, Full, Failed, NoMemory}

-- what holds of the bytes left and of the number of bytes read, at each kind of stop
abbrev pub StopsWell : Stop → Option (List ℕ) → ℕ → ℕ → Type 0
StopsWell Ended left read limit = IsEnded left × (read ≤ limit)
StopsWell Full left read limit = read ≡ limit + 1
StopsWell Failed left read limit = read ≤ limit
StopsWell NoMemory left read limit = read ≤ limit

-- a fault was counted exactly where the source failed
abbrev pub CountsAt : Stop → ℕ → ℕ → Type 0
CountsAt Ended old new = new ≡ old
CountsAt Full old new = new ≡ old
CountsAt Failed old new = old < new
CountsAt NoMemory old new = new ≡ old
