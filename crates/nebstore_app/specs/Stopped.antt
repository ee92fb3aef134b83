-- What stands where a script is left before its end.
use Rattle.std.specs.Prelude.{◌≡◌, ◌<◌, ℕ}
use Rattle.nebstore_app.specs.declared.stopped.Stopped.{Stopped}
use Rattle.nebstore_app.specs.declared.stopped.Stopped.TheVariants.{SinkFailed, NoMemory}

-- a sink that failed counted it
abbrev pub StopCounts : Stopped → ℕ → ℕ → Type 0
StopCounts SinkFailed old new = old < new
StopCounts NoMemory old new = new ≡ old
