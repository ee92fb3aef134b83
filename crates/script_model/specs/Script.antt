-- A run that follows a script.
use Rattle.std.specs.Prelude.{◌≡◌, ℕ, List, [], ◌∷◌, ◌++◌, map}
use Rattle.part_keys.specs.Spelled.{Spelling}
use Rattle.schema_book.specs.Schema.{nothing}
use Rattle.script_lines.specs.declared.reading.Reading.{Reading}
use Rattle.script_lines.specs.Lines.{IsReading}
use Rattle.world_model.specs.After.{Doing}
use Rattle.world_model.specs.Lawful.{IsQuiet}
use Rattle.world_model.specs.State.{State, start}
use Rattle.script_model.specs.Duties.{Duty, Say, StartCollected, Wait, While, Desk}
use Rattle.script_model.specs.Faults.{no_faults}
use Rattle.script_model.specs.Day.{Pace, Day, doings_of}
use Rattle.script_model.specs.Rounds.{clients}

-- each line says what it is read as
abbrev pub AreRead : ℕ → List (List ℕ) → List Reading → Type 0
AreRead version [] [] = Unit {0}
AreRead version (line ∷ lines) (what ∷ readings) = IsReading version line what × AreRead version lines readings
AreRead version lines readings = ⊥

-- What a script gives to do: its lines, in order; at the end what is collected starts, and Rounds are made while any call is open.
abbrev pub to_do : List Reading → List Duty
to_do readings = map Say readings ++ Wait ∷ StartCollected ∷ While clients ∷ Wait ∷ []

abbrev pub desk_for : List Reading → Desk
desk_for readings = record { agenda = to_do readings; faults = no_faults; book = nothing; collected = []; missing = 0 }

-- The doings, from so many nodes, are those of a day for these lines, up to where it ended.
pub record Follows (spelling : Spelling) (version n : ℕ) (lines : List (List ℕ)) (doings : List Doing) (v : State) : Type 0 where
  pub readings : List Reading
  pub read : AreRead version lines readings
  pub paces : List Pace
  pub last : Desk
  pub day : Day spelling (desk_for readings) (start n) paces last v
  pub does : doings ≡ doings_of paces

-- Nothing is left to do, and nothing is on the way.
pub record IsWhole (last : Desk) (v : State) : Type 0 where
  pub all : last.agenda ≡ []
  pub quiet : IsQuiet v
