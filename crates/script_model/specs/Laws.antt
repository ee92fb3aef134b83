-- What holds of every day.
use Rattle.std.specs.Prelude.{◌≡◌, ◌⊎◌, ℕ, true, List, ◌++◌}
use Rattle.part_keys.specs.Spelled.{Spelling}
use Rattle.world_model.specs.After.{Doing}
use Rattle.world_model.specs.Journal.{Run}
use Rattle.world_model.specs.Lawful.{IsQuiet}
use Rattle.world_model.specs.State.{State, start}
use Rattle.script_model.specs.Duties.{Duty, Desk, stands_beside}
use Rattle.script_model.specs.Day.{Pace, Made, Goes, Day, doings_of, IsBeforeIt, Makes}
use Rattle.script_model.specs.Script.{Follows}

-- the doings of a day are a run of the world
abbrev pub DaysAreRuns : Type 0
DaysAreRuns = (spelling : Spelling) (desk : Desk) (s : State) (paces : List Pace) (last : Desk) (v : State) → Day spelling desk s paces last v → Run spelling s (doings_of paces) v

-- what comes first in a day is a day
abbrev pub MayEndAnywhere : Type 0
MayEndAnywhere = (spelling : Spelling) (desk : Desk) (s : State) (paces more : List Pace) (last : Desk) (v : State) → Day spelling desk s (paces ++ more) last v
    → (mid : Desk) × (t : State) × Day spelling desk s paces mid t

-- A driver's own doing stands at a quiet point, or is that of a duty that stands beside the one before.
abbrev pub DriversWait : Type 0
DriversWait = (spelling : Spelling) (desk next : Desk) (s v : State) (d : Doing) → Goes spelling desk s (Made d) next v
    → IsQuiet s ⊎ ((duty : Duty) × IsBeforeIt desk duty next × (stands_beside duty ≡ true) × Makes s duty d)

-- a run that follows a script is a run of the world
abbrev pub ScriptsAreRuns : Type 0
ScriptsAreRuns = (spelling : Spelling) (version n : ℕ) (lines : List (List ℕ)) (doings : List Doing) (v : State) → Follows spelling version n lines doings v → Run spelling (start n) doings v
