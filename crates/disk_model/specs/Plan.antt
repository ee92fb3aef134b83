-- Which calls of a disk in memory fail, by the number of the call.
use Rattle.std.specs.Prelude.{ℕ, ◌+◌, ◌-◌, ◌^◌, Bool, List, [], min, not, nat_eq, nat_lt, ◌&&◌, Option, Some, None, true}
use Rattle.std.specs.List.{list_any}
use Rattle.disk_model.specs.declared.plan.Plan.{Plan}

-- so many calls pass before each further one fails; without a fuse all do
abbrev pub within : ℕ → Option ℕ → Bool
within number None = true
within number (Some fuse) = nat_lt number fuse

-- before the first call: a fuse lets so many calls pass, and the calls of these numbers fail
abbrev pub plan_with : Option ℕ → List ℕ → Plan
plan_with fuse failing = record { fuse = fuse; failing = failing; number = 0 }

-- every call passes
abbrev pub no_plan : Plan
no_plan = plan_with None []

-- the plan of a disk that was opened again: without a fuse, and the numbers of its calls go on
abbrev pub without_fuse : Plan → Plan
without_fuse plan = record plan { fuse = None }

-- the next call passes
abbrev pub passes : Plan → Bool
passes plan = within plan.number plan.fuse && not (list_any (nat_eq plan.number) plan.failing)

-- one call more; the last number that a call can have stays
abbrev pub called : Plan → Plan
called plan = record plan { number = min (plan.number + 1) (2 ^ 64 - 1) }
