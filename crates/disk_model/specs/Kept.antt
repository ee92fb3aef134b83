-- What a rack in memory keeps.
use Rattle.std.specs.Prelude.{◌≡◌, ℕ, Bool, List, [], ◌∷◌, Option, Some, None, ◌==◌, ◌&&◌, if◌then◌else◌, slice_index_or}
use Rattle.disk_model.specs.declared.rack.DiskName.{DiskName}
use Rattle.disk_model.specs.Plan.{called, no_plan}
use Rattle.disk_model.specs.declared.plan.Plan.{Plan}
use Rattle.disk_model.specs.declared.rack.RackRefused.{RackRefused}
use Rattle.disk_model.specs.declared.rack.RackRefused.TheVariants as why
use Rattle.disk_model.specs.declared.pick.Pick.{Pick}
use Rattle.disk_model.specs.declared.pick.Pick.TheVariants.{Synced}
use Rattle.disk_model.specs.declared.mem_rack.Planned.{Planned}
use Rattle.disk_model.specs.declared.mem_rack.Kept.{Kept}
use Rattle.disk_model.specs.declared.mem_rack.MemRack.{MemRack}
use Rattle.disk_model.specs.Memory.{file_of}

-- the two names are one
abbrev pub is_named : DiskName → DiskName → Bool
is_named a b = (a.node == b.node) && ((a.part == b.part) && (a.peer == b.peer))

-- what was found, or else the other
abbrev pub or_else : Option (List ℕ) → Option (List ℕ) → Option (List ℕ)
or_else (Some file) other = Some file
or_else None other = other

-- what the disk reads that was kept last by this name
abbrev pub kept_at : List Kept → DiskName → Option (List ℕ)
kept_at [] name = None
kept_at (kept ∷ later) name = or_else (kept_at later name) (if is_named kept.name name then Some (file_of kept.disk) else None)

-- how many of its own calls failed
abbrev pub rack_faults : MemRack → ℕ
rack_faults rack = rack.faults.count

-- how many faults the disks had that it took back
abbrev pub rack_back : MemRack → ℕ
rack_back rack = rack.back.count

-- the disks that it keeps, the last one behind the others
abbrev pub kept_in : MemRack → List Kept
kept_in rack = rack.kept.items

-- what each kept disk reads
abbrev pub kept_files : MemRack → Option (DiskName → Option (List ℕ))
kept_files rack = Some (kept_at (kept_in rack))

-- how many disks there is room to keep
abbrev pub rooms_of : MemRack → ℕ
rooms_of rack = rack.rooms

-- which of its own calls fail
abbrev pub rack_plan : MemRack → Plan
rack_plan rack = rack.plan

-- the plans of disks that are still to be given
abbrev pub planned_in : MemRack → List Planned
planned_in rack = rack.planned.items

-- what its crashes leave, in order
abbrev pub picks_of : MemRack → List Pick
picks_of rack = rack.picks

-- how many of the picks are used
abbrev pub used_picks : MemRack → ℕ
used_picks rack = rack.reopened

-- what the next crash leaves; where the picks are at their end, what was synced
abbrev pub pick_of : MemRack → Pick
pick_of rack = slice_index_or (picks_of rack) (used_picks rack) Synced

-- the plan that was set first for this name, and without one every call passes
abbrev pub plan_for : List Planned → DiskName → Plan
plan_for [] name = no_plan
plan_for (planned ∷ rest) name = if is_named planned.name name then planned.plan else plan_for rest name

-- the plans without the one that was set first for this name
abbrev pub without_plan : List Planned → DiskName → List Planned
without_plan [] name = []
without_plan (planned ∷ rest) name = if is_named planned.name name then rest else planned ∷ without_plan rest name

-- the picks and the rack's own plan are the same, and as many of them are used
pub record SamePicks (old new : MemRack) : Type 0 where
  pub picks : picks_of new ≡ picks_of old
  pub reopened : used_picks new ≡ used_picks old
  pub plan : rack_plan new ≡ rack_plan old

-- the plans of disks are the same too
pub record SamePlans (old new : MemRack) : Type 0 where
  pub picks : picks_of new ≡ picks_of old
  pub reopened : used_picks new ≡ used_picks old
  pub planned : planned_in new ≡ planned_in old
  pub plan : rack_plan new ≡ rack_plan old

-- a call of the rack that was refused is counted by its plan at a fault alone; for want of memory all is as it was
abbrev pub HasCounted : Plan → Plan → RackRefused → Type 0
HasCounted old new why.Fault = new ≡ called old
HasCounted old new why.NoMemory = new ≡ old
