-- Why the doings of a day are a run, why it may end anywhere, and why drivers wait for quiet points.
use Rattle.std.proofs.Common.{◌≡◌, ◌⊎◌, inl, inr, ℕ, List, [], ◌∷◌, ◌++◌, refl, sym, subst}
use Rattle.std.specs.Prelude.{true}
use Rattle.part_keys.specs.Spelled.{Spelling}
use Rattle.world_model.specs.After.{Doing}
use Rattle.world_model.specs.Journal.{Run}
use Rattle.world_model.specs.Lawful.{IsQuiet}
use Rattle.world_model.specs.State.{State, start}
use Rattle.script_model.specs.Duties.{Duty, Desk, stands_beside}
use Rattle.script_model.specs.Day.{Pace, Silent, Made, Passing, Goes, Day, doings_of, IsBeforeIt, Makes}
use Rattle.script_model.specs.Script.{Follows, desk_for}

pub are_runs : (spelling : Spelling) (desk : Desk) (s : State) (paces : List Pace) (last : Desk) (v : State) → Day spelling desk s paces last v → Run spelling s (doings_of paces) v
are_runs spelling desk s [] last v day = day.1
are_runs spelling desk s (Silent ∷ paces) last v day = subst (λ u. Run spelling u (doings_of paces) v) day.2.1 (are_runs spelling day.0 day.1 paces last v day.3)
are_runs spelling desk s (Made d ∷ paces) last v day = (day.2.1, subst (λ u. Run spelling u (doings_of paces) v) day.2.2 (are_runs spelling day.0 day.1 paces last v day.3))
are_runs spelling desk s (Passing e ∷ paces) last v day = (day.2.1, subst (λ u. Run spelling u (doings_of paces) v) day.2.2 (are_runs spelling day.0 day.1 paces last v day.3))

pub may_end : (spelling : Spelling) (desk : Desk) (s : State) (paces more : List Pace) (last : Desk) (v : State) → Day spelling desk s (paces ++ more) last v → (mid : Desk) × (t : State) × Day spelling desk s paces mid t
may_end spelling desk s [] more last v day = (desk, s, (refl, refl))
may_end spelling desk s (pace ∷ paces) more last v day =
    let rest = may_end spelling day.0 day.1 paces more last v day.3 in
    (rest.0, rest.1, (day.0, day.1, day.2, rest.2))

pub wait : (spelling : Spelling) (desk next : Desk) (s v : State) (d : Doing) → Goes spelling desk s (Made d) next v → IsQuiet s ⊎ ((duty : Duty) × IsBeforeIt desk duty next × (stands_beside duty ≡ true) × Makes s duty d)
wait spelling desk next s v d goes = elim goes.0.time [
  | inl beside ↦ inr (goes.0.duty, goes.0.first, beside, goes.0.makes)
  | inr quiet ↦ inl quiet
]

pub scripts_run : (spelling : Spelling) (version n : ℕ) (lines : List (List ℕ)) (doings : List Doing) (v : State) → Follows spelling version n lines doings v → Run spelling (start n) doings v
scripts_run spelling version n lines doings v f = subst (λ list. Run spelling (start n) list v) (sym f.does) (are_runs spelling (desk_for f.readings) (start n) f.paces f.last v f.day)
