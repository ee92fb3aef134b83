-- Calls that were seen before, and new ones.
use Rattle.std.proofs.Common.{◌≡◌, Option, None, Some, Bool, true, false, refl, ap}
use Rattle.std.specs.Prelude.{nat_lt, ◌==◌, if◌then◌else◌}
use Rattle.std.proofs.lemmas.Option.{same_Some}
use Rattle.graph_model.specs.declared.call_id.CallId.{CallId}
use Rattle.part_rules.specs.Part.{Part}
use Rattle.part_rules.specs.Machine.{where_new_to}
use Rattle.part_rules.specs.declared.kept.Kept.{Kept}
use Rattle.part_rules.specs.declared.kept.Outcome.{Outcome}
use Rattle.part_rules.specs.declared.applied.Applied.{Applied}
use Rattle.part_rules.specs.declared.applied.Applied.TheVariants.{Old, Again}
use Rattle.part_machine.specs.Calls.{seen_by}

seen_two : (p : Part) (next : Part × Applied) (b c : Bool) (o : Outcome) (a : Applied) → (if b then Some Old else if c then Some (Again o) else None) ≡ Some a
    → (if b then (p, Old) else if c then (p, Again o) else next) ≡ (p, a)
seen_two p next true c o a h = ap (λ (x : Applied). (p, x)) (same_Some Old a h)
seen_two p next false true o a h = ap (λ (x : Applied). (p, x)) (same_Some (Again o) a h)
seen_two p next false false o a h = absurd cc

new_two : (p : Part) (next : Part × Applied) (b c : Bool) (o : Outcome) → ◌≡◌ {A = Option Applied} (if b then Some Old else if c then Some (Again o) else None) None
    → (if b then (p, Old) else if c then (p, Again o) else next) ≡ next
new_two p next true c o h = absurd cc
new_two p next false true o h = absurd cc
new_two p next false false o h = refl

-- a call that was seen is answered again, and nothing changes
pub seen_stays : (p : Part) (id : CallId) (next : Part × Applied) (o : Option Kept) (a : Applied) → seen_by id o ≡ Some a → where_new_to p id next o ≡ (p, a)
seen_stays p id next None a h = absurd cc
seen_stays p id next (Some last) a h = seen_two p next (nat_lt id.number last.number) (id.number == last.number) last.outcome a h

-- a new call goes on
pub new_goes : (p : Part) (id : CallId) (next : Part × Applied) (o : Option Kept) → seen_by id o ≡ None → where_new_to p id next o ≡ next
new_goes p id next None h = refl
new_goes p id next (Some last) h = new_two p next (nat_lt id.number last.number) (id.number == last.number) last.outcome h
