use Rattle.std.proofs.Common.{◌≡◌, ◌++◌, take, drop}
use Rattle.disk_model.specs.Kept.{plan_for, without_plan}
use Rattle.disk_model.proofs.planned.take_plan.Given as goal

abbrev pub invariant-loop-at : goal.invariant-loop-at
invariant-loop-at l = record {
  same : l.planned ≡ l.fn.planned;
  rest : plan_for (drop l.at l.planned.items) l.name ≡ plan_for l.planned.items l.name;
  without : take l.at l.planned.items ++ without_plan (drop l.at l.planned.items) l.name ≡ without_plan l.planned.items l.name;
}
