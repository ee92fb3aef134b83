use Rattle.std.proofs.Common.{◌≡◌, ◌-◌, ◌++◌}
use Rattle.fault_schedule.specs.Drawing.{lines, stream_at, stream_from}
use Rattle.fault_schedule.proofs.drawing.schedule.Given as goal

abbrev pub invariant-loop : goal.invariant-loop
invariant-loop l =
    l.controls ++ lines l.nodes l.parts (l.count - l.counter) (stream_at l.rng) ≡ lines l.nodes l.parts l.count (stream_from l.seed)
