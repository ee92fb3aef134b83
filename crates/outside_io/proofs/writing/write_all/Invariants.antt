use Rattle.std.proofs.Common.{length, take, ◌-◌, ◌≡◌, ◌≤◌}
use Rattle.outside_io.specs.Bytes.{Appends}
use Rattle.outside_io.proofs.writing.write_all.Given as goal

abbrev pub invariant-loop-done : goal.invariant-loop-done
invariant-loop-done g l =
    (l.done ≤ length l.from) × Appends (g.K.Sink.written l.fn.sink) (take l.done l.from) (g.K.Sink.written l.sink) × (g.K.Sink.faults l.sink ≡ g.K.Sink.faults l.fn.sink) × (l.done ≡ 0 → l.sink ≡ l.fn.sink)

abbrev pub decreases-loop-done : goal.decreases-loop-done
decreases-loop-done g l = length l.from - l.done
