use Rattle.std.proofs.Common.{◌≡◌, length}
use Rattle.nebstore_app.proofs.Running.{Running}
use Rattle.nebstore_app.proofs.script.run_lines.Given as goal

-- the lines before are answered, and no fault was counted
abbrev pub invariant-loop-line : goal.invariant-loop-line
invariant-loop-line g l = record {
  running : Running l.cut l.script l.rest l.awaited l.number l.world (g.K.Sink.written l.fn.sink) (g.K.Sink.written l.sink);
  steady : g.K.Sink.faults l.sink ≡ g.K.Sink.faults l.fn.sink;
}

abbrev pub decreases-loop-line : goal.decreases-loop-line
decreases-loop-line g l = length l.rest
