use Rattle.std.proofs.Common.{◌≡◌, ◌++◌, drop}
use Rattle.std.specs.List.{filter_map}
use Rattle.raft_core.specs.Ahead.{core_with}
use Rattle.raft_core.specs.Appends.{append_to}
use Rattle.raft_core.proofs.sending.appends.Given as goal

abbrev pub invariant-loop-row : goal.invariant-loop-row
invariant-loop-row l = l.sends ++ filter_map (append_to (core_with l.state l.log)) (drop l.row-index l.state.rows) ≡ filter_map (append_to (core_with l.state l.log)) l.state.rows
