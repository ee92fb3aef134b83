use Rattle.std.proofs.Common.{◌≡◌, drop, Some}
use Rattle.std.specs.Prelude.{if◌then◌else◌}
use Rattle.maps.specs.Keys.{has_key}
use Rattle.graph_model.specs.declared.edge_id.EdgeId.{EdgeId}
use Rattle.graph_model.specs.Keys.{edge_cmp}
use Rattle.graph_model.specs.Ops.{edges_in}
use Rattle.graph_model.specs.Holders.{holder}
use Rattle.graph_model.proofs.chains.hold.Given as goal

-- with the edges that are left to enter, all are entered
abbrev pub invariant-loop-half : goal.invariant-loop-half
invariant-loop-half l = (q : EdgeId) → (if has_key edge_cmp q (edges_in (drop l.half-index l.list)) then Some l.id else holder l.holders.entries q) ≡ (if has_key edge_cmp q (edges_in l.list) then Some l.id else holder l.fn.holders.entries q)
