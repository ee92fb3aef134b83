use Rattle.std.proofs.Common.{◌≡◌, ◌==◌, ◌&&◌, drop}
use Rattle.std.specs.List.{list_any}
use Rattle.meta_parts.specs.declared.table.PeerRow.{PeerRow as Peer}
use Rattle.table_writing.proofs.rows.is_at.Given as goal

abbrev pub invariant-loop-row : goal.invariant-loop-row
invariant-loop-row l = list_any (λ (row : Peer). (row.peer == l.peer) && (row.node == l.node)) (drop l.row-index l.peers) ≡ list_any (λ (row : Peer). (row.peer == l.peer) && (row.node == l.node)) l.peers
