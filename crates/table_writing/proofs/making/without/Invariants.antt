use Rattle.std.proofs.Common.{◌≡◌, ◌==◌, ◌++◌, not, drop}
use Rattle.std.specs.List.{filter}
use Rattle.meta_parts.specs.declared.table.PeerRow.{PeerRow as Peer}
use Rattle.table_writing.proofs.making.without.Given as goal

abbrev pub invariant-loop-row : goal.invariant-loop-row
invariant-loop-row l = l.list ++ filter (λ (x : Peer). not (x.peer == l.peer)) (drop l.row-index l.peers) ≡ filter (λ (x : Peer). not (x.peer == l.peer)) l.peers
