use Rattle.std.proofs.Common.{◌≡◌, ◌+◌, ◌++◌, length}
use Rattle.std.specs.Vec.Iter.{into_iter_items, into_iter_len}
use Rattle.replica_state.specs.Places.{held}
use Rattle.replica_peer.specs.Placed.{senders_behind, kinds_at}
use Rattle.replica_peer.specs.Worked.{entries_at}
use Rattle.replica_peer.proofs.placing.place_all.Given as goal

-- what is placed, with what is left to place
abbrev pub invariant-loop-term : goal.invariant-loop-term
invariant-loop-term l =
    (into_iter_len l.term-iterator ≡ length (into_iter_items l.term-iterator))
    × (l.index + length (into_iter_items l.term-iterator) ≡ l.fn.first + length l.fn.items.items)
    × (l.made.entries ++ entries_at l.index (into_iter_items l.term-iterator) ≡ entries_at l.fn.first l.fn.items.items)
    × (l.made.kinds.items ++ kinds_at (senders_behind l.on l.appended (held l.senders.entries)) l.index (into_iter_items l.term-iterator)
    ≡ kinds_at (senders_behind l.on l.appended (held l.senders.entries)) l.fn.first l.fn.items.items)
