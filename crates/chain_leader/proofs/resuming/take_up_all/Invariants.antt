use Rattle.std.proofs.Common.{◌≡◌, ◌≤◌, ◌-◌, ◌+◌, length}
use Rattle.std.specs.Vec.Iter.{into_iter_items, into_iter_len}
use Rattle.chain_leader.specs.Resuming.{all_taken_up}
use Rattle.chain_leader.proofs.resuming.take_up_all.Given as goal

-- there is room for the rows that are left, and they are still to be taken up
abbrev pub invariant-loop-row : goal.invariant-loop-row
invariant-loop-row l = (into_iter_len l.row-iterator ≡ length (into_iter_items l.row-iterator))
    × (length (into_iter_items l.row-iterator) ≤ l.t.1)
    × (all_taken_up (into_iter_items l.row-iterator) l.t.0 ≡ all_taken_up l.fn.rows.items l.fn.t.0)
    × (l.fn.t.1 - length l.fn.rows.items + length (into_iter_items l.row-iterator) ≤ l.t.1)
