use Rattle.std.proofs.Common.{◌≡◌, ◌≤◌, ◌+◌, ◌-◌, vec_len, length}
use Rattle.outside_io.specs.Bytes.{TakesFront}
use Rattle.outside_io.proofs.reading.read_up_to.Given as goal

abbrev pub invariant-loop-piece : goal.invariant-loop-piece
invariant-loop-piece g l =
    (vec_len l.into ≤ l.limit + 1) × (length l.piece ≡ 8192) × TakesFront (g.S.Source.left l.fn.source) l.into.items (g.S.Source.left l.source) × (g.S.Source.faults l.source ≡ g.S.Source.faults l.fn.source)

abbrev pub decreases-loop-piece : goal.decreases-loop-piece
decreases-loop-piece g l = l.limit + 1 - vec_len l.into
