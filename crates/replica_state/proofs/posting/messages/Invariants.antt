use Rattle.std.proofs.Common.{◌≡◌, ◌++◌, map, length}
use Rattle.std.specs.Vec.Iter.{into_iter_items, into_iter_len}
use Rattle.replica_model.specs.Stepped as steps
use Rattle.replica_state.specs.Leaving.{leaving_of}
use Rattle.replica_state.proofs.posting.messages.Given as goal

-- what leaves, with what is left to leave
abbrev pub invariant-loop-to : goal.invariant-loop-to
invariant-loop-to l =
    (into_iter_len l.to-iterator ≡ length (into_iter_items l.to-iterator))
    × (map leaving_of l.leaves ++ map steps.leaving (map (steps.message_of l.by.part l.by.me) (into_iter_items l.to-iterator))
    ≡ map steps.leaving (map (steps.message_of l.by.part l.by.me) l.fn.sends.items))
