use Rattle.std.proofs.Common.{◌≡◌, ◌++◌, map, length}
use Rattle.std.specs.Vec.Iter.{into_iter_items, into_iter_len}
use Rattle.replica_model.specs.Letters.{packets_of}
use Rattle.replica_model.specs.Stepped.{leaving}
use Rattle.replica_state.specs.Leaving.{leaving_of}
use Rattle.replica_state.specs.Places.{number_held}
use Rattle.replica_state.proofs.posting.post_all.Given as goal

-- what leaves, with what is left to leave
abbrev pub invariant-loop-letter : goal.invariant-loop-letter
invariant-loop-letter l =
    (into_iter_len l.letter-iterator ≡ length (into_iter_items l.letter-iterator))
    × (map leaving_of l.leaves ++ map leaving (packets_of l.by.part l.by.me l.by.term (number_held l.hints.entries) l.sender (into_iter_items l.letter-iterator))
    ≡ map leaving_of l.fn.leaves ++ map leaving (packets_of l.by.part l.by.me l.by.term (number_held l.hints.entries) l.sender l.fn.list.items))
