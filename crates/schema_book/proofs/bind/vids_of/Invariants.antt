-- the ids so far
use Rattle.std.proofs.Common.{◌≡◌, take, map}
use Rattle.schema_book.specs.Ids.{vid_of}
use Rattle.schema_book.proofs.bind.vids_of.Given as goal

abbrev pub invariant-loop-lit : goal.invariant-loop-lit
invariant-loop-lit l = l.vids ≡ map (λ x. vid_of x.val) (take l.lit-index l.list)
