use Rattle.std.proofs.Common.{◌≡◌, drop}
use Rattle.traversal.specs.Sets.{with_all}
use Rattle.traversal.proofs.ends.Ends.add_all.Given as goal

abbrev pub invariant-loop-v : goal.invariant-loop-v
invariant-loop-v l = with_all l.self (drop l.v-index l.vids) ≡ with_all l.fn.self l.vids
