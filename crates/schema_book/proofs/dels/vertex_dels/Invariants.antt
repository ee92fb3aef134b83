-- the calls so far
use Rattle.std.proofs.Common.{◌≡◌, take}
use Rattle.schema_book.specs.Lists.{vertex_dels}
use Rattle.schema_book.proofs.dels.vertex_dels.Given as goal

abbrev pub invariant-loop-lit : goal.invariant-loop-lit
invariant-loop-lit l = l.calls ≡ vertex_dels (take l.lit-index l.list)
