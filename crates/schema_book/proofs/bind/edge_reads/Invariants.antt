-- the reads so far
use Rattle.std.proofs.Common.{◌≡◌, take}
use Rattle.schema_book.specs.Lists.{edge_reads}
use Rattle.schema_book.proofs.bind.edge_reads.Given as goal

abbrev pub invariant-loop-ends : goal.invariant-loop-ends
invariant-loop-ends l = l.reads ≡ edge_reads l.place (take l.ends-index l.list)
