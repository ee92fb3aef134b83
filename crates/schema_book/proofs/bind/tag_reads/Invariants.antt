-- the reads so far
use Rattle.std.proofs.Common.{◌≡◌, take}
use Rattle.schema_book.specs.Lists.{tag_reads}
use Rattle.schema_book.proofs.bind.tag_reads.Given as goal

abbrev pub invariant-loop-lit : goal.invariant-loop-lit
invariant-loop-lit l = l.reads ≡ tag_reads l.place (take l.lit-index l.list)
