-- what is left tells
use Rattle.std.proofs.Common.{◌≡◌, drop}
use Rattle.schema_book.specs.Lists.{long_ends_among}
use Rattle.schema_book.proofs.dels.check_end_lengths.Given as goal

abbrev pub invariant-loop-ends : goal.invariant-loop-ends
invariant-loop-ends l = long_ends_among l.ids (drop l.ends-index l.list) ≡ long_ends_among l.ids l.list
