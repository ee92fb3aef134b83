-- what is left tells
use Rattle.std.proofs.Common.{◌≡◌, drop}
use Rattle.schema_book.specs.Lists.{long_vids}
use Rattle.schema_book.proofs.dels.check_lengths.Given as goal

abbrev pub invariant-loop-lit : goal.invariant-loop-lit
invariant-loop-lit l = long_vids l.ids (drop l.lit-index l.list) ≡ long_vids l.ids l.list
