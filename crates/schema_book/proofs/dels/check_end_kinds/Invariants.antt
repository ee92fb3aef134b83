-- what is left tells
use Rattle.std.proofs.Common.{◌≡◌, drop}
use Rattle.schema_book.specs.Lists.{wrong_ends_among}
use Rattle.schema_book.proofs.dels.check_end_kinds.Given as goal

abbrev pub invariant-loop-ends : goal.invariant-loop-ends
invariant-loop-ends l = wrong_ends_among l.ids (drop l.ends-index l.list) ≡ wrong_ends_among l.ids l.list
