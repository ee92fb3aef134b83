-- what is left tells
use Rattle.std.proofs.Common.{◌≡◌, drop}
use Rattle.schema_book.specs.Lists.{wrong_vids}
use Rattle.schema_book.proofs.dels.check_kinds.Given as goal

abbrev pub invariant-loop-lit : goal.invariant-loop-lit
invariant-loop-lit l = wrong_vids l.ids (drop l.lit-index l.list) ≡ wrong_vids l.ids l.list
