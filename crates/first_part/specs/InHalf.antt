-- The in-halves of a part, and their numbers.
use Rattle.std.specs.Prelude.{ℕ, List, Option, None, Some}
use Rattle.first_graph.specs.declared.val.Val.{Val}
use Rattle.first_graph.specs.Contents.{row_of}
use Rattle.first_part.specs.declared.in_halves.InHalf.{InHalf}

-- the number of the chain that wrote an in-half, 0 where none did
abbrev pub number_of : Option InHalf → ℕ
number_of None = 0
number_of (Some kept) = kept.v

-- the row of an in-half that is here
abbrev pub row_in : Option InHalf → Option (List Val)
row_in None = None
row_in (Some kept) = row_of kept.half
