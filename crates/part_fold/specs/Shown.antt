-- What a query finds among the in-halves of a part.
use Rattle.std.specs.Prelude.{ℤ, List, Option}
use Rattle.std.specs.Option.{option_and_then}
use Rattle.graph_model.specs.Views.{found_in}
use Rattle.graph_model.specs.declared.found.Found.{Found}
use Rattle.graph_model.specs.declared.in_key.InKey.{InKey}
use Rattle.graph_model.specs.declared.vid.Vid.{Vid}
use Rattle.part_keys.specs.declared.in_half.InHalf.{InHalf}
use Rattle.part_rules.specs.View.{row_here}

-- an in-half of the vertex that is here, of one of the types
abbrev pub found_of : Vid → List ℤ → InKey × InHalf → Option Found
found_of v types e = option_and_then (found_in v types) (row_here e)
