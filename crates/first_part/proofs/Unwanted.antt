-- At an edge of another vertex nothing is found.
use Rattle.std.proofs.Common.{◌≡◌, ℤ, List, None, Some, true, false, ap}
use Rattle.std.specs.Prelude.{◌&&◌, if◌then◌else◌}
use Rattle.std.specs.List.{list_any}
use Rattle.std.specs.Option.{option_map}
use Rattle.std.specs.Ordering.{int_eq}
use Rattle.first_graph.specs.Keys.{edge_of}
use Rattle.first_graph.specs.Contents.{row_of}
use Rattle.first_graph.specs.declared.in_key.InKey.{InKey}
use Rattle.first_part.specs.declared.in_halves.InHalf.{InHalf}
use Rattle.first_part.specs.Part.{found_here}

pub unwanted_here : (v : ℤ) (types : List ℤ) (e : InKey × InHalf) → int_eq e.0.dst v ≡ false → found_here v types e ≡ None
unwanted_here v types e other = ap (λ b. if b && list_any (λ t. int_eq t e.0.etype) types then option_map (λ row. record { edge = Some (edge_of e.0); inward = true; row = row }) (row_of e.1.half) else None) other
