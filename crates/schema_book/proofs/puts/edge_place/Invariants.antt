-- what is left tells
use Rattle.std.proofs.Common.{◌≡◌, drop}
use Rattle.std.specs.List.{position_from}
use Rattle.std.specs.Ordering.{eq_by_cmp}
use Rattle.graph_model.specs.Keys.{edge_cmp}
use Rattle.schema_book.specs.Puts.{edge_place}
use Rattle.schema_book.proofs.puts.edge_place.Given as goal

abbrev pub invariant-loop-i : goal.invariant-loop-i
invariant-loop-i l = edge_place l.edge l.kept ≡ position_from (λ x. eq_by_cmp edge_cmp l.edge x.0) l.i (drop l.i l.kept)
