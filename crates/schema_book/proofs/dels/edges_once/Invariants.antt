-- what is kept, and what is left to join
use Rattle.std.proofs.Common.{◌≡◌, drop, map}
use Rattle.std.specs.List.{fold}
use Rattle.schema_book.specs.Ids.{edge_of}
use Rattle.schema_book.specs.Puts.{edge_joined, edges_once}
use Rattle.schema_book.proofs.dels.edges_once.Given as goal

abbrev pub invariant-loop-ends : goal.invariant-loop-ends
invariant-loop-ends l = fold edge_joined l.kept (map (edge_of l.place) (drop l.ends-index l.list)) ≡ edges_once (map (edge_of l.place) l.list)
