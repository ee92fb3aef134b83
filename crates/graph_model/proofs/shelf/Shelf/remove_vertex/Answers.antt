use Rattle.std.proofs.Common.{refl}
use Rattle.graph_model.proofs.shelf.Shelf.remove_vertex.Goals as goal

pub returns : goal.returns
returns c = rw (← c.self.view_is, c.remove_tags.ensures) refl
