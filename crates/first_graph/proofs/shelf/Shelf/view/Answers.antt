use Rattle.std.proofs.Common.{refl}
use Rattle.first_graph.proofs.MapLemmas.{get_made}
use Rattle.first_graph.proofs.KeyLemmas.{tags_total}
use Rattle.first_graph.proofs.shelf.Shelf.view.Goals as goal

pub returns-in_ok-push_found-in-Some : goal.returns-in_ok-push_found-in-Some
returns-in_ok-push_found-in-Some c =
    let h = get_made tags_total c.self.inside.verts.entries c.of-key.result in
    rw (c.in-Tag.is, ← c.self.view_is, ← c.of-key.ensures, h, ← c.in-Some.ensures.value, c.in_ok-push_found-in-Some.ensures, c.new-view.ensures) refl

pub returns-in-None : goal.returns-in-None
returns-in-None c =
    let h = get_made tags_total c.self.inside.verts.entries c.of-key.result in
    rw (c.in-Tag.is, ← c.self.view_is, ← c.of-key.ensures, h, ← c.in-None.ensures.value, c.new-view.ensures) refl
