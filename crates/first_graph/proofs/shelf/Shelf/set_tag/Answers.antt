use Rattle.std.proofs.Common.{Some, refl}
use Rattle.first_graph.proofs.MapLemmas.{made}
use Rattle.first_graph.proofs.KeyLemmas.{tags_total, tags_exact}
use Rattle.first_graph.proofs.shelf.Shelf.set_tag.Goals as goal

pub returns-clause-ok : goal.returns-clause-ok
returns-clause-ok c =
    let e = made tags_total tags_exact c.self.inside.verts.entries c.insert.new.self.entries c.args.key (Some c.args.row) c.in_ok-insert.ensures.updates.0 in
    rw (← c.self.view_is, e) refl
