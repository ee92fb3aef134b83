use Rattle.std.proofs.Common.{Some, None, refl}
use Rattle.first_graph.proofs.MapLemmas.{made}
use Rattle.first_graph.proofs.KeyLemmas.{edges_total, edges_exact}
use Rattle.first_graph.proofs.shelf.Shelf.set_out.Goals as goal

pub returns-in-Absent-clause-ok : goal.returns-in-Absent-clause-ok
returns-in-Absent-clause-ok c =
    let e = made edges_total edges_exact c.self.inside.out.entries c.remove.new.self.entries c.args.e None c.remove.ensures.updates.0 in
    rw (c.in-Absent.is, ← c.self.view_is, e) refl

pub returns-in_ok-insert-in-Here-clause-ok : goal.returns-in_ok-insert-in-Here-clause-ok
returns-in_ok-insert-in-Here-clause-ok c =
    let e = made edges_total edges_exact c.self.inside.out.entries c.insert.new.self.entries c.args.e (Some c.in-Here.row) c.in_ok-insert-in-Here.ensures.updates.0 in
    rw (c.in-Here.is, ← c.self.view_is, e) refl
