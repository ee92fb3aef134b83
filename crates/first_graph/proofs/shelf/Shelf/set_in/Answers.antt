use Rattle.std.proofs.Common.{Some, None, refl}
use Rattle.first_graph.proofs.MapLemmas.{made}
use Rattle.first_graph.proofs.KeyLemmas.{ins_total, ins_exact}
use Rattle.first_graph.proofs.shelf.Shelf.set_in.Goals as goal

pub returns-in-Absent-clause-ok : goal.returns-in-Absent-clause-ok
returns-in-Absent-clause-ok c =
    let e = made ins_total ins_exact c.self.inside.inn.entries c.remove.new.self.entries c.of-key.result None c.remove.ensures.updates.0 in
    rw (c.in-Absent.is, ← c.self.view_is, ← c.of-key.ensures, e) refl

pub returns-in_ok-insert-in-Here-clause-ok : goal.returns-in_ok-insert-in-Here-clause-ok
returns-in_ok-insert-in-Here-clause-ok c =
    let e = made ins_total ins_exact c.self.inside.inn.entries c.insert.new.self.entries c.of-key.result (Some c.in-Here.row) c.in_ok-insert-in-Here.ensures.updates.0 in
    rw (c.in-Here.is, ← c.self.view_is, ← c.of-key.ensures, e) refl
