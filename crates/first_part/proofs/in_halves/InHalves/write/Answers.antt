use Rattle.std.proofs.Common.{Some, refl}
use Rattle.first_graph.proofs.MapLemmas.{made}
use Rattle.first_graph.proofs.KeyLemmas.{ins_total, ins_exact}
use Rattle.first_part.proofs.in_halves.InHalves.write.Goals as goal

pub returns-clause-ok : goal.returns-clause-ok
returns-clause-ok c =
    let e = made ins_total ins_exact c.self.inside.kept.entries c.insert.new.self.entries c.of-key.result (Some c.args.half) c.in_ok-insert.ensures.updates.0 in
    rw (← c.self.view_is, ← c.of-key.ensures, e) refl
