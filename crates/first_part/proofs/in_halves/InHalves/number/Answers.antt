use Rattle.std.proofs.Common.{refl}
use Rattle.first_graph.proofs.MapLemmas.{get_made}
use Rattle.first_graph.proofs.KeyLemmas.{ins_total}
use Rattle.first_part.proofs.in_halves.InHalves.number.Goals as goal

pub returns-in-Some : goal.returns-in-Some
returns-in-Some c =
    let h = get_made ins_total c.self.inside.kept.entries c.of-key.result in
    rw (← c.self.view_is, ← c.of-key.ensures, h, ← c.in-Some.ensures.value) refl

pub returns-in-None : goal.returns-in-None
returns-in-None c =
    let h = get_made ins_total c.self.inside.kept.entries c.of-key.result in
    rw (← c.self.view_is, ← c.of-key.ensures, h, ← c.in-None.ensures.value) refl
