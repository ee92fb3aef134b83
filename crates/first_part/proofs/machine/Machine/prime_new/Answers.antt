use Rattle.std.proofs.Common.{◌≡◌, None, sym, ap, ◌∙◌}
use Rattle.std.specs.Option.{option_copied}
use Rattle.std.specs.FinMap.{get}
use Rattle.first_graph.proofs.KeyLemmas.{edges_total, edges_exact}
use Rattle.first_part.proofs.Undo.{remove-insert}
use Rattle.first_part.proofs.machine.Machine.prime_new.Goals as goal

pub returns-in-Err-clause-err : goal.returns-in-Err-clause-err
returns-in-Err-clause-err c =
    let none : get c.self.inside.primes c.args.edge ≡ None = sym c.get.ensures ∙ ap option_copied c.in_default.is in
    rw (c.remove.ensures, c.in_ok-insert.ensures.ok, c.in-Err.ensures.err, remove-insert edges_total edges_exact c.self.inside.primes c.args.edge _ none) c.self.view_is
