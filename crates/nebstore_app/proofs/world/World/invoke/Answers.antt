use Rattle.std.proofs.Common.{◌≤◌, length, arith, sym, subst}
use Rattle.nebstore_app.specs.World.{World}
use Rattle.nebstore_app.proofs.Counted.{last-le-events}
use Rattle.nebstore_app.proofs.world.World.invoke.Goals as goal

pub overflow_add-id : goal.overflow_add-id
overflow_add-id c =
    let few = subst (λ (w : World). w.last ≤ length w.events) (sym c.self.view_is) (last-le-events c.args.self.now c.requires.reached) in
    omega (arith, few, c.reserve.ensures.fits)
