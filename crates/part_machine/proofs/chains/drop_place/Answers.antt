use Rattle.std.proofs.Common.{◌≡◌, None, ap, sym, ◌∙◌}
use Rattle.std.specs.Option.{unwrap_or}
use Rattle.maps.proofs.Keys.{nat_keys}
use Rattle.part_machine.proofs.Dropped.{dropped}
use Rattle.part_machine.proofs.chains.drop_place.Goals as goal

pub returns : goal.returns
returns c =
    let read = ap (λ w. unwrap_or w None) (sym c.in-Some.ensures.value) in
    let none : c.in-Some.place.now ≡ None = cc in
    dropped nat_keys c.args.places.now.entries c.remove.new.self.entries c.args.v (read ∙ none) c.remove.ensures.updates.0
