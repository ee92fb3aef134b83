use Rattle.std.proofs.Common.{ap, sym, ◌∙◌, refl}
use Rattle.maps.specs.Maps.{altered}
use Rattle.maps.proofs.Keys.{nat_keys}
use Rattle.maps.proofs.Made.{altered_none, altered_some}
use Rattle.term_guard.specs.Terms.{greater}
use Rattle.term_guard.proofs.guard.Guard.raise.Goals as goal

pub returns-in_default : goal.returns-in_default
returns-in_default c =
    let same = c.get_mut.follows.holds-at-none in
    let none = altered_none nat_keys c.self.inside.rows.entries c.args.part (greater c.args.term) (sym c.in_default.ensures.value) in
    rw (← c.self.view_is, same) none

pub returns : goal.returns
returns c =
    rw (c.greater.ensures) (altered_some nat_keys c.self.inside.rows.entries _ c.args.part (greater c.args.term) c.in-Some.kept.now (sym c.in-Some.ensures.value) ((c.get_mut.follows.holds _).3 (rw (← c.in-Some.ensures.value) refl)).0
    ∙ ap (λ m. altered m c.args.part (greater c.args.term)) c.self.view_is)
