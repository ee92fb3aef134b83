use Rattle.std.proofs.Common.{ap, sym, ◌∙◌, refl, Some}
use Rattle.maps.specs.Maps.{altered}
use Rattle.maps.proofs.Keys.{nat_keys}
use Rattle.maps.proofs.Made.{altered_none, altered_some}
use Rattle.statement_run.proofs.lines.Lines.fill.Goals as goal

pub returns-in_default : goal.returns-in_default
returns-in_default c =
    let same = c.get_mut.follows.holds-at-none in
    let none = altered_none nat_keys c.self.inside.kept.entries c.args.line (λ _. Some c.args.answer) (sym c.in_default.ensures.value) in
    rw (← c.self.view_is, same) none

pub returns : goal.returns
returns c =
    altered_some nat_keys c.self.inside.kept.entries _ c.args.line (λ _. Some c.args.answer) c.in-Some.place.now (sym c.in-Some.ensures.value) ((c.get_mut.follows.holds _).3 (rw (← c.in-Some.ensures.value) refl)).0
    ∙ ap (λ m. altered m c.args.line (λ _. Some c.args.answer)) c.self.view_is
