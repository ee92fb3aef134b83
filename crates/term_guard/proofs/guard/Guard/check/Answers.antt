use Rattle.std.proofs.Common.{ap, sym, ◌∙◌}
use Rattle.std.specs.Option.{unwrap_or}
use Rattle.std.specs.FinMap.{get}
use Rattle.maps.proofs.Keys.{nat_keys}
use Rattle.maps.proofs.Made.{get_made}
use Rattle.term_guard.specs.Terms.{verdict_by}
use Rattle.term_guard.proofs.guard.Guard.check.Goals as goal

pub returns-in-Some : goal.returns-in-Some
returns-in-Some c =
    c.verdict_by.ensures
    ∙ ap (λ o. verdict_by (unwrap_or o 0) c.args.term) (c.in-Some.ensures.value ∙ sym (get_made nat_keys c.self.inside.rows.entries c.args.part))
    ∙ ap (λ m. verdict_by (unwrap_or (get m c.args.part) 0) c.args.term) c.self.view_is

pub returns-in-None : goal.returns-in-None
returns-in-None c =
    c.verdict_by-in-None.ensures
    ∙ ap (λ o. verdict_by (unwrap_or o 0) c.args.term) (c.in-None.ensures.value ∙ sym (get_made nat_keys c.self.inside.rows.entries c.args.part))
    ∙ ap (λ m. verdict_by (unwrap_or (get m c.args.part) 0) c.args.term) c.self.view_is
