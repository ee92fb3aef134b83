use Rattle.std.proofs.Common.{Some, ap, sym, ◌∙◌}
use Rattle.std.specs.Prelude.{is_some}
use Rattle.std.specs.FinMap.{get, insert}
use Rattle.std.proofs.lemmas.Bool.{cond-true, cond-false}
use Rattle.maps.proofs.Keys.{nat_keys}
use Rattle.maps.proofs.Made.{get_made, made}
use Rattle.term_guard.proofs.guard.Guard.reserve.Goals as goal

pub returns-then-contains_key-clause-ok : goal.returns-then-contains_key-clause-ok
returns-then-contains_key-clause-ok c =
    let has = c.contains_key.ensures ∙ ap is_some (sym (get_made nat_keys c.self.inside.rows.entries c.args.part)) ∙ ap (λ m. is_some (get m c.args.part)) c.self.view_is in
    sym (cond-true _ _ _ (sym has ∙ c.if-contains_key.true))

pub returns-clause-ok : goal.returns-clause-ok
returns-clause-ok c =
    let has = c.contains_key.ensures ∙ ap is_some (sym (get_made nat_keys c.self.inside.rows.entries c.args.part)) ∙ ap (λ m. is_some (get m c.args.part)) c.self.view_is in
    made nat_keys c.self.inside.rows.entries c.insert.new.self.entries c.args.part (Some 0) c.in_ok-insert.ensures.updates.0
    ∙ ap (λ m. insert m c.args.part 0) c.self.view_is
    ∙ sym (cond-false _ _ _ (sym has ∙ c.if-contains_key.false))
