use Rattle.std.proofs.Common.{◌≡◌, ℕ, Some, refl, ap, sym, ◌∙◌, arith}
use Rattle.std.specs.Prelude.{nat_le, slice_get, take, ◌++◌}
use Rattle.std.specs.FinMap.{insert}
use Rattle.std.proofs.lemmas.Bool.{le-leb, lt-leb}
use Rattle.std.specs.Option.{option_map}
use Rattle.part_keys.specs.declared.proposal.Proposal.{Proposal}
use Rattle.chain_world.specs.Events.{holds_of, is_part, next_entry}
use Rattle.chain_world.specs.State.{Leader}
use Rattle.chain_world.specs.declared.event.ChainEvent.TheVariants as event
use Rattle.std.proofs.lemmas.Option.{same_Some}
use Rattle.std.proofs.lemmas.Result.{on_ok_weaker}
use Rattle.std.specs.Option.{option_to_list}
use Rattle.chain_world.specs.State.{posts_of}
use Rattle.chain_run.specs.declared.leaders.Seated.{Seated}
use Rattle.chain_run.specs.Shows.{list_in, leader_of, seat, world_of}
use Rattle.chain_run.proofs.Happening.{nothing, fails_right, applied_next}
use Rattle.chain_run.proofs.Decides.{applied_on}
use Rattle.chain_run.proofs.chains.Chains.apply.Goals as goal

pub returns : goal.returns
returns c = λ ids.
    let held = c.args.self.now in
    let parts = c.args.parts in
    let p = c.args.part in
    let t = c.args.term in
    let decided = list_in held.decided p in
    let l = c.in-Some-remove.leader in
    let made = c.applies.new.leader in
    let d = c.in-Some-item_at.item.now in
    let same : c.in-Some.leader.now ≡ l = same_Some c.in-Some.leader.now l (c.in-Some.ensures ∙ sym c.in-Some-remove.ensures.leader) in
    let there : slice_get decided l.applied ≡ Some d = ap (λ (s : Seated). slice_get decided s.applied) (sym same) ∙ ap (λ is. slice_get is c.in-Some.leader.now.applied) (sym c.list_of-decided.ensures) ∙ sym c.in-Some-item_at.ensures in
    let front = c.front-items.ensures ∙ ap (take l.applied) c.list_of-decided.ensures in
    on_ok_weaker c.push_any-3.result
    (λ post. applied_next ids parts held p t l (sym c.is_part.ensures ∙ c.if-not-is_part.false) (sym c.in-Some-remove.ensures.leader) _ d there (le-leb d.0 t (omega arith))
    (applied_on held _ parts p t l made d c.own_sender-sender.result c.in_ok-sent.sent.told c.in_ok-sent.sent.back c.in_ok-sent.sent.rule c.front-items.result.now front there
    c.in_ok-sent.ensures.leader c.in_ok-sent.ensures.answers c.in_ok-sent.ensures.rules c.own_sender-sender.ensures refl refl refl refl
    (c.in_ok-put.ensures ∙ ap (λ m. insert m (seat p t) made) c.remove.ensures.others)
    (post ∙ ap (λ q. q ++ posts_of p t c.own_sender-sender.result (option_to_list c.in_ok-sent.sent.rule)) (c.in_ok-push_any-2.ensures ∙ ap (λ q. q ++ posts_of p t c.own_sender-sender.result (option_to_list c.in_ok-sent.sent.back)) c.in_ok-push_any.ensures))))
    c.push_any-3.ensures

pub returns-then-item-term : goal.returns-then-item-term
returns-then-item-term c = λ ids.
    let s = world_of c.args.self.now in
    let p = c.args.part in
    let t = c.args.term in
    let l = leader_of c.in-Some.leader.now in
    let decided = list_in c.args.self.now.decided p in
    let d = c.in-Some-item_at.item.now in
    let at = ap (option_map leader_of) (sym c.in-Some.ensures) in
    let there : slice_get decided l.applied ≡ Some d = ap (λ is. slice_get is l.applied) (sym c.list_of-decided.ensures) ∙ sym c.in-Some-item_at.ensures in
    nothing ids c.args.parts s (event.Apply p t)
    (fails_right (is_part c.args.parts p) _ (ap (holds_of (λ (m : Leader). holds_of (λ (e : ℕ × Proposal). nat_le e.0 t) (next_entry s p m))) at ∙ ap (holds_of (λ (e : ℕ × Proposal). nat_le e.0 t)) there ∙ lt-leb d.0 t c.if-item-term.true))
