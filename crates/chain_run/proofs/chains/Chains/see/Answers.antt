use Rattle.std.proofs.Common.{◌≡◌, length, take, refl, ap, sym, ◌∙◌, arith}
use Rattle.std.proofs.lemmas.Result.{on_ok_weaker}
use Rattle.part_fold.specs.State.{part_of}
use Rattle.part_rules.specs.Folded.{folded}
use Rattle.part_rules.specs.View.{view}
use Rattle.std.specs.Prelude.{◌==◌, false}
use Rattle.std.specs.Option.{option_map}
use Rattle.std.proofs.lemmas.Bool.{ne_eqb}
use Rattle.chain_world.specs.State.{Leader}
use Rattle.chain_run.specs.Shows.{list_in, posted, leader_of, world_of}
use Rattle.chain_world.specs.Events.{first_asked, holds_of, is_part, knows_all}
use Rattle.chain_world.specs.declared.event.ChainEvent.TheVariants as event
use Rattle.chain_run.proofs.Happening.{nothing, fails_left, fails_right, saw}
use Rattle.chain_run.proofs.Seen.{shown}
use Rattle.chain_run.proofs.chains.Chains.see.Goals as goal

pub returns : goal.returns
returns c = λ ids.
    let held = c.args.self.now in
    let parts = c.args.parts in
    let p = c.args.part in
    let t = c.args.term in
    let id = c.args.id in
    let l = c.in-Some.leader.now in
    let query = c.in-Some-first_asked.query.now in
    let all : l.applied ≡ length (list_in held.decided p) = omega (arith, ap length c.list_of-decided.ensures) in
    let asked = ap (λ posts. first_asked p id (posted posts)) (sym c.as_slice.ensures) ∙ sym c.in-Some-first_asked.ensures in
    let part : part_of c.in_ok-machine.machine ≡ folded parts (take l.applied (list_in held.decided p)) = c.in_ok-machine.ensures ∙ ap (folded parts) (c.front.ensures ∙ ap (take l.applied) c.list_of-decided.ensures) in
    on_ok_weaker c.push_post.result
    (λ post. saw ids parts held p t l (sym c.is_part.ensures ∙ c.if-not-is_part.false) (sym c.in-Some.ensures) _ id query c.if-not-leader.false all asked
    (shown held _ parts p t l id query c.read.result c.len-moment.result (c.read.ensures.read (folded parts (take l.applied (list_in held.decided p))) query (c.in_ok-found.ensures ∙ ap (view query) part)) c.len-moment.ensures refl refl refl refl refl post))
    c.push_post.ensures

pub returns-then-not-leader : goal.returns-then-not-leader
returns-then-not-leader c = λ ids.
    let s = world_of c.args.self.now in
    let p = c.args.part in
    let l = leader_of c.in-Some.leader.now in
    let at = ap (option_map leader_of) (sym c.in-Some.ensures) in
    nothing ids c.args.parts s (event.See p c.args.term c.args.id)
    (fails_right (is_part c.args.parts p) _ (fails_left _ _ (ap (holds_of (λ (m : Leader). knows_all s p m)) at ∙ fails_left l.lead.ready _ c.if-not-leader.true)))

pub returns-then-leader-decided : goal.returns-then-leader-decided
returns-then-leader-decided c = λ ids.
    let s = world_of c.args.self.now in
    let p = c.args.part in
    let l = leader_of c.in-Some.leader.now in
    let decided = list_in c.args.self.now.decided p in
    let at = ap (option_map leader_of) (sym c.in-Some.ensures) in
    let apart : (l.applied == length decided) ≡ false = ne_eqb l.applied (length decided) (λ same. c.if-leader-decided.true (same ∙ sym (ap length c.list_of-decided.ensures))) in
    nothing ids c.args.parts s (event.See p c.args.term c.args.id)
    (fails_right (is_part c.args.parts p) _ (fails_left _ _ (ap (holds_of (λ (m : Leader). knows_all s p m)) at ∙ fails_right l.lead.ready _ apart)))
