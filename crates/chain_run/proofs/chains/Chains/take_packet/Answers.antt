use Rattle.std.proofs.Common.{refl, ap, sym, ◌∙◌}
use Rattle.std.specs.Prelude.{take, None, ◌++◌, slice_get}
use Rattle.std.specs.FinMap.{insert}
use Rattle.std.proofs.lemmas.Result.{on_ok_weaker}
use Rattle.chain_world.specs.State.{posts_of}
use Rattle.chain_run.specs.Shows.{posted, seat}
use Rattle.chain_run.proofs.Happening.{took_packet}
use Rattle.chain_run.proofs.Takes.{packet_taken}
use Rattle.chain_run.proofs.chains.Chains.take_packet.Goals as goal

pub returns : goal.returns
returns c =
    let held = c.args.self.now in
    let ids = c.args.ids in
    let parts = c.args.parts in
    let p = c.args.part in
    let t = c.args.term in
    let l = c.in-Some-remove.leader in
    let packet = c.in-Some.post.now.packet in
    let made = c.takes.new.leader in
    let items = c.front-items.result.now in
    let letters = c.in_ok-letters.letters in
    let front = c.front-items.ensures ∙ ap (take l.applied) c.list_of.ensures in
    on_ok_weaker c.push_letters.result
    (λ post. took_packet ids parts held p t l (sym c.is_part.ensures ∙ c.if-not-is_part.false) (sym c.in-Some-remove.ensures.leader) _ c.args.number c.in-Some.post.now (ap (λ posts. slice_get posts c.args.number) (sym c.as_slice.ensures) ∙ sym c.in-Some.ensures) (sym c.is_to.ensures ∙ c.if-not-is_to.false)
    (packet_taken ids parts held _ p t l made packet items letters front c.in_ok-letters.ensures.leader c.in_ok-letters.ensures.letters refl refl refl refl
    (c.in_ok-put.ensures ∙ ap (λ m. insert m (seat p t) made) c.remove.ensures.others)
    (post ∙ ap (λ ls. posted held.posts ++ posts_of p t None ls) c.as_slice-2.ensures)))
    c.push_letters.ensures
