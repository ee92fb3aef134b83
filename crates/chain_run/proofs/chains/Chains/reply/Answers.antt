use Rattle.std.proofs.Common.{refl, ap, sym, ◌∙◌}
use Rattle.std.specs.Prelude.{slice_get}
use Rattle.std.specs.Option.{option_copied, option_map}
use Rattle.std.proofs.lemmas.Result.{on_ok_weaker}
use Rattle.chain_run.specs.Shows.{post_in}
use Rattle.chain_run.proofs.Calling.{replied, ended}
use Rattle.chain_run.proofs.Happening.{post_at}
use Rattle.chain_run.proofs.chains.Chains.reply.Goals as goal

pub returns : goal.returns
returns c = λ ids parts.
    let held = c.args.self.now in
    let id = c.args.id in
    let a = c.args.answer.now in
    let number = c.args.number in
    let m = c.moment_of.result in
    let is = ap (option_map post_in) (c.item_at-post.ensures ∙ ap (λ posts. slice_get posts number) c.as_slice.ensures) ∙ sym (post_at held number) in
    on_ok_weaker c.put.result
    (λ put. ended ids parts held id a number (option_map post_in (option_copied c.item_at-post.result)) is
    (sym c.is_client.ensures ∙ c.if-not-is_client.false) (sym c.is_open.ensures ∙ c.if-not-is_open.false) (sym c.may_end.ensures ∙ c.if-not-may_end.false) _ m c.moment_of.ensures
    (replied held _ id a m c.last_of-last.result c.last_of-last.ensures c.in_ok-push_reply.ensures refl refl refl refl put))
    c.put.ensures
