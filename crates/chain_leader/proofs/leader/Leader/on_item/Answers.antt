use Rattle.std.proofs.Common.{◌≡◌, ℕ, Option, sym, subst, ◌∙◌}
use Rattle.std.specs.Option.{option_copied}
use Rattle.part_rules.specs.Folded.{item_applied}
use Rattle.chain_leader.specs.Leader.{leads, StandsBehind}
use Rattle.chain_leader.specs.Leading.{forgetting}
use Rattle.chain_leader.specs.Applying.{IsSaid, with_row}
use Rattle.chain_leader.proofs.Applying.{is_ahead}
use Rattle.chain_leader.proofs.leader.Leader.on_item.Goals as goal

pub returns-clause-leading : goal.returns-clause-leading
returns-clause-leading c parts index machine h =
    let l = leads c.args.self.now in
    let behind = (item_applied parts index c.args.item.now machine).0 in
    let said : IsSaid parts index c.args.item.now machine c.args.said.now (option_copied c.args.begun) = record { answer = h.answer; began = h.began } in
    let k = is_ahead parts c.args.term index machine l c.args.of c.args.item.now c.args.said.now (option_copied c.args.begun) said in
    let ready = c.in_ok-sent.ensures.ready parts index machine said in
    let moved : record l { ready = c.in_ok-sent.field-0.ready; table = with_row (forgetting c.reserve.new.self.0 behind c.chain_at.result) c.in_ok-sent.field-0.begins } ≡ _ = (λ i. record l { ready = ready i; table = with_row (forgetting (c.reserve.ensures.same i) behind (c.chain_at.ensures i)) (c.in_ok-sent.ensures.begins i) }) in
    c.goes_on.ensures.leading behind (subst (λ (v : Option ℕ). StandsBehind behind v c.args.stands) (sym c.chain_at.ensures) h.ends) ∙ moved ∙ k.leading

pub returns-clause-answers : goal.returns-clause-answers
returns-clause-answers c parts index machine h =
    let said : IsSaid parts index c.args.item.now machine c.args.said.now (option_copied c.args.begun) = record { answer = h.answer; began = h.began } in
    c.in_ok-sent.ensures.answers parts index machine said ∙ (is_ahead parts c.args.term index machine (leads c.args.self.now) c.args.of c.args.item.now c.args.said.now (option_copied c.args.begun) said).answers

pub returns-clause-rules : goal.returns-clause-rules
returns-clause-rules c parts index machine h =
    let said : IsSaid parts index c.args.item.now machine c.args.said.now (option_copied c.args.begun) = record { answer = h.answer; began = h.began } in
    c.in_ok-sent.ensures.rules parts index machine said ∙ (is_ahead parts c.args.term index machine (leads c.args.self.now) c.args.of c.args.item.now c.args.said.now (option_copied c.args.begun) said).rules
