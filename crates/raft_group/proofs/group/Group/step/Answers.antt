use Rattle.std.proofs.Common.{refl, ap, sym, subst, ◌∙◌}
use Rattle.std.specs.FinMap.{insert}
use Rattle.std.proofs.lemmas.Result.{on_ok_weaker}
use Rattle.raft_group.specs.declared.placed.PlacedPeer.{PlacedPeer}
use Rattle.raft_group.specs.Group.{input_from}
use Rattle.raft_group.specs.Held.{AreSent}
use Rattle.raft_group.proofs.Holding.{IsMember, step_taken, sent_on}
use Rattle.raft_group.proofs.group.Group.step.Goals as goal

pub returns-clause-group : goal.returns-clause-group
returns-clause-group c = λ g h.
    let peer = c.args.peer in
    let spur = c.args.spur.now in
    let now : PlacedPeer = record c.in-Some-remove.placed { core = c.step.new.core } in
    let is : IsMember c.args.self.now.peers c.args.peer c.in-Some-remove.placed = record { there = sym c.in-Some-remove.ensures.peer; member = sym c.has_member.ensures ∙ c.if-not-has_member.false } in
    let input = ap (λ s. input_from s peer spur) (sym c.as_slice.ensures) ∙ sym c.in_ok-input.ensures.input ∙ c.in-Some.is in
    on_ok_weaker c.put.result
    (λ put. step_taken c.args.self.now g h peer spur c.in-Some.input c.in-Some-remove.placed now c.in_ok-sends.sends _ input is refl c.in_ok-sends.ensures.core c.in_ok-sends.ensures.sends
    (put ∙ ap (λ m. insert m peer now) c.remove.ensures.others) c.in_ok-note.ensures c.in_ok-decide.ensures)
    c.put.ensures

pub returns-clause-sent : goal.returns-clause-sent
returns-clause-sent c =
    on_ok_weaker c.put.result (λ put. subst AreSent (sym c.in_ok-note.ensures) (sent_on c.args.peer c.args.self.now.sent c.in_ok-sends.sends c.requires c.in_ok-sends.ensures.messages)) c.put.ensures
