use Rattle.std.proofs.Common.{refl, ap, sym, ◌∙◌}
use Rattle.std.specs.FinMap.{insert}
use Rattle.std.proofs.lemmas.Result.{on_ok_weaker}
use Rattle.raft_group.specs.declared.placed.PlacedPeer.{PlacedPeer}
use Rattle.raft_group.specs.Group.{input_from}
use Rattle.raft_group.proofs.Holding.{IsMember, stop_taken}
use Rattle.raft_group.proofs.group.Group.stop.Goals as goal

pub returns-clause-group : goal.returns-clause-group
returns-clause-group c = λ g h.
    let peer = c.args.peer in
    let spur = c.args.spur.now in
    let now : PlacedPeer = record c.in-Some-remove.placed { core = c.stop.new.core } in
    let is : IsMember c.args.self.now.peers c.args.peer c.in-Some-remove.placed = record { there = sym c.in-Some-remove.ensures.peer; member = sym c.has_member.ensures ∙ c.if-not-has_member.false } in
    let input = ap (λ s. input_from s peer spur) (sym c.as_slice.ensures) ∙ sym c.in_ok-input.ensures.input ∙ c.in-Some.is in
    on_ok_weaker c.put.result
    (λ put. stop_taken c.args.self.now g h peer spur c.args.kept c.in-Some.input c.in-Some-remove.placed now _ input is refl c.in_ok-stop.ensures
    (put ∙ ap (λ m. insert m peer now) c.remove.ensures.others) refl refl)
    c.put.ensures
