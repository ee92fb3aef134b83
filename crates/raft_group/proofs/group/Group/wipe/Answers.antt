use Rattle.std.proofs.Common.{false, refl, ap, sym, ◌∙◌}
use Rattle.std.specs.FinMap.{insert}
use Rattle.std.proofs.lemmas.Result.{on_ok_weaker}
use Rattle.raft_log.specs.Log.{config_of}
use Rattle.member_change.specs.Permit.{is_member}
use Rattle.raft_group.specs.declared.placed.PlacedPeer.{PlacedPeer}
use Rattle.raft_group.proofs.Holding.{IsMember, wipe_taken}
use Rattle.raft_group.proofs.group.Group.wipe.Goals as goal

pub returns-clause-group : goal.returns-clause-group
returns-clause-group c = λ g h.
    let peer = c.args.peer in
    let now : PlacedPeer = record c.in-Some.placed { is_member = false } in
    let is : IsMember c.args.self.now.peers c.args.peer c.in-Some.placed = record { there = sym c.in-Some.ensures.peer; member = sym c.has_member.ensures ∙ c.if-not-has_member.false } in
    let gone = ap (λ xs. is_member peer (config_of xs)) (sym c.as_slice.ensures) ∙ ap (is_member peer) (sym c.latest-config.ensures) ∙ sym c.is_member.ensures ∙ c.if-is_member.false in
    on_ok_weaker c.put.result
    (λ put. wipe_taken c.args.self.now g h peer c.in-Some.placed now _ gone is refl refl (put ∙ ap (λ m. insert m peer now) c.remove.ensures.others) refl refl)
    c.put.ensures
