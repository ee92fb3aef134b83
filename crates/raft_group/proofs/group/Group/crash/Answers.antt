use Rattle.std.proofs.Common.{refl, ap, sym, ◌∙◌}
use Rattle.std.specs.FinMap.{insert}
use Rattle.std.proofs.lemmas.Result.{on_ok_weaker}
use Rattle.raft_group.specs.declared.placed.PlacedPeer.{PlacedPeer}
use Rattle.raft_group.proofs.Holding.{IsMember, crash_taken}
use Rattle.raft_group.proofs.group.Group.crash.Goals as goal

pub returns-clause-group : goal.returns-clause-group
returns-clause-group c = λ g h.
    let held = c.args.self.now in
    let now : PlacedPeer = record c.in-Some.placed { core = c.crash.new.self } in
    let is : IsMember c.args.self.now.peers c.args.peer c.in-Some.placed = record { there = sym c.in-Some.ensures.peer; member = sym c.has_member.ensures ∙ c.if-not-has_member.false } in
    on_ok_weaker c.put.result
    (λ put. crash_taken held g h c.args.peer c.in-Some.placed now _ is refl c.crash.ensures (put ∙ ap (λ m. insert m c.args.peer now) c.remove.ensures.others) refl refl)
    c.put.ensures
