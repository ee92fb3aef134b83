use Rattle.std.proofs.Common.{◌<◌, true, refl, ap, sym, ◌∙◌, arith}
use Rattle.std.proofs.lemmas.Bool.{lt-ltb}
use Rattle.std.proofs.lemmas.Result.{on_ok_weaker}
use Rattle.raft_core.specs.Core.{opened}
use Rattle.raft_group.specs.declared.placed.PlacedPeer.{PlacedPeer}
use Rattle.raft_group.proofs.Holding.{place_taken}
use Rattle.raft_group.proofs.group.Group.place.Goals as goal

pub returns-clause-group : goal.returns-clause-group
returns-clause-group c = λ g h.
    let peer = c.args.peer in
    let now : PlacedPeer = record { is_member = true; core = c.open-core.result } in
    let above : 0 < peer = omega arith in
    let blank = c.open-core.ensures ∙ ap (opened peer 0 0) c.new.ensures in
    on_ok_weaker c.put.result
    (λ put. place_taken c.args.self.now g h peer now _ (lt-ltb 0 peer above) (sym c.has.ensures ∙ c.if-has.false) refl blank put refl refl)
    c.put.ensures
