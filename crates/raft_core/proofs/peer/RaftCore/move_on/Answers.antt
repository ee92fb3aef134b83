use Rattle.std.proofs.Common.{◌++◌, take, ap, sym, subst, ◌∙◌}
use Rattle.raft_core.specs.Ahead.{core_with}
use Rattle.raft_core.specs.Laws.{IsPeer}
use Rattle.raft_core.specs.Peer.{Peer, core_of}
use Rattle.raft_core.specs.Step.{Stepped}
use Rattle.raft_core.proofs.StepLaws.{stays_peer}
use Rattle.raft_core.proofs.peer.RaftCore.move_on.Goals as goal

pub invariant_of-self : goal.invariant_of-self
invariant_of-self c =
    let behind = c.args.behind in
    let is : IsPeer (core_of c.args.self.now) = subst (λ (p : Peer). IsPeer (core_of p)) c.self.view_is c.self.invariant in
    let made = ap (λ (s : Stepped). s.core) c.requires.2.is in
    let log = c.rewrite.ensures.log ∙ ap (λ (p : Peer). take behind.keep p.1.0 ++ behind.entries.items) c.self.view_is in
    subst IsPeer (sym (ap (core_with behind.state) log ∙ made)) (stays_peer (core_of c.args.self.now) c.requires.0 is)
