use Rattle.std.proofs.Common.{◌++◌, take, ap, sym, subst, ◌∙◌}
use Rattle.raft_log.specs.Config.{AreEntries}
use Rattle.raft_core.specs.Ahead.{core_with, AreMessages}
use Rattle.raft_core.specs.Laws.{IsPeer}
use Rattle.raft_core.specs.Peer.{Peer, core_of}
use Rattle.raft_core.specs.Step.{Stepped, stepped}
use Rattle.raft_core.proofs.Lawful.{are_messages}
use Rattle.raft_core.proofs.StepLaws.{stays_peer, sends_its_log}
use Rattle.raft_core.proofs.peer.RaftCore.go_on.Goals as goal

pub invariant_of-self : goal.invariant_of-self
invariant_of-self c =
    let made = c.args.made in
    let is : IsPeer (core_of c.args.self.now) = subst (λ (p : Peer). IsPeer (core_of p)) c.self.view_is c.self.invariant in
    let behind = ap (λ (s : Stepped). s.core) c.requires.outcome.is in
    let log = c.rewrite.ensures.log ∙ ap (λ (p : Peer). take made.keep p.1.0 ++ made.entries.items) c.self.view_is in
    subst IsPeer (sym (ap (core_with made.state) log ∙ behind)) (stays_peer (core_of c.args.self.now) c.args._input.now is)

pub returns-clause-messages : goal.returns-clause-messages
returns-clause-messages c =
    let made = c.args.made in
    let st = stepped (core_of c.args.self.now) c.args._input.now in
    let is : IsPeer (core_of c.args.self.now) = subst (λ (p : Peer). IsPeer (core_of p)) c.self.view_is c.self.invariant in
    let log = c.rewrite.ensures.log ∙ ap (λ (p : Peer). take made.keep p.1.0 ++ made.entries.items) c.self.view_is in
    let behind = ap (λ (s : Stepped). s.core.log) c.requires.outcome.is in
    let are : AreEntries st.core.log = subst AreEntries (log ∙ behind) c.rewrite.ensures.items in
    subst AreMessages (sym (ap (λ (s : Stepped). s.sends) c.requires.outcome.is)) (are_messages st are (sends_its_log (core_of c.args.self.now) c.args._input.now is))
