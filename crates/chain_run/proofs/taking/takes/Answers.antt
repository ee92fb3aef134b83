use Rattle.std.proofs.Common.{sym, ◌∙◌}
use Rattle.std.proofs.lemmas.Result.{on_ok_weaker, IfOk-weaker}
use Rattle.part_rules.specs.Folded.{folded}
use Rattle.chain_leader.specs.Leader.{leads}
use Rattle.chain_leader.specs.Leading.{taken}
use Rattle.chain_world.specs.Events.{part_from, kept_sender, behind_taking}
use Rattle.chain_run.specs.Shows.{leader_of}
use Rattle.chain_run.proofs.Proposing.{behind_gave}
use Rattle.chain_run.proofs.taking.takes.Goals as goal

pub returns-clause-leader : goal.returns-clause-leader
returns-clause-leader c =
    let machine = folded c.args.parts c.args.items.now in
    let held = c.args.leader.now in
    let seat = c.args.seat in
    let said = c.in_ok-said.ensures in
    let from = c.part_from.ensures in
    c.in_ok-propose.ensures
    ∙ behind_gave (leader_of held) _ _ (taken c.args.ids c.args.parts seat.part seat.term machine (leads held.lead) c.args.body.now (part_from c.args.from.now)) _ _
    (c.taken-proposal.ensures.leading machine ∙ (λ i. (taken c.args.ids c.args.parts seat.part seat.term machine (leads held.lead) (said i) (from i)).leading))
    (c.taken-proposal.ensures.proposed machine ∙ (λ i. (taken c.args.ids c.args.parts seat.part seat.term machine (leads held.lead) (said i) (from i)).proposals))
    c.kept_sender.ensures

pub returns-clause-letters : goal.returns-clause-letters
returns-clause-letters c =
    let machine = folded c.args.parts c.args.items.now in
    let held = c.args.leader.now in
    let seat = c.args.seat in
    let said = c.in_ok-said.ensures in
    let from = c.part_from.ensures in
    c.new.ensures ∙ sym (c.taken-proposal.ensures.silent machine) ∙ (λ i. (taken c.args.ids c.args.parts seat.part seat.term machine (leads held.lead) (said i) (from i)).letters)

pub returns-then-is_resume-clause-leader : goal.returns-then-is_resume-clause-leader
returns-then-is_resume-clause-leader c =
    let machine = folded c.args.parts c.args.items.now in
    let held = c.args.leader.now in
    let from = c.args.from.now in
    let seat = c.args.seat in
    let is = sym c.in-Resume.is in
    on_ok_weaker c.resumes.result
    (λ done. done ∙ (λ i. behind_taking (leader_of held) (taken c.args.ids c.args.parts seat.part seat.term machine (leads held.lead) (is i) (part_from from)) (kept_sender from (is i))))
    (c.resumes.ensures.leader c.args.ids seat.part (part_from from))

pub returns-then-is_resume-clause-letters : goal.returns-then-is_resume-clause-letters
returns-then-is_resume-clause-letters c =
    let machine = folded c.args.parts c.args.items.now in
    let held = c.args.leader.now in
    let from = c.args.from.now in
    let seat = c.args.seat in
    let is = sym c.in-Resume.is in
    IfOk-weaker c.resumes.result _ _
    (λ letters done. done ∙ (λ i. (taken c.args.ids c.args.parts seat.part seat.term machine (leads held.lead) (is i) (part_from from)).letters))
    (c.resumes.ensures.letters c.args.ids seat.part (part_from from))
