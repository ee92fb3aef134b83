use Rattle.std.proofs.Common.{map, take, refl, ap, sym, ◌∙◌}
use Rattle.std.specs.Prelude.{nat_lt}
use Rattle.std.specs.FinMap.{entries}
use Rattle.std.specs.List.{filter}
use Rattle.part_fold.specs.Standing.{rec_of, is_behind}
use Rattle.part_rules.specs.Part.{Part}
use Rattle.part_rules.specs.Folded.{folded}
use Rattle.chain_leader.specs.Leader.{leads}
use Rattle.chain_leader.specs.Leading.{taken}
use Rattle.chain_leader.specs.declared.body.ChainBody.TheVariants as says
use Rattle.chain_run.specs.Shows.{leader_of}
use Rattle.chain_run.proofs.Proposing.{behind_gave}
use Rattle.chain_run.proofs.Takes.{resume_proposes, are_standing}
use Rattle.chain_run.proofs.taking.resumes.Goals as goal

pub returns-clause-leader : goal.returns-clause-leader
returns-clause-leader c = λ ids part from.
    let held = c.args.leader.now in
    let parts = c.args.parts in
    let items = c.args.items.now in
    let behind = c.args.behind in
    let chains = c.chains.result.now in
    let are = are_standing parts items behind chains c.in_ok-all.all c.front-standing.result.now (nat_lt 64 c.len.result) (c.chains.ensures ∙ ap (λ (m : Part). m.chains) c.in_ok-machine.ensures)
    (c.in_ok-all.ensures ∙ ap (λ after. map rec_of (filter (is_behind after) (entries chains))) c.unwrap_or.ensures) (c.front-standing.ensures ∙ ap (take 64) c.as_slice.ensures) (ap (nat_lt 64) c.len.ensures) in
    c.in_ok-propose.ensures
    ∙ behind_gave (leader_of held) _ _ (taken ids parts part c.args.term (folded parts items) (leads held.lead) (says.Resume c.args.of behind) from) _ _ (c.in_ok-letters.ensures.leading ids parts part from (folded parts items) behind are) (sym (resume_proposes ids parts part c.args.term (folded parts items) (leads held.lead) c.args.of behind from)) refl

pub returns-clause-letters : goal.returns-clause-letters
returns-clause-letters c = λ ids part from.
    let parts = c.args.parts in
    let items = c.args.items.now in
    let behind = c.args.behind in
    let chains = c.chains.result.now in
    let are = are_standing parts items behind chains c.in_ok-all.all c.front-standing.result.now (nat_lt 64 c.len.result) (c.chains.ensures ∙ ap (λ (m : Part). m.chains) c.in_ok-machine.ensures)
    (c.in_ok-all.ensures ∙ ap (λ after. map rec_of (filter (is_behind after) (entries chains))) c.unwrap_or.ensures) (c.front-standing.ensures ∙ ap (take 64) c.as_slice.ensures) (ap (nat_lt 64) c.len.ensures) in
    c.in_ok-letters.ensures.sent ids parts part from (folded parts items) behind are
