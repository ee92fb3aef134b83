use Rattle.std.proofs.Common.{◌≡◌, [], ◌∷◌, ◌++◌, false, refl, ap, sym, ◌∙◌}
use Rattle.std.specs.Prelude.{◌==◌}
use Rattle.std.specs.FinMap.{insert}
use Rattle.std.proofs.lemmas.Bool.{ne_eqb, eqb-true}
use Rattle.std.proofs.lemmas.List.{nil_from_length}
use Rattle.std.proofs.lemmas.Result.{on_ok_weaker}
use Rattle.part_keys.specs.declared.proposal.Proposal.TheVariants.{Members}
use Rattle.raft_log.specs.declared.config.Config.{Config}
use Rattle.chain_run.specs.declared.leaders.Seated.{Seated}
use Rattle.chain_run.specs.Shows.{list_in, leader_of, seat}
use Rattle.chain_run.proofs.Seating.{founded, named}
use Rattle.chain_run.proofs.chains.Chains.propose_members.Goals as goal

pub returns-then-term-eq0 : goal.returns-then-term-eq0
returns-then-term-eq0 c = λ ids.
    let none : list_in c.args.self.now.founded c.args.part ≡ [] = sym c.list_of.ensures ∙ nil_from_length c.list_of.result.now (eqb-true _ _ (sym c.is_empty.ensures ∙ c.if-not-is_empty.false)) in
    on_ok_weaker c.push_to.result
    (λ put. founded ids c.args.parts c.args.self.now _ c.args.part c.args.term (sym c.is_part.ensures ∙ c.if-not-is_part.false) c.args.config.now c.copy.result c.if-term-eq0.true none c.copy.ensures refl refl refl refl refl put)
    c.push_to.ensures

pub returns : goal.returns
returns c = λ ids.
    let held = c.args.self.now in
    let p = c.args.part in
    let t = c.args.term in
    let l = c.in-Some.leader in
    let above : (t == 0) ≡ false = ne_eqb t 0 c.if-term-eq0.false in
    let seated : Seated = record { lead = l.lead; applied = l.applied; made = c.push.new.self; senders = l.senders } in
    let made = c.in_ok-push.ensures.ok ∙ ap (λ (config : Config). l.made ++ Members config ∷ []) c.copy-2.ensures in
    on_ok_weaker c.put.result
    (λ put. named ids c.args.parts held _ p t l seated (sym c.is_part.ensures ∙ c.if-not-is_part.false) (sym c.in-Some.ensures.leader) c.args.config.now above
    (λ i. record (leader_of l) { made = made i }) refl refl refl refl refl (put ∙ ap (λ m. insert m (seat p t) seated) c.remove.ensures.others))
    c.put.ensures
