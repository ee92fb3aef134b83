use Rattle.std.proofs.Common.{◌≡◌, true, ap, sym, ◌∙◌}
use Rattle.std.specs.Prelude.{slice_get}
use Rattle.std.proofs.lemmas.Bool.{and_from, eq-eqb}
use Rattle.std.proofs.lemmas.Result.{on_ok_weaker}
use Rattle.raft_log.specs.Decided.{count_term}
use Rattle.chain_world.specs.Events.{are_at_most, with_decided}
use Rattle.chain_run.specs.Shows.{list_in, world_of}
use Rattle.chain_run.proofs.Happening.{decided_next}
use Rattle.chain_run.proofs.chains.Chains.decide.Goals as goal

pub returns : goal.returns
returns c = λ ids.
    let held = c.args.self.now in
    let p = c.args.part in
    let t = c.args.term in
    let n = c.args.number in
    let decided = list_in held.decided p in
    let most : are_at_most t decided ≡ true = ap (are_at_most t) (sym c.list_of-decided.ensures) ∙ sym c.are_at_most.ensures ∙ c.if-not-are_at_most.false in
    let count : n ≡ count_term decided t = c.if-number-count_term.false ∙ c.count_term.ensures ∙ ap (λ is. count_term is t) c.list_of-decided.ensures in
    let item = ap (λ made. slice_get made n) (sym c.made_by.ensures) ∙ sym c.in-Some.ensures in
    on_ok_weaker c.append.result
    (λ put. decided_next ids c.args.parts (world_of held) p t (sym c.is_part.ensures ∙ c.if-not-is_part.false) _ n c.in-Some.item.now (and_from _ _ most (eq-eqb n (count_term decided t) count)) item
    (put ∙ ap (with_decided c.args.parts (world_of held) p t) c.in_ok-item.ensures))
    c.append.ensures
