use Rattle.std.proofs.Common.{◌≡◌, ℕ, [], ◌∷◌, ◌++◌, ap, ◌∙◌}
use Rattle.std.specs.Prelude.{◌==◌, if◌then◌else◌}
use Rattle.std.specs.FinMap.{insert}
use Rattle.std.proofs.lemmas.Result.{on_ok_weaker}
use Rattle.chain_run.specs.Shows.{list_in}
use Rattle.chain_run.proofs.Keeping.{listed}
use Rattle.chain_run.proofs.listing.push_to.Goals as goal

pub returns : goal.returns
returns g c =
    let m = c.args.lists.now in
    let p = c.args.part in
    let list = c.push.new.self in
    let is : list ≡ list_in m p ++ c.args.item ∷ [] = c.in_ok-push.ensures.ok ∙ ap (λ l. l ++ c.args.item ∷ []) c.taken_out-list.ensures.list in
    on_ok_weaker c.put.result
    (λ put. ap list_in (put ∙ ap (λ n. insert n p list) c.taken_out-list.ensures.others) ∙ listed m p list ∙ ap (λ l (q : ℕ). if q == p then l else list_in m q) is)
    c.put.ensures
