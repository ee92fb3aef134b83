use Rattle.std.proofs.Common.{◌≡◌, List, [], ◌∷◌, length, refl, sym, ap, subst, ◌∙◌, arith}
use Rattle.std.specs.Vec.Iter.{into_iter_items}
use Rattle.chain_leader.specs.Resuming.{all_taken_up}
use Rattle.chain_leader.proofs.resuming.take_up_all.Goals as goal

nothing_left : {X : Type 0} (l : List X) → length l ≡ 0 → l ≡ []
nothing_left [] h = refl
nothing_left (x ∷ xs) h = absurd (omega arith)

pub take_up-requires : goal.take_up-requires
take_up-requires c =
    let at = c.loop-row in
    let steps : into_iter_items at.row-iterator ≡ c.in-Some.row ∷ into_iter_items c.next.new.self = c.in-Some.ensures.steps.0 in
    let short = ap length steps in
    let room = at.invariant.1 in
    omega arith

pub loop-row-preserved : goal.loop-row-preserved
loop-row-preserved c =
    let at = c.loop-row in
    let steps : into_iter_items at.row-iterator ≡ c.in-Some.row ∷ into_iter_items c.next.new.self = c.in-Some.ensures.steps.0 in
    let short = ap length steps in (
      let was = at.invariant.0 in let gone = c.in-Some.ensures.steps.1 in omega arith,
      let room = at.invariant.1 in let kept = c.take_up.ensures.room in omega arith,
      ap (all_taken_up (into_iter_items c.next.new.self)) c.take_up.ensures.table ∙ ap (λ rest. all_taken_up rest at.t.0) (sym steps) ∙ at.invariant.2,
      let left = at.invariant.3 in let kept = c.take_up.ensures.room in omega arith,
    )

pub returns : goal.returns
returns c =
    let at = c.loop-row in
    let none = c.in-None.ensures.steps in
    let empty : into_iter_items at.row-iterator ≡ [] = nothing_left _ (sym at.invariant.0 ∙ none.0) in
    record {
      table = subst (λ rest. all_taken_up rest at.t.0 ≡ all_taken_up c.args.rows.items c.args.t.now.0) empty at.invariant.2;
      room = let left = at.invariant.3 in omega arith;
    }
