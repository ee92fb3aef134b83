use Rattle.std.proofs.Common.{◌≤◌, ◌++◌, ◌∷◌, [], ℤ, List, filter, ap, sym, subst, ◌∙◌, arith}
use Rattle.graph_model.specs.Types.{AreTypes}
use Rattle.schema_book.specs.Exprs.{is_over}
use Rattle.schema_book.proofs.OverLemmas.{numbers, one_more_number, are_types}
use Rattle.schema_book.proofs.exprs.types_of.Goals as goal

pub loop-place-preserved : goal.loop-place-preserved
loop-place-preserved c =
    let p = is_over c.args.types.now c.args.over.now in
    c.in_ok-push_number.ensures ∙ ap (λ xs. xs ++ numbers (filter p (c.loop-place.place ∷ []))) c.loop-place.invariant ∙ one_more_number p c.loop-place.place

pub from_slice-requires : goal.from_slice-requires
from_slice-requires c =
    let few : c.loop-place.place ≤ 64 = let s = c.len-place-end.ensures.sound.few in omega (arith, c.len-place-end.ensures.len) in
    subst (λ (xs : List ℤ). AreTypes xs) (sym (c.as_slice.ensures.value ∙ c.loop-place.invariant)) (are_types (is_over c.args.types.now c.args.over.now) c.loop-place.place few)
