use Rattle.std.proofs.Common.{◌++◌, ◌∷◌, [], filter, ap, ◌∙◌}
use Rattle.schema_book.specs.Exprs.{is_over}
use Rattle.schema_book.proofs.OverLemmas.{one_more_place}
use Rattle.schema_book.proofs.exprs.over_places.Goals as goal

pub loop-place-preserved : goal.loop-place-preserved
loop-place-preserved c =
    let p = is_over c.args.types.now c.args.over.now in
    c.in_ok-push_over.ensures ∙ ap (λ xs. xs ++ filter p (c.loop-place.place ∷ [])) c.loop-place.invariant ∙ one_more_place p c.loop-place.place
