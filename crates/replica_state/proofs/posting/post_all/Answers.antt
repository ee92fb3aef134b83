use Rattle.std.proofs.Common.{◌≡◌, List, [], ◌∷◌, map, length, refl, ap, ◌∙◌, arith}
use Rattle.std.specs.Vec.Iter.{into_iter_items}
use Rattle.replica_model.specs.Letters.{addressed}
use Rattle.replica_model.specs.Stepped.{leaving}
use Rattle.replica_state.specs.Leaving.{leaving_of}
use Rattle.replica_state.specs.Places.{number_held}
use Rattle.replica_state.proofs.Posted.{one_more}
use Rattle.replica_state.proofs.posting.post_all.Goals as goal

nothing_left : {X : Type 0} (l : List X) → length l ≡ 0 → l ≡ []
nothing_left [] h = refl
nothing_left (x ∷ xs) h = absurd (omega arith)

pub loop-letter-preserved : goal.loop-letter-preserved
loop-letter-preserved c =
    let at = c.loop-letter in
    let steps : into_iter_items at.letter-iterator ≡ c.in-Some.letter ∷ into_iter_items c.next.new.self = c.in-Some.ensures.steps.0 in
    let short = ap length steps in (
      let was = at.invariant.0 in let gone = c.in-Some.ensures.steps.1 in omega arith,
      one_more (addressed c.args.by.part c.args.by.me c.args.by.term (number_held c.args.hints.now.entries) c.args.sender) leaving (map leaving_of at.leaves) (map leaving_of c.post.new.leaves) c.in-Some.letter (into_iter_items c.next.new.self) (into_iter_items at.letter-iterator) steps c.in_ok-post.ensures
          ∙ at.invariant.1,
    )
