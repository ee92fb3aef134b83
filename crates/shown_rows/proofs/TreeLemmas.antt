-- The steps of a condition put its answer.
use Rattle.std.proofs.Common.{◌≡◌, refl, ap, ◌∙◌, Bool, List, [], ◌∷◌, ◌++◌}
use Rattle.std.specs.List.{fold}
use Rattle.std.proofs.lemmas.List.Sums.{fold-append}
use Rattle.graph_model.specs.declared.found.Found.{Found}
use Rattle.schema_book.specs.declared.bound.Step.TheVariants.{Not, And, Or}
use Rattle.schema_book.specs.Entries.{Entries}
use Rattle.shown_rows.specs.Conditions.{Condition, test, not_one, both_of, one_of, is_so, steps_of, stepped, holds, last_of}

pub put_answer : (edges : Entries) (found : Found) (c : Condition) (answers : List Bool)
    → fold (stepped edges found) answers (steps_of c) ≡ is_so edges found c ∷ answers
put_answer edges found (test e rel value) answers = refl
put_answer edges found (not_one a) answers =
    fold-append (stepped edges found) answers (steps_of a) (Not ∷ [])
    ∙ ap (λ left. fold (stepped edges found) left (Not ∷ [])) (put_answer edges found a answers)
put_answer edges found (both_of a b) answers =
    fold-append (stepped edges found) answers (steps_of a) (steps_of b ++ And ∷ [])
    ∙ ap (λ left. fold (stepped edges found) left (steps_of b ++ And ∷ [])) (put_answer edges found a answers)
    ∙ fold-append (stepped edges found) (is_so edges found a ∷ answers) (steps_of b) (And ∷ [])
    ∙ ap (λ left. fold (stepped edges found) left (And ∷ [])) (put_answer edges found b (is_so edges found a ∷ answers))
put_answer edges found (one_of a b) answers =
    fold-append (stepped edges found) answers (steps_of a) (steps_of b ++ Or ∷ [])
    ∙ ap (λ left. fold (stepped edges found) left (steps_of b ++ Or ∷ [])) (put_answer edges found a answers)
    ∙ fold-append (stepped edges found) (is_so edges found a ∷ answers) (steps_of b) (Or ∷ [])
    ∙ ap (λ left. fold (stepped edges found) left (Or ∷ [])) (put_answer edges found b (is_so edges found a ∷ answers))

pub leaves_answer : (edges : Entries) (found : Found) (c : Condition) → holds edges found (steps_of c) ≡ is_so edges found c
leaves_answer edges found c = ap last_of (put_answer edges found c [])
