-- Whether a condition holds of an edge that was found.
use Rattle.std.specs.Prelude.{Bool, false, not, ◌&&◌, ◌||◌, List, [], ◌∷◌, ◌++◌, None}
use Rattle.std.specs.List.{fold}
use Rattle.graph_model.specs.declared.found.Found.{Found}
use Rattle.graph_model.specs.declared.val.Val.{Val}
use Rattle.ngql_syntax.specs.declared.cond.Rel.{Rel}
use Rattle.schema_book.specs.declared.bound.Expr.{Expr}
use Rattle.schema_book.specs.declared.bound.Step.{Step}
use Rattle.schema_book.specs.declared.bound.Step.TheVariants.{Test, Not, And, Or}
use Rattle.schema_book.specs.Entries.{Entries}
use Rattle.shown_rows.specs.Comparisons.{meets}
use Rattle.shown_rows.specs.Values.{value_of}

-- a condition as it is written
pub data Condition : Type 0 where
  test : Expr → Rel → Val → Condition
  not_one : Condition → Condition
  both_of : Condition → Condition → Condition
  one_of : Condition → Condition → Condition

-- what it says of an edge: each comparison holds or it doesn't
abbrev pub is_so : Entries → Found → Condition → Bool
is_so edges found (test e rel value) = meets rel (value_of edges None found e) value
is_so edges found (not_one a) = not (is_so edges found a)
is_so edges found (both_of a b) = is_so edges found a && is_so edges found b
is_so edges found (one_of a b) = is_so edges found a || is_so edges found b

-- its steps over a stack of answers
abbrev pub steps_of : Condition → List Step
steps_of (test e rel value) = Test e rel value ∷ []
steps_of (not_one a) = steps_of a ++ Not ∷ []
steps_of (both_of a b) = steps_of a ++ (steps_of b ++ And ∷ [])
steps_of (one_of a b) = steps_of a ++ (steps_of b ++ Or ∷ [])

-- the last answer turned into the other one
abbrev pub turned : List Bool → List Bool
turned [] = []
turned (a ∷ answers) = not a ∷ answers

-- the last two answers joined into one
abbrev pub joined : (Bool → Bool → Bool) → List Bool → List Bool
joined join [] = []
joined join (b ∷ []) = []
joined join (b ∷ a ∷ answers) = join a b ∷ answers

-- what a step makes of the answers, the last first
abbrev pub stepped : Entries → Found → List Bool → Step → List Bool
stepped edges found answers (Test e rel value) = meets rel (value_of edges None found e) value ∷ answers
stepped edges found answers Not = turned answers
stepped edges found answers And = joined (λ a b. a && b) answers
stepped edges found answers Or = joined (λ a b. a || b) answers

-- the last answer
abbrev pub last_of : List Bool → Bool
last_of [] = false
last_of (a ∷ answers) = a

-- whether steps leave true
abbrev pub holds : Entries → Found → List Step → Bool
holds edges found steps = last_of (fold (stepped edges found) [] steps)
