-- Plans that a call may make.
use Rattle.std.proofs.Common.{◌≡◌, ◌≢◌, inl, inr, ℕ, ◌≤◌, Bool, true, false, List, [], Result, Ok, Err, IfOk, ◌∷◌, sym, subst, ◌∙◌, arith}
use Rattle.std.specs.Prelude.{nat_lt, IsTrue, ◌↔◌, OnErr}
use Rattle.std.proofs.lemmas.Bool.{cases_Bool, ltb-true}
use Rattle.graph_model.specs.Edges.{are_edges, edges_in}
use Rattle.graph_model.specs.declared.edge_id.EdgeId.{EdgeId}
use Rattle.graph_model.specs.declared.half.Half.{Half}
use Rattle.part_machine.specs.declared.plan.Plan.{Plan}

-- what holds of the plan that is made holds of what was answered, with what else is known then
pub ok_is : {E : Type 0} (P : Plan → Type 0) (x : Plan) (F : Type 0) (r : Result Plan E) → IfOk r (λ plan. plan ≡ x) → IfOk r (λ plan. F) → (F → P x) → IfOk r P
ok_is P x F (Ok plan) made known holds = subst P (sym made) (holds known)
ok_is P x F (Err e) made known holds = tt

-- tests of numbers, and of lists
pub not_below : (a b : ℕ) → b ≤ a → nat_lt a b ≡ false
not_below a b le = elim (cases_Bool (nat_lt a b)) [
  | inl t ↦ (let l = ltb-true a b t in absurd (omega arith))
  | inr f ↦ f
]

pub some_left : {A : Type 0} (xs : List A) (b : Bool) → IsTrue b ↔ (xs ≡ []) → b ≡ false → xs ≢ []
some_left xs b told off none = let t = sym (told.1 none) ∙ off in absurd cc

pub none_left : {A : Type 0} (xs : List A) (b : Bool) → IsTrue b ↔ (xs ≡ []) → b ≡ true → xs ≡ []
none_left xs b told on = told.0 on

-- a list that keeps the rule of edges isn't empty
pub not_empty : (list : List (EdgeId × Half)) → are_edges (edges_in list) ≡ true → list ≢ []
not_empty [] are none = cc
not_empty (x ∷ list) are none = cc

-- what holds of the plan that is made holds of what was answered
pub ok_just : {E : Type 0} (P : Plan → Type 0) (x : Plan) (r : Result Plan E) → IfOk r (λ plan. plan ≡ x) → P x → IfOk r P
ok_just P x (Ok plan) made holds = subst P (sym made) holds
ok_just P x (Err e) made holds = tt

-- what holds in any case holds of a refusal
pub on_err : {T E : Type 0} (r : Result T E) (X : Type 0) → X → OnErr r X
on_err (Ok x) X holds = tt
on_err (Err e) X holds = holds
