-- What a Prime takes stands in its list.
use Rattle.std.proofs.Common.{◌≡◌, List, [], ◌∷◌, filter, Bool, true, false, cond, not, ◌||◌, refl}
use Rattle.std.specs.FinMap.{contains_key}
use Rattle.std.specs.Map.{keys_of}
use Rattle.std.specs.Ordering.{eq_by_cmp}
use Rattle.std.proofs.lemmas.Bool.{or_right}
use Rattle.graph_model.specs.Keys.{edge_cmp}
use Rattle.graph_model.specs.declared.half.Half.{Half}
use Rattle.graph_model.specs.declared.edge_id.EdgeId.{EdgeId}
use Rattle.maps.specs.Keys.{has_key}
use Rattle.part_rules.specs.Part.{Part}
use Rattle.part_rules.specs.Machine.{taken_of}

either_true : (a b c : Bool) → (a || b) ≡ true → (b ≡ true → c ≡ true) → (a || c) ≡ true
either_true true b c h f = refl
either_true false b c h f = f h

sifted_on : (test : EdgeId × Half → Bool) (list : List (EdgeId × Half)) (e : EdgeId) → has_key edge_cmp e (keys_of (filter test list)) ≡ true → has_key edge_cmp e (keys_of list) ≡ true
sifted_on test [] e on = on
sifted_on test (x ∷ list) e on = elim (test x) as (λ b. has_key edge_cmp e (keys_of (cond b (x ∷ filter test list) (filter test list))) ≡ true → (eq_by_cmp edge_cmp e x.0 || has_key edge_cmp e (keys_of list)) ≡ true) [
  | true ↦ λ h. either_true (eq_by_cmp edge_cmp e x.0) (has_key edge_cmp e (keys_of (filter test list))) (has_key edge_cmp e (keys_of list)) h (sifted_on test list e)
  | false ↦ λ h. or_right (eq_by_cmp edge_cmp e x.0) (has_key edge_cmp e (keys_of list)) (sifted_on test list e h)
] on

-- an edge that a Prime takes stands in its list
pub taken_on : (p : Part) (list : List (EdgeId × Half)) (absent : Bool) (e : EdgeId) → has_key edge_cmp e (keys_of (taken_of p list absent)) ≡ true → has_key edge_cmp e (keys_of list) ≡ true
taken_on p list true e on = sifted_on (λ x. not (contains_key p.out x.0)) list e on
taken_on p list false e on = on
