-- What an entry leaves at one edge: its out-half, its in-half with the kept number, and the guards.
use Rattle.std.proofs.Common.{◌≡◌, inl, inr, ℕ, ◌≤◌, ◌<◌, List, [], ◌∷◌, map, filter, Option, None, Some, Bool, true, false, cond, refl, ap, sym, ◌∙◌}
use Rattle.std.specs.Prelude.{nat_lt}
use Rattle.std.specs.Ordering.{eq_by_cmp}
use Rattle.std.specs.FinMap.{FinMap, get}
use Rattle.std.specs.Map.{keys_of}
use Rattle.std.specs.Option.{option_map, option_or, unwrap_or}
use Rattle.std.proofs.lemmas.Bool.{cases_Bool, lt-ltb, le-ltb}
use Rattle.graph_model.specs.Keys.{edge_cmp, in_cmp, in_key, edge_of}
use Rattle.graph_model.specs.Contents.{row_of}
use Rattle.graph_model.specs.declared.val.Val.{Val}
use Rattle.graph_model.specs.declared.half.Half.{Half}
use Rattle.graph_model.specs.declared.half.Half.TheVariants.{Absent}
use Rattle.graph_model.specs.declared.edge_id.EdgeId.{EdgeId}
use Rattle.graph_model.proofs.KeyLemmas.{edges_total, edges_exact, ins_total, ins_exact}
use Rattle.maps.specs.Keys.{IsKeyOrder, has_key}
use Rattle.maps.specs.Lists.{at_key}
use Rattle.maps.proofs.Keys.{same_is, same_itself}
use Rattle.maps.proofs.Pairs.{at_key-map, at_key-where, at_key_out}
use Rattle.maps.proofs.Writing.{get-put_all, get-with_all}
pub use Rattle.part_rules.specs.FoldLaws.{by}
use Rattle.part_rules.specs.Part.{Part, number_of, is_fresh}
use Rattle.part_rules.specs.Machine.{out_written, in_halves, in_written, mark}

pub edge_keys : IsKeyOrder edge_cmp
edge_keys = record { total = edges_total; exact = edges_exact }

pub in_keys : IsKeyOrder in_cmp
in_keys = record { total = ins_total; exact = ins_exact }

-- edges with the same key of the in-half are the same
pub in_key_same : (a b : EdgeId) → in_key a ≡ in_key b → a ≡ b
in_key_same a b e = ap edge_of e

-- the keys of two edges tie where the edges do
pub in_key_ties : (a b : EdgeId) → eq_by_cmp in_cmp (in_key a) (in_key b) ≡ eq_by_cmp edge_cmp a b
in_key_ties a b = elim (cases_Bool (eq_by_cmp edge_cmp a b)) as (λ _. eq_by_cmp in_cmp (in_key a) (in_key b) ≡ eq_by_cmp edge_cmp a b) [
  | inl same ↦ ap (λ x. eq_by_cmp in_cmp (in_key a) (in_key x)) (sym (same_is edge_keys a b same)) ∙ same_itself in_keys (in_key a) ∙ sym same
  | inr apart ↦ elim (cases_Bool (eq_by_cmp in_cmp (in_key a) (in_key b))) as (λ _. eq_by_cmp in_cmp (in_key a) (in_key b) ≡ eq_by_cmp edge_cmp a b) [
    | inl tied ↦ let e = ap (λ x. eq_by_cmp edge_cmp a x) (in_key_same a b (same_is in_keys _ _ tied)) in absurd (let t = same_itself edge_keys a in cc)
    | inr untied ↦ untied ∙ sym apart
  ]
]

-- what the list has for the edge's out-half is written
pub out_at : (out : FinMap edge_cmp (List Val)) (list : List (EdgeId × Half)) (e : EdgeId) → get (out_written out list) e ≡ unwrap_or (option_map row_of (at_key edge_cmp e list)) (get out e)
out_at out list e = get-with_all edge_keys out (map (λ x. (x.0, row_of x.1)) list) e ∙ ap (λ w. unwrap_or w (get out e)) (at_key-map edge_cmp (λ k x. row_of x) (same_is edge_keys) e list)

mapped : (v : ℕ) (b : Bool) (h : Half) (w : Option Half) → cond b (Some (by v h)) (option_map (by v) w) ≡ option_map (by v) (cond b (Some h) w)
mapped v true h w = refl
mapped v false h w = refl

-- what a chain's list has at the key of an in-half
pub in_halves_at : (v : ℕ) (list : List (EdgeId × Half)) (e : EdgeId) → at_key in_cmp (in_key e) (in_halves v list) ≡ option_map (by v) (at_key edge_cmp e list)
in_halves_at v [] e = refl
in_halves_at v (x ∷ list) e =
    ap (λ b. cond b (Some (by v x.1)) (at_key in_cmp (in_key e) (in_halves v list))) (in_key_ties e x.0)
    ∙ ap (cond (eq_by_cmp edge_cmp e x.0) (Some (by v x.1))) (in_halves_at v list e)
    ∙ mapped v (eq_by_cmp edge_cmp e x.0) x.1 (at_key edge_cmp e list)

module _ (p : Part) (v : ℕ) (list : List (EdgeId × Half)) where
  -- behind a chain's Remote: the list's half where the kept number is below v, else what was there
  pub in_at : (e : EdgeId) → get (in_written p v list) (in_key e) ≡ option_or (option_map (by v) (cond (nat_lt (number_of p e) v) (at_key edge_cmp e list) None)) (get p.inn (in_key e))
  in_at e =
      get-put_all in_keys p.inn (in_halves v (filter (is_fresh p v) list)) (in_key e)
      ∙ ap (λ w. option_or w (get p.inn (in_key e))) (in_halves_at v (filter (is_fresh p v) list) e ∙ ap (option_map (by v)) (at_key-where edge_keys (λ k. nat_lt (number_of p k) v) e list))

  -- an edge of the list with a lower number is written
  pub in_fresh : (e : EdgeId) (h : Half) → at_key edge_cmp e list ≡ Some h → number_of p e < v → get (in_written p v list) (in_key e) ≡ Some (by v h)
  in_fresh e h there below = in_at e ∙ ap (λ b. option_or (option_map (by v) (cond b (at_key edge_cmp e list) None)) (get p.inn (in_key e))) (lt-ltb (number_of p e) v below) ∙ ap (λ w. option_or (option_map (by v) w) (get p.inn (in_key e))) there

  -- an edge with this number or a greater one is left
  pub in_kept : (e : EdgeId) → v ≤ number_of p e → get (in_written p v list) (in_key e) ≡ get p.inn (in_key e)
  in_kept e above = in_at e ∙ ap (λ b. option_or (option_map (by v) (cond b (at_key edge_cmp e list) None)) (get p.inn (in_key e))) (le-ltb (number_of p e) v above)

  -- an edge that isn't in the list is left
  pub in_other : (e : EdgeId) → has_key edge_cmp e (keys_of list) ≡ false → get (in_written p v list) (in_key e) ≡ get p.inn (in_key e)
  in_other e out = in_at e ∙ ap (λ w. option_or (option_map (by v) (cond (nat_lt (number_of p e) v) w None)) (get p.inn (in_key e))) (at_key_out edge_cmp e list out) ∙ none_there (nat_lt (number_of p e) v)
    where
      none_there : (b : Bool) → option_or (option_map (by v) (cond b None None)) (get p.inn (in_key e)) ≡ get p.inn (in_key e)
      none_there true = refl
      none_there false = refl

  -- an edge that is removed gets the chain's marker, or is left
  pub in_marked : (e : EdgeId) → at_key edge_cmp e list ≡ Some Absent → get (in_written p v list) (in_key e) ≡ option_or (mark (number_of p e) v) (get p.inn (in_key e))
  in_marked e gone = in_at e ∙ ap (λ w. option_or (option_map (by v) (cond (nat_lt (number_of p e) v) w None)) (get p.inn (in_key e))) gone ∙ marked (nat_lt (number_of p e) v)
    where
      marked : (b : Bool) → option_or (option_map (by v) (cond b (Some Absent) None)) (get p.inn (in_key e)) ≡ option_or (cond b (Some (by v Absent)) None) (get p.inn (in_key e))
      marked true = refl
      marked false = refl
