-- The graph has the halves that the parts have, as a part writes in-halves; and their numbers.
use Rattle.std.proofs.Common.{◌≡◌, inl, inr, ℕ, ◌<◌, ◌≤◌, List, [], ◌∷◌, map, filter, Option, None, Some, Bool, true, false, cond, refl, ap, sym, ◌∙◌, eqb-true}
use Rattle.std.specs.Prelude.{◌==◌, ◌||◌}
use Rattle.std.specs.Ordering.{eq_by_cmp}
use Rattle.std.specs.FinMap.{get}
use Rattle.std.specs.List.{list_any}
use Rattle.std.specs.Option.{option_map, option_or, unwrap_or}
use Rattle.std.proofs.lemmas.Bool.{cases_Bool, lt-ltb, le-ltb, eq-eqb, or_right}
use Rattle.graph_model.specs.Keys.{edge_cmp, in_cmp, in_key}
use Rattle.graph_model.specs.declared.val.Val.{Val}
use Rattle.graph_model.specs.declared.half.Half.{Half}
use Rattle.graph_model.specs.declared.edge_id.EdgeId.{EdgeId}
use Rattle.graph_model.specs.declared.in_key.InKey.{InKey}
use Rattle.graph_model.specs.Contents.{Contents, row_of, in_written}
use Rattle.maps.specs.Lists.{at_key, put_all}
use Rattle.maps.proofs.Keys.{same_is, same_itself}
use Rattle.maps.proofs.Pairs.{at_key_in}
use Rattle.maps.proofs.Writing.{get-put_all, get-with_all}
use Rattle.part_keys.specs.Routing.{part_of}
use Rattle.part_keys.specs.declared.in_half.InHalf.{InHalf}
use Rattle.part_rules.specs.Part.{Part, number_of, number_in, is_fresh}
use Rattle.part_rules.specs.Machine as table
use Rattle.part_rules.proofs.FoldsAt.{edge_keys, in_keys, by, in_fresh, in_other}
use Rattle.chain_world.specs.Course.{has_edge}
use Rattle.chain_world.specs.Invariant.Sound.{AreHalves, row_at, kept_of}
use Rattle.chain_world.proofs.EdgesHalves.{same_tags, same_out, halves_same}
use Rattle.chain_world.proofs.EdgesSet.{set_at, set_here, set_apart, set_same}

-- a list of halves by the keys of the in-halves
abbrev far : List (EdgeId × Half) → List (InKey × Half)
far list = map (λ x. (in_key x.0, x.1)) list

mapped : {X Y : Type 0} (f : X → Y) (b : Bool) (x : X) (w : Option X) → cond b (Some (f x)) (option_map f w) ≡ option_map f (cond b (Some x) w)
mapped f true x w = refl
mapped f false x w = refl

-- what a list has at such a key, through a function of the half
through : {Y : Type 0} (f : Half → Y) (list : List (EdgeId × Half)) (q : InKey) → at_key in_cmp q (map (λ x. (in_key x.0, f x.1)) list) ≡ option_map f (at_key in_cmp q (far list))
through f [] q = refl
through f (x ∷ list) q = ap (cond (eq_by_cmp in_cmp q (in_key x.0)) (Some (f x.1))) (through f list q) ∙ mapped f (eq_by_cmp in_cmp q (in_key x.0)) x.1 (at_key in_cmp q (far list))

-- the edge of such a key that is in the list
record IsFar (list : List (EdgeId × Half)) (q : InKey) : Type 0 where
  edge : EdgeId
  is : q ≡ in_key edge
  on : has_edge list edge ≡ true

far_of : (list : List (EdgeId × Half)) (q : InKey) (h : Half) → at_key in_cmp q (far list) ≡ Some h → IsFar list q
far_of [] q h e = cc
far_of (x ∷ list) q h e = elim (eq_by_cmp in_cmp q (in_key x.0)) as (λ b. eq_by_cmp in_cmp q (in_key x.0) ≡ b → cond b (Some x.1) (at_key in_cmp q (far list)) ≡ Some h → IsFar (x ∷ list) q) [
  | true ↦ λ tied k. record { edge = x.0; is = same_is in_keys q (in_key x.0) tied; on = ap (λ b. b || has_edge list x.0) (same_itself edge_keys x.0) }
  | false ↦ λ apart k. let f = far_of list q h k in record { edge = f.edge; is = f.is; on = or_right (eq_by_cmp edge_cmp f.edge x.0) (has_edge list f.edge) f.on }
] refl e

module _ (m : Part) (v : ℕ) where
  -- a list of which each edge has a lower number is fresh as a whole
  pub all_fresh : (list : List (EdgeId × Half)) → ((e : EdgeId) → has_edge list e ≡ true → number_of m e < v) → filter (is_fresh m v) list ≡ list
  all_fresh [] low = refl
  all_fresh (x ∷ list) low =
      ap (λ b. cond b (x ∷ filter (is_fresh m v) list) (filter (is_fresh m v) list)) (lt-ltb (number_of m x.0) v (low x.0 (ap (λ b. b || has_edge list x.0) (same_itself edge_keys x.0))))
      ∙ ap (λ l. x ∷ l) (all_fresh list (λ e on. low e (or_right (eq_by_cmp edge_cmp e x.0) (has_edge list e) on)))

  -- where each edge has this number or a greater one, nothing is fresh
  pub none_fresh : (list : List (EdgeId × Half)) → ((e : EdgeId) → has_edge list e ≡ true → v ≤ number_of m e) → filter (is_fresh m v) list ≡ []
  none_fresh [] high = refl
  none_fresh (x ∷ list) high =
      ap (λ b. cond b (x ∷ filter (is_fresh m v) list) (filter (is_fresh m v) list)) (le-ltb (number_of m x.0) v (high x.0 (ap (λ b. b || has_edge list x.0) (same_itself edge_keys x.0))))
      ∙ none_fresh list (λ e on. high e (or_right (eq_by_cmp edge_cmp e x.0) (has_edge list e) on))

  -- so it writes nothing; and of a fresh list that isn't empty it writes something
  pub writes_none : (list : List (EdgeId × Half)) → ((e : EdgeId) → has_edge list e ≡ true → v ≤ number_of m e) → list_any (is_fresh m v) list ≡ false
  writes_none [] high = refl
  writes_none (x ∷ list) high =
      ap (λ b. b || list_any (is_fresh m v) list) (le-ltb (number_of m x.0) v (high x.0 (ap (λ b. b || has_edge list x.0) (same_itself edge_keys x.0))))
      ∙ writes_none list (λ e on. high e (or_right (eq_by_cmp edge_cmp e x.0) (has_edge list e) on))

  pub writes_one : (list : List (EdgeId × Half)) → (list ≡ [] → ⊥) → ((e : EdgeId) → has_edge list e ≡ true → number_of m e < v) → list_any (is_fresh m v) list ≡ true
  writes_one [] some low = absurd (some refl)
  writes_one (x ∷ list) some low = ap (λ b. b || list_any (is_fresh m v) list) (lt-ltb (number_of m x.0) v (low x.0 (ap (λ b. b || has_edge list x.0) (same_itself edge_keys x.0))))

module _ (parts : ℕ) (machine : ℕ → Part) (p : ℕ) (x : Part) (v : ℕ) (list : List (EdgeId × Half)) where
  -- the numbers behind a list that is written: v on the list, as before off it
  pub kept_on : (e : EdgeId) → has_edge list e ≡ true → part_of parts e.dst ≡ p → number_of (machine p) e < v → x.inn ≡ table.in_written (machine p) v list → kept_of parts (set_at machine p x) e ≡ v
  kept_on e on home low written =
      let h = at_key_in edge_cmp e list on in
      ap (λ s. number_of s e) (set_here machine p x _ home) ∙ ap (λ i. number_in (get i (in_key e))) written ∙ ap number_in (in_fresh (machine p) v list e h.0 h.1 low)

  pub kept_off : (e : EdgeId) → has_edge list e ≡ false → x.inn ≡ table.in_written (machine p) v list → kept_of parts (set_at machine p x) e ≡ kept_of parts machine e
  kept_off e off written = set_same machine p x (λ s. number_of s e) (ap (λ i. number_in (get i (in_key e))) written ∙ ap number_in (in_other (machine p) v list e off)) (part_of parts e.dst)

  -- a part whose numbers stay
  pub kept_same : x.inn ≡ (machine p).inn → (e : EdgeId) → kept_of parts (set_at machine p x) e ≡ kept_of parts machine e
  kept_same i e = set_same machine p x (λ s. number_of s e) (ap (λ n. number_in (get n (in_key e))) i) (part_of parts e.dst)

  -- nothing is written where each edge has this number or a greater one
  pub left : ((e : EdgeId) → has_edge list e ≡ true → v ≤ number_of (machine p) e) → x.inn ≡ table.in_written (machine p) v list → x.inn ≡ (machine p).inn
  left high written = written ∙ ap (λ l. put_all (machine p).inn (table.in_halves v l)) (none_fresh (machine p) v list high)

  module _ (c : Contents) (are : AreHalves parts machine c) where
    pub halves_left : x.tags ≡ (machine p).tags → x.out ≡ (machine p).out → x.inn ≡ table.in_written (machine p) v list → ((e : EdgeId) → has_edge list e ≡ true → v ≤ number_of (machine p) e) → AreHalves parts (set_at machine p x) c
    halves_left t o i high = halves_same parts machine p x c are t o (left high i)

    -- a part that writes the in-halves of a list of its edges, all of them
    module _ (routed : (e : EdgeId) → has_edge list e ≡ true → part_of parts e.dst ≡ p) (low : (e : EdgeId) → has_edge list e ≡ true → number_of (machine p) e < v) where
      both_write : (a : Option Half) (g : Option (List Val)) (i : Option InHalf) → g ≡ row_at i → unwrap_or (option_map row_of a) g ≡ row_at (option_or (option_map (by v) a) i)
      both_write None g i e = e
      both_write (Some h) g i e = refl

      graph_in : (q : InKey) → get (in_written c list).inn q ≡ unwrap_or (option_map row_of (at_key in_cmp q (far list))) (get c.inn q)
      graph_in q = get-with_all in_keys c.inn (map (λ y. (in_key y.0, row_of y.1)) list) q ∙ ap (λ w. unwrap_or w (get c.inn q)) (through row_of list q)

      part_in : (q : InKey) → get (table.in_written (machine p) v list) q ≡ option_or (option_map (by v) (at_key in_cmp q (far list))) (get (machine p).inn q)
      part_in q = ap (λ l. get (put_all (machine p).inn (table.in_halves v l)) q) (all_fresh (machine p) v list low)
          ∙ get-put_all in_keys (machine p).inn (table.in_halves v list) q ∙ ap (λ w. option_or w (get (machine p).inn q)) (through (by v) list q)

      none_far : (q : InKey) → (part_of parts q.dst == p) ≡ false → (a : Option Half) → at_key in_cmp q (far list) ≡ a → a ≡ None
      none_far q apart None e = refl
      none_far q apart (Some h) e = let f = far_of list q h e in let s = eq-eqb (part_of parts q.dst) p (ap (λ k. part_of parts k.dst) f.is ∙ routed f.edge f.on) in cc

      in_here : x.inn ≡ table.in_written (machine p) v list → (q : InKey) → get (in_written c list).inn q ≡ row_at (get (set_at machine p x (part_of parts q.dst)).inn q)
      in_here h q = graph_in q ∙ elim (cases_Bool (part_of parts q.dst == p)) [
        | inl here ↦
            (let same = eqb-true (part_of parts q.dst) p here in
            both_write (at_key in_cmp q (far list)) (get c.inn q) (get (machine p).inn q) (are.inn q ∙ ap (λ i. row_at (get (machine i).inn q)) same)
            ∙ sym (ap row_at (part_in q)) ∙ ap (λ i. row_at (get i q)) (sym h) ∙ ap (λ (s : Part). row_at (get s.inn q)) (sym (set_here machine p x _ same)))
        | inr apart ↦
            ap (λ w. unwrap_or (option_map row_of w) (get c.inn q)) (none_far q apart _ refl) ∙ are.inn q
            ∙ ap (λ (s : Part). row_at (get s.inn q)) (sym (set_apart machine p x _ apart))
      ]

      pub halves_in : x.tags ≡ (machine p).tags → x.out ≡ (machine p).out → x.inn ≡ table.in_written (machine p) v list → AreHalves parts (set_at machine p x) (in_written c list)
      halves_in t o i = record { tags = same_tags parts machine p x c are t; out = same_out parts machine p x c are o; inn = in_here i }
