-- The in-halves of a chain have its number or a greater one all together, or none of them.
use Rattle.std.proofs.Common.{◌≡◌, ◌⊎◌, inl, inr, ℕ, ◌<◌, ◌≤◌, List, Option, None, Some, Bool, true, false, cond, refl, ap, sym, subst, arith}
use Rattle.std.specs.Prelude.{nat_lt}
use Rattle.std.specs.Option.{option_map, option_or}
use Rattle.std.specs.FinMap.{FinMap, get}
use Rattle.std.proofs.lemmas.Bool.{ltb-true}
use Rattle.graph_model.specs.Keys.{edge_cmp, in_cmp, in_key}
use Rattle.graph_model.specs.declared.half.Half.{Half}
use Rattle.graph_model.specs.declared.edge_id.EdgeId.{EdgeId}
use Rattle.maps.specs.Keys.{has_key}
use Rattle.maps.specs.Lists.{at_key}
use Rattle.maps.proofs.Pairs.{at_key_in}
use Rattle.part_keys.specs.declared.in_half.InHalf.{InHalf}
use Rattle.part_keys.specs.declared.entry.PartEntry.{PartEntry}
use Rattle.part_rules.specs.Part.{Part, number_in, number_of}
use Rattle.part_rules.specs.Machine.{in_written, applied}
use Rattle.part_rules.specs.Laws.{AllAtLeast, AllOrNone, Suits, Own, Earlier, Elsewhere, Behind, SuitsEntry}
use Rattle.part_rules.proofs.FoldsBy.{inn_by}
use Rattle.part_rules.proofs.FoldsAt.{by, in_at, in_fresh, in_other}

-- a number behind a Remote of chain w is w, or what it was
w_or_same : (w : ℕ) (b : Bool) (o : Option Half) (g : Option InHalf) → (number_in (option_or (option_map (by w) (cond b o None)) g) ≡ w) ⊎ (number_in (option_or (option_map (by w) (cond b o None)) g) ≡ number_in g)
w_or_same w true None g = inr refl
w_or_same w true (Some h) g = inl refl
w_or_same w false o g = inr refl

-- and not lower than it was
not_lower : (w : ℕ) (b : Bool) (o : Option Half) (g : Option InHalf) → nat_lt (number_in g) w ≡ b → number_in g ≤ number_in (option_or (option_map (by w) (cond b o None)) g)
not_lower w true None g e = omega arith
not_lower w true (Some h) g e = let k = ltb-true (number_in g) w e in omega arith
not_lower w false o g e = omega arith

module _ (p : Part) (v : ℕ) (edges : List EdgeId) where
  -- what a Remote leaves
  abbrev after : ℕ → List (EdgeId × Half) → EdgeId → ℕ
  after w list e = number_in (get (in_written p w list) (in_key e))

  -- all have at least the number behind it, or none has
  abbrev Left : ℕ → List (EdgeId × Half) → Type 0
  Left w list = ((e : EdgeId) → has_key edge_cmp e edges ≡ true → v ≤ after w list e) ⊎ ((e : EdgeId) → has_key edge_cmp e edges ≡ true → after w list e < v)

  -- no number falls
  rises : (w : ℕ) (list : List (EdgeId × Half)) (e : EdgeId) → number_of p e ≤ after w list e
  rises w list e = subst (λ o. number_of p e ≤ number_in o) (sym (in_at p w list e)) (not_lower w (nat_lt (number_of p e) w) (at_key edge_cmp e list) (get p.inn (in_key e)) refl)

  -- what has at least the number keeps it
  stays_above : (w : ℕ) (list : List (EdgeId × Half)) → AllAtLeast p v edges → Left w list
  stays_above w list all = inl (λ e on. let a = all e on in let b = rises w list e in omega arith)

  -- a number is the Remote's, or what it was
  number_is : (w : ℕ) (list : List (EdgeId × Half)) (e : EdgeId) → (after w list e ≡ w) ⊎ (after w list e ≡ number_of p e)
  number_is w list e = subst (λ o. (number_in o ≡ w) ⊎ (number_in o ≡ number_of p e)) (sym (in_at p w list e)) (w_or_same w (nat_lt (number_of p e) w) (at_key edge_cmp e list) (get p.inn (in_key e)))

  -- a Remote that suits
  left_by : (w : ℕ) (list : List (EdgeId × Half)) → Suits p v edges w list → AllOrNone p v edges → Left w list
  left_by w list suits (inl all) = stays_above w list all
  left_by w list (Own same whole) (inr below) = inl (λ e on.
      let x = at_key_in edge_cmp e list (whole e on) in
      let under = below e on in
      let k : after w list e ≡ w = ap number_in (in_fresh p w list e x.0 x.1 (omega arith)) in omega arith)
  left_by w list (Earlier lower) (inr below) = inr (λ e on. let under = below e on in elim (number_is w list e) as (λ _. after w list e < v) [ inl k ↦ omega arith | inr k ↦ omega arith ])
  left_by w list (Elsewhere out) (inr below) = inr (λ e on. let under = below e on in let k : after w list e ≡ number_of p e = ap number_in (in_other p w list e (out e on)) in omega arith)
  left_by w list (Behind all) (inr below) = stays_above w list all

  -- of in-halves: all have at least the number, or none has
  abbrev Kept : FinMap in_cmp InHalf → Type 0
  Kept inn = ((e : EdgeId) → has_key edge_cmp e edges ≡ true → v ≤ number_in (get inn (in_key e))) ⊎ ((e : EdgeId) → has_key edge_cmp e edges ≡ true → number_in (get inn (in_key e)) < v)

  -- behind an entry
  pub together : (parts index : ℕ) (entry : PartEntry) → SuitsEntry p v edges entry → AllOrNone p v edges → AllOrNone (applied parts index entry p).0 v edges
  together parts index entry s h = inn_by parts index p Kept entry h (λ from term w list is fits. left_by w list (subst (SuitsEntry p v edges) is s) h)
