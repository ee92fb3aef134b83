-- One edge more of a list that is gone through.
use Rattle.std.proofs.Common.{◌≡◌, ℕ, ◌+◌, ◌<◌, ◌≤◌, List, [], ◌∷◌, ◌++◌, length, get_or, drop, suc, drop-cons, filter, Bool, true, false, cond, ap, sym, ◌∙◌, append_assoc, add-one, arith}
use Rattle.std.specs.Prelude.{nat_le, ◌&&◌}
use Rattle.std.proofs.lemmas.Bool.{false_from_ne_true, leb-true, le-leb}
use Rattle.std.proofs.lemmas.List.{append-nil}
use Rattle.graph_model.specs.declared.edge_id.EdgeId.{EdgeId}
use Rattle.kv_part.specs.Store.{Contents}
use Rattle.part_keys.specs.Keys.{FitsKey}
use Rattle.part_keys.specs.declared.key.Key.TheVariants.{InEdge}
use Rattle.part_rules.specs.Part.{Part, number_of, all_written}
use Rattle.part_store.specs.Keeps.{Keeps}
use Rattle.part_store.specs.Reads.{number_in_store}
use Rattle.part_store.specs.declared.setting.Setting.{Setting}
use Rattle.part_store.proofs.Reading.{number_is}

-- what is left is the element and what is left behind it
pub next_of : {A : Type 0} (xs : List A) (i : ℕ) (x : A) → i < length xs → x ≡ get_or xs i x → drop i xs ≡ x ∷ drop (i + 1) xs
next_of xs i x lt is = rw add-one (drop-cons xs i x lt ∙ ap (λ y. y ∷ drop (suc i) xs) (sym is))

more_by : {A : Type 0} (made rest : List A) (x : A) (w : Bool) → (made ++ cond w (x ∷ []) []) ++ rest ≡ made ++ cond w (x ∷ rest) rest
more_by made rest x true = append_assoc made (x ∷ []) rest
more_by made rest x false = ap (λ a. a ++ rest) (append-nil made)

-- a list of those that pass, grown by the next one where it passes
pub grown_by : {A : Type 0} (t : A → Bool) (made now left rest whole : List A) (x : A) (w : Bool) → left ≡ x ∷ rest → w ≡ t x → now ≡ made ++ cond w (x ∷ []) [] → made ++ filter t left ≡ whole → now ++ filter t rest ≡ whole
grown_by t made now left rest whole x w is passes grown before =
    ap (λ a. a ++ filter t rest) grown ∙ more_by made (filter t rest) x w ∙ ap (λ b. made ++ cond b (x ∷ filter t rest) (filter t rest)) passes ∙ ap (λ l. made ++ filter t l) (sym is) ∙ before

module _ (s : Setting) (p : Part) (m : Contents) (keeps : Keeps s p m) (v : ℕ) where
  -- an in-half with a lower number, and one that is written
  pub stop_written : (e : EdgeId) (left rest edges : List EdgeId) (n : ℕ) → left ≡ e ∷ rest → n ≡ number_in_store s m e → n < v → FitsKey s.ids (InEdge s.part e) → all_written p v left ≡ all_written p v edges → false ≡ all_written p v edges
  stop_written e left rest edges n is number lower fits before =
      let here : number_of p e ≡ n = sym (number_is s p m keeps e fits) ∙ sym number in
      let not_yet : nat_le v (number_of p e) ≡ false = false_from_ne_true (nat_le v (number_of p e)) (λ t. let le = leb-true v (number_of p e) t in omega (arith, le, here, lower)) in
      sym (ap (λ b. b && all_written p v rest) not_yet) ∙ sym (ap (all_written p v) is) ∙ before

  pub go_written : (e : EdgeId) (left rest edges : List EdgeId) (n : ℕ) → left ≡ e ∷ rest → n ≡ number_in_store s m e → v ≤ n → FitsKey s.ids (InEdge s.part e) → all_written p v left ≡ all_written p v edges → all_written p v rest ≡ all_written p v edges
  go_written e left rest edges n is number above fits before =
      let here : number_of p e ≡ n = sym (number_is s p m keeps e fits) ∙ sym number in
      let written : nat_le v (number_of p e) ≡ true = le-leb v (number_of p e) (omega (arith, here, above)) in
      sym (ap (λ b. b && all_written p v rest) written) ∙ sym (ap (all_written p v) is) ∙ before
