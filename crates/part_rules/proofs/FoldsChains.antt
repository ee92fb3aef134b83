-- The chains that stand in a part: each under the index of its Prime, and at most one on an edge.
use Rattle.std.proofs.Common.{◌≡◌, ◌⊎◌, inl, inr, ℕ, suc, ◌+◌, ◌<◌, List, [], ◌∷◌, length, Option, None, Some, Bool, true, false, ◌||◌, refl, ap, sym, ◌∙◌, arith}
use Rattle.std.specs.Ordering.{nat_cmp, eq_by_cmp}
use Rattle.std.specs.FinMap.{FinMap, get, insert, remove, get-empty}
use Rattle.std.specs.Map.{keys_of}
use Rattle.std.specs.Option.{option_or}
use Rattle.std.proofs.lemmas.Option.{same_Some}
use Rattle.graph_model.specs.Keys.{edge_cmp}
use Rattle.graph_model.specs.declared.half.Half.{Half}
use Rattle.graph_model.specs.declared.call_id.CallId.{CallId}
use Rattle.graph_model.specs.declared.edge_id.EdgeId.{EdgeId}
use Rattle.maps.specs.Keys.{has_key}
use Rattle.maps.proofs.Keys.{nat_keys, same_or_apart, same_is}
use Rattle.maps.proofs.Updates.{insert_here, insert_apart, remove_here, remove_apart}
use Rattle.part_keys.specs.declared.chain.PrimeRec.{PrimeRec}
use Rattle.part_keys.specs.declared.proposal.Proposal.{Proposal}
use Rattle.part_rules.specs.Part.{Part, blank, is_on, chain_on, chain_on_any}
use Rattle.part_rules.specs.Machine.{begun_at}
use Rattle.part_rules.specs.Folded.{item_applied, folded_from}
use Rattle.part_rules.specs.FoldLaws.{OneChainAnEdge}
use Rattle.part_rules.proofs.FoldsAt.{edge_keys}
use Rattle.part_rules.proofs.FoldsBy.{chains_by}
use Rattle.part_rules.proofs.FoldsLists.{item_cases}
use Rattle.part_rules.proofs.FoldsRise.{each_fold}
use Rattle.part_rules.proofs.FoldsOn.{on_none}
use Rattle.part_rules.proofs.FoldsTaken.{taken_on}

-- all chains have numbers below an index, and at most one is on an edge
record AreAlone (index : ℕ) (chains : FinMap nat_cmp PrimeRec) : Type 0 where
  below : (v : ℕ) (c : PrimeRec) → get chains v ≡ Some c → v < index
  alone : (v w : ℕ) (c d : PrimeRec) (e : EdgeId) → get chains v ≡ Some c → get chains w ≡ Some d → is_on e c ≡ true → is_on e d ≡ true → v ≡ w

none_first : (a b : Option PrimeRec) → option_or a b ≡ None → (a ≡ None) × (b ≡ None)
none_first None b h = (refl, h)
none_first (Some c) b h = cc

-- where no chain stands on any of some edges, none stands on each
pub none_any : (p : Part) (edges : List EdgeId) → chain_on_any p edges ≡ None → (e : EdgeId) → has_key edge_cmp e edges ≡ true → chain_on p e ≡ None
none_any p [] none e on = cc
none_any p (x ∷ edges) none e on =
    let both = none_first (chain_on p x) (chain_on_any p edges) none in
    elim (eq_by_cmp edge_cmp e x) as (λ b. eq_by_cmp edge_cmp e x ≡ b → (b || has_key edge_cmp e edges) ≡ true → chain_on p e ≡ None) [
      | true ↦ λ tied t. ap (chain_on p) (same_is edge_keys e x tied) ∙ both.0
      | false ↦ λ apart t. none_any p edges both.1 e t
    ] refl on

-- the chain at a number behind an insertion: the new one, or one that stood at another number
pub split_insert : (m : FinMap nat_cmp PrimeRec) (k : ℕ) (x : PrimeRec) (v : ℕ) (c : PrimeRec) → get (insert m k x) v ≡ Some c → ((v ≡ k) × (x ≡ c)) ⊎ (get m v ≡ Some c)
split_insert m k x v c there = elim (same_or_apart nat_keys v k) [
  | inl same ↦ inl (same, same_Some x c (sym (insert_here nat_keys m k x) ∙ ap (get (insert m k x)) (sym same) ∙ there))
  | inr apart ↦ inr (sym (insert_apart nat_keys m k x v apart) ∙ there)
]

pub split_remove : (m : FinMap nat_cmp PrimeRec) (k v : ℕ) (c : PrimeRec) → get (remove m k) v ≡ Some c → get m v ≡ Some c
split_remove m k v c there = elim (same_or_apart nat_keys v k) [
  | inl same ↦ (let t : None ≡ Some c = sym (remove_here nat_keys m k) ∙ ap (get (remove m k)) (sym same) ∙ there in absurd (cc))
  | inr apart ↦ sym (remove_apart nat_keys m k v apart) ∙ there
]

module _ (parts index : ℕ) (p : Part) (are : AreAlone index p.chains) where
  stays : AreAlone (suc index) p.chains
  stays = record { below = λ v c there. let b = are.below v c there in omega arith; alone = are.alone }

  begins : (id : CallId) (list : List (EdgeId × Half)) (absent : Bool) → chain_on_any p (keys_of list) ≡ None → AreAlone (suc index) (insert p.chains index (begun_at parts p index id list absent))
  begins id list absent none = record {
    below = λ v c there. elim (split_insert p.chains index new v c there) [
      | inl here ↦ (let s = here.0 in omega arith)
      | inr old ↦ (let b = are.below v c old in omega arith)
    ];
    alone = λ v w c d e at to on up. elim (split_insert p.chains index new v c at) [
      | inl first ↦ elim (split_insert p.chains index new w d to) [
        | inl second ↦ first.0 ∙ sym second.0
        | inr old ↦ absurd (free e w d old (ap (λ x. is_on e x) first.1 ∙ on) up)
      ]
      | inr old ↦ elim (split_insert p.chains index new w d to) [
        | inl second ↦ absurd (free e v c old (ap (λ x. is_on e x) second.1 ∙ up) on)
        | inr other ↦ are.alone v w c d e old other on up
      ]
    ];
  }
    where
      new : PrimeRec
      new = begun_at parts p index id list absent

      free : (e : EdgeId) (w : ℕ) (d : PrimeRec) → get p.chains w ≡ Some d → is_on e (begun_at parts p index id list absent) ≡ true → is_on e d ≡ true → ⊥
      free e w d there on up = let off = on_none p e (none_any p (keys_of list) none e (taken_on p list absent e on)) w d there in let t : true ≡ false = sym up ∙ off in cc

  doubles : (v : ℕ) (chain : PrimeRec) → get p.chains v ≡ Some chain → AreAlone (suc index) (insert p.chains v (record chain { double = true }))
  doubles v chain there = record {
    below = λ w c at. let o = before w c at in let b = are.below w o.0 o.1 in omega arith;
    alone = λ w u c d e at to on up. let o = before w c at in let q = before u d to in are.alone w u o.0 q.0 e o.1 q.1 (ap (λ l. has_key edge_cmp e (keys_of l)) o.2 ∙ on) (ap (λ l. has_key edge_cmp e (keys_of l)) q.2 ∙ up);
  }
    where
      before : (w : ℕ) (c : PrimeRec) → get (insert p.chains v (record chain { double = true })) w ≡ Some c → (o : PrimeRec) × (get p.chains w ≡ Some o) × (o.list ≡ c.list)
      before w c at = elim (split_insert p.chains v (record chain { double = true }) w c at) [
        | inl here ↦ (chain, ap (get p.chains) here.0 ∙ there, ap (λ (x : PrimeRec). x.list) here.1)
        | inr old ↦ (c, old, refl)
      ]

  ends : (v : ℕ) → AreAlone (suc index) (remove p.chains v)
  ends v = record {
    below = λ w c at. let b = are.below w c (split_remove p.chains v w c at) in omega arith;
    alone = λ w u c d e at to on up. are.alone w u c d e (split_remove p.chains v w c at) (split_remove p.chains v u d to) on up;
  }

  item_alone : (x : Proposal) → AreAlone (suc index) (item_applied parts index x p).0.chains
  item_alone x = item_cases parts (λ s. AreAlone (suc index) s.0.chains) index x p stays (λ entry made.
      chains_by parts index p (AreAlone (suc index)) entry stays (λ id list absent is none some begun. begins id list absent none) doubles (λ v chain there. ends v))

list_alone : (parts index : ℕ) (p : Part) (ds : List (ℕ × Proposal)) → AreAlone index p.chains → AreAlone (index + length ds) (folded_from parts index p ds).chains
list_alone parts index p ds are = each_fold parts (λ i s. AreAlone i s.chains) (λ i x s h. item_alone parts i s h x) index p ds are

pub one_chain_an_edge : OneChainAnEdge
one_chain_an_edge parts decided v w c d e at to on up =
    (list_alone parts 1 blank decided (record {
      below = λ v c there. let t : None ≡ Some c = sym (get-empty nat_cmp v) ∙ there in absurd (cc);
      alone = λ v w c d e there to on up. let t : None ≡ Some c = sym (get-empty nat_cmp v) ∙ there in absurd (cc);
    })).alone v w c d e at to on up
