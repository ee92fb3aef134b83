-- A chain that stands is named by its Prime.
use Rattle.std.proofs.Common.{◌≡◌, inl, inr, ℕ, suc, List, [], ◌∷◌, ◌++◌, length, None, Some, Bool, true, refl, ap, sym, ◌∙◌, subst, append_assoc, append-nil}
use Rattle.std.specs.Ordering.{nat_cmp}
use Rattle.std.specs.FinMap.{FinMap, get, insert, remove, get-empty}
use Rattle.graph_model.specs.declared.call_id.CallId.{CallId}
use Rattle.graph_model.specs.declared.half.Half.{Half}
use Rattle.graph_model.specs.declared.edge_id.EdgeId.{EdgeId}
use Rattle.part_keys.specs.declared.chain.PrimeRec.{PrimeRec}
use Rattle.part_keys.specs.declared.proposal.Proposal.{Proposal}
use Rattle.part_keys.specs.declared.proposal.Proposal.TheVariants.{Made}
use Rattle.part_keys.specs.declared.entry.PartEntry.TheVariants.{Prime}
use Rattle.part_rules.specs.declared.applied.Applied.TheVariants.{Begun}
use Rattle.part_rules.specs.Part.{Part}
use Rattle.part_rules.specs.Machine.{applied, begun_at}
use Rattle.part_rules.specs.Folded.{folded}
use Rattle.part_rules.specs.FoldLaws.{IsPrimeOf}
use Rattle.part_rules.proofs.FoldsBy.{chains_by}
use Rattle.part_rules.proofs.FoldsChains.{split_insert, split_remove}
use Rattle.part_rules.proofs.FoldsLists.{item_cases, folded_one_more}

along : {D : Type 0} (P : List D → Type 0) → ((ds : List D) (d : D) → P ds → P (ds ++ d ∷ [])) → (ds es : List D) → P ds → P (ds ++ es)
along P step ds [] h = subst P (sym (append-nil ds)) h
along P step ds (e ∷ es) h = subst P (append_assoc ds (e ∷ []) es) (along P step (ds ++ e ∷ []) es (step ds e h))

-- what holds of the empty list, and of a list with one item more, holds of each list
pub each_list : {D : Type 0} (P : List D → Type 0) → P [] → ((ds : List D) (d : D) → P ds → P (ds ++ d ∷ [])) → (ds : List D) → P ds
each_list P nil step ds = along P step [] ds nil

module _ (parts : ℕ) where
  -- each chain of a map is named by its Prime in the list
  abbrev AreNamed : List (ℕ × Proposal) → FinMap nat_cmp PrimeRec → Type 0
  AreNamed decided chains = (v : ℕ) (c : PrimeRec) → get chains v ≡ Some c → IsPrimeOf parts decided v c

  one_more : (ds : List (ℕ × Proposal)) (d : ℕ × Proposal) (v : ℕ) (c : PrimeRec) → IsPrimeOf parts ds v c → IsPrimeOf parts (ds ++ d ∷ []) v c
  one_more ds d v c at = record {
    before = at.before;
    term = at.term;
    given = at.given;
    absent = at.absent;
    after = at.after ++ d ∷ [];
    is = ap (λ l. l ++ d ∷ []) at.is ∙ append_assoc at.before ((at.term, Made (Prime c.id at.given at.absent)) ∷ at.after) (d ∷ []);
    index = at.index;
    named = at.named;
    begun = at.begun;
    took = at.took;
  }

  module _ (ds : List (ℕ × Proposal)) (d : ℕ × Proposal) (are : AreNamed ds (folded parts ds).chains) where
    abbrev p : Part
    p = folded parts ds

    abbrev index : ℕ
    index = suc (length ds)

    stays : AreNamed (ds ++ d ∷ []) p.chains
    stays v c there = one_more ds d v c (are v c there)

    begins : (id : CallId) (list : List (EdgeId × Half)) (absent : Bool) → d.1 ≡ Made (Prime id list absent) → (applied parts index (Prime id list absent) p).1 ≡ Begun index → AreNamed (ds ++ d ∷ []) (insert p.chains index (begun_at parts p index id list absent))
    begins id list absent made begun v c there = elim (split_insert p.chains index (begun_at parts p index id list absent) v c there) [
      | inl here ↦ subst (λ w. IsPrimeOf parts (ds ++ d ∷ []) w c) (sym here.0) (subst (IsPrimeOf parts (ds ++ d ∷ []) index) here.1 (record {
        before = ds;
        term = d.0;
        given = list;
        absent = absent;
        after = [];
        is = ap (λ x. ds ++ (d.0, x) ∷ []) made;
        index = refl;
        named = refl;
        begun = begun;
        took = refl;
      }))
      | inr old ↦ stays v c old
    ]

    doubles : (v : ℕ) (chain : PrimeRec) → get p.chains v ≡ Some chain → AreNamed (ds ++ d ∷ []) (insert p.chains v (record chain { double = true }))
    doubles v chain there w c at = elim (split_insert p.chains v (record chain { double = true }) w c at) [
      | inl here ↦ subst (λ u. IsPrimeOf parts (ds ++ d ∷ []) u c) (sym here.0) (subst (IsPrimeOf parts (ds ++ d ∷ []) v) here.1 (let o = stays v chain there in record {
        before = o.before;
        term = o.term;
        given = o.given;
        absent = o.absent;
        after = o.after;
        is = o.is;
        index = o.index;
        named = o.named;
        begun = o.begun;
        took = o.took;
      }))
      | inr old ↦ stays w c old
    ]

    ends : (v : ℕ) → AreNamed (ds ++ d ∷ []) (remove p.chains v)
    ends v w c at = stays w c (split_remove p.chains v w c at)

    goes_on : AreNamed (ds ++ d ∷ []) (folded parts (ds ++ d ∷ [])).chains
    goes_on = subst (λ s. AreNamed (ds ++ d ∷ []) s.chains) (sym (folded_one_more parts ds d)) (item_cases parts (λ s. AreNamed (ds ++ d ∷ []) s.0.chains) index d.1 p stays (λ entry made.
        chains_by parts index p (AreNamed (ds ++ d ∷ [])) entry stays
        (λ id list absent is none some begun. begins id list absent (made ∙ ap Made is) (subst (λ e. (applied parts index e p).1 ≡ Begun index) is begun))
        doubles (λ v chain there. ends v)))

  pub named_by_prime : (decided : List (ℕ × Proposal)) → AreNamed decided (folded parts decided).chains
  named_by_prime decided = each_list (λ ds. AreNamed ds (folded parts ds).chains) (λ v c there. let t : None ≡ Some c = sym (get-empty nat_cmp v) ∙ there in absurd (cc)) (λ ds d are. goes_on ds d are) decided
