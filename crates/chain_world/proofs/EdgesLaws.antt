-- What the parts have of an edge, in every sound ledger.
use Rattle.std.proofs.Common.{◌≡◌, ℕ, List, [], ◌∷◌, ◌++◌, Option, None, Some, true, false, cond, refl, ap, sym, ◌∙◌, subst}
use Rattle.std.specs.Prelude.{◌==◌}
use Rattle.std.specs.FinMap.{get-empty}
use Rattle.std.specs.Option.{option_map}
use Rattle.graph_model.specs.Contents.{half_of}
use Rattle.graph_model.specs.Keys.{edge_cmp, in_cmp, in_key}
use Rattle.graph_model.specs.State.{GraphState}
use Rattle.graph_model.specs.declared.val.Val.{Val}
use Rattle.graph_model.proofs.EqualHalves.{equal_halves}
use Rattle.part_keys.specs.Routing.{part_of}
use Rattle.part_keys.specs.declared.chain.PrimeRec.{PrimeRec}
use Rattle.part_keys.specs.declared.proposal.Proposal.{Proposal}
use Rattle.part_keys.specs.declared.proposal.Proposal.TheVariants.{Start, Members, Made, Blank}
use Rattle.part_rules.specs.Folded.{item_applied, folded}
use Rattle.part_rules.proofs.FoldsLists.{folded_one_more}
use Rattle.chain_world.specs.Course.{Courses, no_courses, item_coursed, recorded}
use Rattle.chain_world.specs.Invariant.Discipline.{MayDecide, MeetsItem}
use Rattle.chain_world.specs.Edges.{AreLast, AreEqualHalves}
use Rattle.chain_world.specs.Ledger.{Ledger, blank_ledger, machine_of, next_of, next_applied, decides}
use Rattle.chain_world.specs.Invariant.Sound.{IsSoundAt}
use Rattle.chain_world.proofs.EdgesDecided.{unmoved, entry_last}
use Rattle.chain_world.proofs.EdgesPending.{on_edge}
use Rattle.chain_world.proofs.EdgesSet.{set_at}

-- a part decides an item: its machine goes on by it, and the others stay
machine_decides : (parts : ℕ) (l : Ledger) (p : ℕ) (d : ℕ × Proposal) (q : ℕ) → machine_of parts (decides parts l p d) q ≡ set_at (machine_of parts l) p (next_applied parts l p d.1).0 q
machine_decides parts l p d q = elim (q == p) as (λ b. folded parts (cond b (l.decided p ++ d ∷ []) (l.decided q)) ≡ cond b (next_applied parts l p d.1).0 (machine_of parts l q)) [
  | true ↦ folded_one_more parts (l.decided p) d
  | false ↦ refl
]

module _ (parts : ℕ) (l : Ledger) (k : Courses) (g : GraphState) (sound : IsSoundAt parts l k g) where
  item_last : (p term : ℕ) (x : Proposal) → MeetsItem parts l.steps k (machine_of parts l p) p x → AreLast parts (machine_of parts l) k
      → AreLast parts (set_at (machine_of parts l) p (item_applied parts (next_of l p) x (machine_of parts l p)).0) (item_coursed k p term (item_applied parts (next_of l p) x (machine_of parts l p)).0 x (item_applied parts (next_of l p) x (machine_of parts l p)).1)
  item_last p term Start meets are = unmoved parts (machine_of parts l) (next_of l) k g sound.holds are p term (machine_of parts l p) refl refl
  item_last p term (Members config) meets are = unmoved parts (machine_of parts l) (next_of l) k g sound.holds are p term (machine_of parts l p) refl refl
  item_last p term (Made entry) meets are = entry_last parts (machine_of parts l) (next_of l) k g sound.holds are p term l.steps entry meets
  item_last p term Blank meets are = unmoved parts (machine_of parts l) (next_of l) k g sound.holds are p term (machine_of parts l p) refl refl

  decided_last : (p : ℕ) (d : ℕ × Proposal) → MayDecide parts l k p d → AreLast parts (machine_of parts l) k → AreLast parts (machine_of parts (decides parts l p d)) (recorded parts l k p d)
  decided_last p d may are = subst (λ m. AreLast parts m (recorded parts l k p d)) (λ i q. sym (machine_decides parts l p d q) i) (item_last p d.0 d.1 may are)

  half_row : (a b : Option (List Val)) → half_of a ≡ half_of b → a ≡ b
  half_row None None e = refl
  half_row None (Some r) e = cc
  half_row (Some r) None e = cc
  half_row (Some r) (Some s) e = cc

  equal_rows : AreEqualHalves parts (machine_of parts l)
  equal_rows e none =
      let free = on_edge parts (machine_of parts l) (next_of l) k g sound.holds (part_of parts e.src) e refl ∙ ap (option_map (λ (r : PrimeRec). r.id)) none in
      sym (sound.holds.halves.out e) ∙ half_row _ _ (equal_halves l.steps g sound.run e free) ∙ sound.holds.halves.inn (in_key e)

pub last_blank : (parts : ℕ) → AreLast parts (machine_of parts blank_ledger) no_courses
last_blank parts = record {
  latest = λ p v w c d is s it e on up. let t : None ≡ Some c = is in cc;
  inn = λ e v half last. let t : None ≡ Some half = last.its in cc;
  no_inn = λ e none. get-empty in_cmp (in_key e);
  out = λ e v half last. let t : None ≡ Some half = last.its in cc;
  no_out = λ e none. get-empty edge_cmp e;
}

pub last_decided : (parts : ℕ) (l : Ledger) (k : Courses) (g : GraphState) (p : ℕ) (d : ℕ × Proposal) → IsSoundAt parts l k g → MayDecide parts l k p d → AreLast parts (machine_of parts l) k
    → AreLast parts (machine_of parts (decides parts l p d)) (recorded parts l k p d)
last_decided parts l k g p d sound = decided_last parts l k g sound p d

pub equal_then : (parts : ℕ) (l : Ledger) (k : Courses) (g : GraphState) → IsSoundAt parts l k g → AreEqualHalves parts (machine_of parts l)
equal_then parts l k g sound = equal_rows parts l k g sound
