-- No number that is kept of a client falls, and a new call is above what was kept of its client.
use Rattle.std.proofs.Common.{◌≡◌, inl, inr, ℕ, suc, ◌+◌, ◌<◌, List, [], ◌∷◌, ◌++◌, length, Option, None, Some, Bool, true, false, refl, ap, sym, ◌∙◌, subst, arith}
use Rattle.std.specs.Prelude.{◌==◌, ◌&&◌, nat_lt}
use Rattle.std.specs.Ordering.{nat_cmp}
use Rattle.std.specs.Option.{option_map}
use Rattle.std.specs.FinMap.{FinMap, get, insert, contains_key}
use Rattle.std.proofs.lemmas.Bool.{cond_both, ltb-false, eqb-false}
use Rattle.graph_model.specs.Ops.{edges_in}
use Rattle.graph_model.specs.declared.half.Half.{Half}
use Rattle.graph_model.specs.declared.edge_id.EdgeId.{EdgeId}
use Rattle.graph_model.specs.declared.call_id.CallId.{CallId}
use Rattle.graph_model.specs.declared.op.Op.{Op}
use Rattle.graph_model.specs.declared.op.Op.TheVariants.{PutEdges, DelEdges, PutVertex, DelVertex, Read as ReadOp}
use Rattle.maps.specs.Maps.{altered}
use Rattle.maps.proofs.Keys.{nat_keys, same_or_apart}
use Rattle.maps.proofs.Updates.{insert_here, insert_apart, altered_here, altered_apart}
use Rattle.part_keys.specs.declared.chain.PrimeRec.{PrimeRec}
use Rattle.part_keys.specs.declared.proposal.Proposal.{Proposal}
use Rattle.part_keys.specs.declared.proposal.Proposal.TheVariants.{Start, Members, Made, Blank}
use Rattle.part_keys.specs.declared.entry.PartEntry.{PartEntry}
use Rattle.part_keys.specs.declared.entry.PartEntry.TheVariants.{Prime, Local, Double, Close, Abort, Remote, Fence, Vertex, Read}
use Rattle.part_rules.specs.declared.kept.Kept.{Kept}
use Rattle.part_rules.specs.declared.kept.Outcome.{Outcome}
use Rattle.part_rules.specs.declared.applied.Applied.{Applied}
use Rattle.part_rules.specs.declared.applied.Applied.TheVariants.{Old, Again}
use Rattle.part_rules.specs.Part.{Part, chain_on_any}
use Rattle.part_rules.specs.Machine.{where_new, where_new_to, keeping, with_outcome, coming_to, leaves_all, primed_by, vertex_written, applied}
use Rattle.part_rules.specs.Folded.{item_applied, folded_from, folded}
use Rattle.part_rules.specs.Laws.{Risen, is_new, IsAbove, IsNew, NewCall}
use Rattle.part_rules.proofs.FoldsCases.{local_cases, double_cases, abort_cases, close_cases, remote_cases, fence_cases}
use Rattle.part_rules.proofs.FoldsLists.{folded_append}

-- a call whose number is old, is the last one, or is above it
pub new_above : (p : Part) (Q : Part × Applied → Type 0) (id : CallId) (next : Part × Applied) → Q (p, Old) → ((o : Outcome) → Q (p, Again o)) → (IsAbove id.number (get p.clients id.client) → Q next) → Q (where_new p id next)
new_above p Q id next old again new = by_last (get p.clients id.client) refl
  where
    by_last : (o : Option Kept) → get p.clients id.client ≡ o → Q (where_new_to p id next o)
    by_last None e = new (subst (IsAbove id.number) (sym e) tt)
    by_last (Some last) e = cond_both (nat_lt id.number last.number) _ _ Q (λ _. old) (λ not_below. cond_both (id.number == last.number) _ _ Q (λ _. again last.outcome) (λ not_same.
        new (subst (IsAbove id.number) (sym e) (let a = ltb-false id.number last.number not_below in let b = eqb-false id.number last.number not_same in omega arith))))

-- what a part keeps of its clients
abbrev pub Clients : Type 0
Clients = FinMap nat_cmp Kept

-- nothing changed
as_before : (m : Clients) → Risen m m
as_before m c last e = record { last = last; is = e; risen = omega arith }

-- a call above the kept one is kept
risen_put : (m : Clients) (c : ℕ) (new : Kept) → IsAbove new.number (get m c) → Risen m (insert m c new)
risen_put m c new above q last e = elim (same_or_apart nat_keys q c) [
  | inl same ↦ (let k : IsAbove new.number (Some last) = subst (IsAbove new.number) (ap (get m) (sym same) ∙ e) above in
      record { last = new; is = ap (get (insert m c new)) same ∙ insert_here nat_keys m c new; risen = (let b : last.number < new.number = k in omega arith) })
  | inr apart ↦ record { last = last; is = insert_apart nat_keys m c new q apart ∙ e; risen = omega arith }
]

-- an outcome changes no number
outcome_number : (number : ℕ) (outcome : Outcome) (last : Kept) → (with_outcome number outcome last).number ≡ last.number
outcome_number number outcome last = cond_both (last.number == number) _ _ (λ (k : Kept). k.number ≡ last.number) (λ _. refl) (λ _. refl)

-- an outcome is kept
risen_to : (m : Clients) (c number : ℕ) (outcome : Outcome) → Risen m (altered m c (with_outcome number outcome))
risen_to m c number outcome q last e = elim (same_or_apart nat_keys q c) [
  | inl same ↦ (let n = outcome_number number outcome last in
      record {
        last = with_outcome number outcome last;
        is = ap (get (altered m c (with_outcome number outcome))) same ∙ altered_here nat_keys m c (with_outcome number outcome) ∙ ap (option_map (with_outcome number outcome)) (ap (get m) (sym same) ∙ e);
        risen = omega arith;
      })
  | inr apart ↦ record { last = last; is = altered_apart nat_keys m c (with_outcome number outcome) q apart ∙ e; risen = omega arith }
]

module _ (p : Part) where
  -- no number has fallen
  abbrev Up : Part × Applied → Type 0
  Up r = Risen p.clients r.0.clients

  -- nothing changed
  still_up : Risen p.clients p.clients
  still_up = as_before p.clients

  -- a new call is kept
  kept_up : (id : CallId) (outcome : Outcome) → IsAbove id.number (get p.clients id.client) → Risen p.clients (keeping p id outcome).clients
  kept_up id outcome above = risen_put p.clients id.client (record { number = id.number; outcome = outcome }) above

  -- a call has another outcome
  come_up : (id : CallId) (outcome : Outcome) → Risen p.clients (coming_to p id outcome).clients
  come_up id outcome = risen_to p.clients id.client id.number outcome

  -- behind a Prime of a new call
  primed_up : (parts index : ℕ) (id : CallId) (list : List (EdgeId × Half)) (absent : Bool) → IsAbove id.number (get p.clients id.client) → (o : Option PrimeRec) → Up (primed_by parts p index id list absent o)
  primed_up parts index id list absent above (Some chain) = kept_up id _ above
  primed_up parts index id list absent above None = cond_both (leaves_all p list absent) _ _ Up (λ _. kept_up id _ above) (λ _. kept_up id _ above)

  -- behind a change of a vertex by a new call
  vertex_up : (id : CallId) → IsAbove id.number (get p.clients id.client) → (op : Op) → Up (vertex_written p id op)
  vertex_up id above (PutVertex v tag row absent) = cond_both (absent && contains_key p.tags (record { vid = v; tag = tag })) _ _ Up (λ _. kept_up id _ above) (λ _. kept_up id _ above)
  vertex_up id above (DelVertex v) = kept_up id _ above
  vertex_up id above (PutEdges rows absent) = still_up
  vertex_up id above (DelEdges edges) = still_up
  vertex_up id above (ReadOp query) = still_up

  -- behind an entry
  pub entry_up : (parts index : ℕ) (entry : PartEntry) → Up (applied parts index entry p)
  entry_up parts index (Prime id list absent) = new_above p Up id _ still_up (λ o. still_up) (λ above. primed_up parts index id list absent above (chain_on_any p (edges_in list)))
  entry_up parts index (Local v) = local_cases p Up v still_up (λ chain there not. come_up chain.id _)
  entry_up parts index (Double v) = double_cases p Up v still_up (λ chain there not. come_up chain.id _)
  entry_up parts index (Close v) = close_cases p Up v still_up (λ chain there not. come_up chain.id _)
  entry_up parts index (Abort v) = abort_cases p Up v still_up (λ chain there not. come_up chain.id _)
  entry_up parts index (Remote from term v list) = remote_cases p Up from term v list (λ _. still_up) (λ _. still_up)
  entry_up parts index (Fence from term v edges) = fence_cases p Up from term v edges (λ _. still_up) (λ _. still_up)
  entry_up parts index (Vertex id op) = new_above p Up id _ still_up (λ o. still_up) (λ above. vertex_up id above op)
  entry_up parts index (Read id query) = still_up

  -- behind an item
  item_up : (parts index : ℕ) (x : Proposal) → Up (item_applied parts index x p)
  item_up parts index Start = still_up
  item_up parts index (Members config) = still_up
  item_up parts index (Made entry) = entry_up parts index entry
  item_up parts index Blank = still_up

  -- a new call
  abbrev Newly : CallId → Part × Applied → Type 0
  Newly id r = is_new r.1 ≡ true → IsNew p r.0 id

  -- a call that was kept is new
  newly : (q : Part) (id : CallId) (outcome : Outcome) → q.clients ≡ (keeping p id outcome).clients → IsAbove id.number (get p.clients id.client) → IsNew p q id
  newly q id outcome c above = record { above = above; last = record { number = id.number; outcome = outcome }; kept = ap (λ (m : Clients). get m id.client) c ∙ insert_here nat_keys p.clients id.client _; number = refl }

  -- a Prime of a call above the kept one
  primed_newly : (parts index : ℕ) (id : CallId) (list : List (EdgeId × Half)) (absent : Bool) → IsAbove id.number (get p.clients id.client) → (o : Option PrimeRec) → Newly id (primed_by parts p index id list absent o)
  primed_newly parts index id list absent above (Some chain) = λ _. newly _ id _ refl above
  primed_newly parts index id list absent above None = cond_both (leaves_all p list absent) _ _ (Newly id) (λ _ _. newly _ id _ refl above) (λ _ _. newly _ id _ refl above)

  -- a change of a vertex by one
  vertex_newly : (id : CallId) → IsAbove id.number (get p.clients id.client) → (op : Op) → Newly id (vertex_written p id op)
  vertex_newly id above (PutVertex v tag row absent) = cond_both (absent && contains_key p.tags (record { vid = v; tag = tag })) _ _ (Newly id) (λ _ _. newly _ id _ refl above) (λ _ _. newly _ id _ refl above)
  vertex_newly id above (DelVertex v) = λ _. newly _ id _ refl above
  vertex_newly id above (PutEdges rows absent) = λ n. absurd (cc)
  vertex_newly id above (DelEdges edges) = λ n. absurd (cc)
  vertex_newly id above (ReadOp query) = λ n. absurd (cc)

  -- the answer isn't that of a new call
  abbrev Not : Part × Applied → Type 0
  Not r = is_new r.1 ≡ false

  -- each entry
  pub new_call : (parts index : ℕ) (entry : PartEntry) → NewCall entry p (applied parts index entry p)
  new_call parts index (Prime id list absent) = new_above p (Newly id) id _ (λ n. absurd (cc)) (λ o n. absurd (cc)) (λ above. primed_newly parts index id list absent above (chain_on_any p (edges_in list)))
  new_call parts index (Local v) = local_cases p Not v refl (λ chain there not. refl)
  new_call parts index (Double v) = double_cases p Not v refl (λ chain there not. refl)
  new_call parts index (Close v) = close_cases p Not v refl (λ chain there not. refl)
  new_call parts index (Abort v) = abort_cases p Not v refl (λ chain there not. refl)
  new_call parts index (Remote from term v list) = remote_cases p Not from term v list (λ _. refl) (λ _. refl)
  new_call parts index (Fence from term v edges) = fence_cases p Not from term v edges (λ _. refl) (λ _. refl)
  new_call parts index (Vertex id op) = new_above p (Newly id) id _ (λ n. absurd (cc)) (λ o n. absurd (cc)) (λ above. vertex_newly id above op)
  new_call parts index (Read id query) = refl

-- one change after another
up_on : (m n o : Clients) → Risen m n → Risen n o → Risen m o
up_on m n o a b c last e = let x = a c last e in let y = b c x.last x.is in record { last = y.last; is = y.is; risen = (let i = x.risen in let j = y.risen in omega arith) }

-- behind a list
list_up : (parts index : ℕ) (p : Part) (decided : List (ℕ × Proposal)) → Risen p.clients (folded_from parts index p decided).clients
list_up parts index p [] = still_up p
list_up parts index p (d ∷ decided) = up_on p.clients (item_applied parts index d.1 p).0.clients _ (item_up p parts index d.1) (list_up parts (suc index) (item_applied parts index d.1 p).0 decided)

-- behind a list that goes on
pub rising : (parts : ℕ) (decided more : List (ℕ × Proposal)) → Risen (folded parts decided).clients (folded parts (decided ++ more)).clients
rising parts decided more = subst (λ (p : Part). Risen (folded parts decided).clients p.clients) (sym (folded_append parts 1 _ decided more)) (list_up parts (1 + length decided) (folded parts decided) more)
