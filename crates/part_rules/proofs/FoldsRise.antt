-- What an entry doesn't lower: the kept numbers and the guards. And inductions over a decided list.
use Rattle.std.proofs.Common.{◌≡◌, inl, inr, ℕ, suc, ◌≤◌, ◌+◌, List, [], ◌∷◌, ◌++◌, length, Bool, false, refl, ap, ◌∙◌, subst, arith}
use Rattle.std.specs.Prelude.{nat_lt, ◌&&◌}
use Rattle.std.specs.FinMap.{get, contains_key}
use Rattle.std.specs.Map.{keys_of}
use Rattle.std.specs.Option.{unwrap_or}
use Rattle.std.proofs.lemmas.Bool.{cases_Bool, cond_both, ltb-true, ltb-false, lt-ltb}
use Rattle.graph_model.specs.Keys.{edge_cmp, in_key}
use Rattle.graph_model.specs.declared.op.Op.{Op}
use Rattle.graph_model.specs.declared.op.Op.TheVariants.{PutEdges, DelEdges, PutVertex, DelVertex, Read as ReadOp}
use Rattle.graph_model.specs.declared.call_id.CallId.{CallId}
use Rattle.graph_model.specs.declared.edge_id.EdgeId.{EdgeId}
use Rattle.graph_model.specs.declared.half.Half.{Half}
use Rattle.graph_model.specs.declared.val.Val.{Val}
use Rattle.graph_model.specs.declared.tag_key.TagKey.{TagKey}
use Rattle.maps.specs.Keys.{has_key}
use Rattle.maps.proofs.Keys.{nat_keys, same_or_apart}
use Rattle.maps.proofs.Pairs.{at_key_in}
use Rattle.maps.proofs.Updates.{insert_here, insert_apart}
use Rattle.part_keys.specs.declared.proposal.Proposal.{Proposal}
use Rattle.part_keys.specs.declared.proposal.Proposal.TheVariants.{Made}
use Rattle.part_keys.specs.declared.entry.PartEntry.{PartEntry}
use Rattle.part_keys.specs.declared.entry.PartEntry.TheVariants.{Prime, Local, Double, Close, Abort, Remote, Fence, Vertex, Read}
use Rattle.part_rules.specs.declared.applied.Applied.{Applied}
use Rattle.part_rules.specs.Part.{Part, blank, number_of, number_in, guard_of, is_stale}
use Rattle.part_rules.specs.Machine.{applied, raising, remoted, fenced, in_written, vertex_written, tag_put, where_new}
use Rattle.part_rules.specs.Folded.{item_applied, folded, folded_from}
use Rattle.part_rules.specs.FoldLaws.{HoldsOff}
use Rattle.part_rules.proofs.FoldsCases.{new_cases, prime_cases, local_cases, double_cases, abort_cases, close_cases, remote_cases, fence_cases}
use Rattle.part_rules.proofs.FoldsAt.{in_fresh, in_kept, in_other}
use Rattle.part_rules.proofs.FoldsLists.{folded_append, item_cases}

-- all but tags and clients is as before
abbrev pub Keeps : Part → Part × Applied → Type 0
Keeps p s = (s.0.inn ≡ p.inn) × (s.0.out ≡ p.out) × (s.0.chains ≡ p.chains) × (s.0.guards ≡ p.guards)

tag_keeps : (p : Part) (id : CallId) (key : TagKey) (row : List Val) (absent : Bool) → Keeps p (tag_put p id key row absent)
tag_keeps p id key row absent = cond_both (absent && contains_key p.tags key) _ _ (Keeps p) (λ skipped. (refl, refl, refl, refl)) (λ put. (refl, refl, refl, refl))

op_keeps : (p : Part) (id : CallId) (op : Op) → Keeps p (vertex_written p id op)
op_keeps p id (PutVertex v tag row absent) = tag_keeps p id (record { vid = v; tag = tag }) row absent
op_keeps p id (DelVertex v) = (refl, refl, refl, refl)
op_keeps p id (PutEdges rows absent) = (refl, refl, refl, refl)
op_keeps p id (DelEdges edges) = (refl, refl, refl, refl)
op_keeps p id (ReadOp query) = (refl, refl, refl, refl)

-- an entry on a vertex leaves all but tags and clients as before
pub vertex_keeps : (p : Part) (id : CallId) (op : Op) → Keeps p (where_new p id (vertex_written p id op))
vertex_keeps p id op = new_cases p (Keeps p) id (vertex_written p id op) (refl, refl, refl, refl) (λ o. (refl, refl, refl, refl)) (op_keeps p id op)

-- the number behind a Remote isn't lower
remote_rises : (p : Part) (v : ℕ) (list : List (EdgeId × Half)) (e : EdgeId) → number_of p e ≤ number_in (get (in_written p v list) (in_key e))
remote_rises p v list e = elim (cases_Bool (has_key edge_cmp e (keys_of list))) [
  | inl on ↦
      (let h = at_key_in edge_cmp e list on in
      elim (cases_Bool (nat_lt (number_of p e) v)) [
        | inl low ↦ (let n = ap number_in (in_fresh p v list e h.0 h.1 (ltb-true _ _ low)) in let l = ltb-true _ _ low in omega arith)
        | inr high ↦ (let n = ap number_in (in_kept p v list e (ltb-false _ _ high)) in omega arith)
      ])
  | inr off ↦ (let n = ap number_in (in_other p v list e off) in omega arith)
]

-- the kept number of an edge never falls
pub number_rises : (parts index : ℕ) (entry : PartEntry) (p : Part) (e : EdgeId) → number_of p e ≤ number_of (applied parts index entry p).0 e
number_rises parts index (Prime id list absent) p e = prime_cases p (λ s. number_of p e ≤ number_of s.0 e) parts index id list absent (omega arith) (λ o. omega arith) (λ c on. omega arith) (λ none all. omega arith) (λ none some. omega arith)
number_rises parts index (Local v) p e = local_cases p (λ s. number_of p e ≤ number_of s.0 e) v (omega arith) (λ c there single. omega arith)
number_rises parts index (Double v) p e = double_cases p (λ s. number_of p e ≤ number_of s.0 e) v (omega arith) (λ c there single. omega arith)
number_rises parts index (Close v) p e = close_cases p (λ s. number_of p e ≤ number_of s.0 e) v (omega arith) (λ c there double. omega arith)
number_rises parts index (Abort v) p e = abort_cases p (λ s. number_of p e ≤ number_of s.0 e) v (omega arith) (λ c there single. omega arith)
number_rises parts index (Remote from term v list) p e = remote_cases p (λ s. number_of p e ≤ number_of s.0 e) from term v list (λ stale. omega arith) (λ done. remote_rises p v list e)
number_rises parts index (Fence from term v edges) p e = fence_cases p (λ s. number_of p e ≤ number_of s.0 e) from term v edges (λ stale. omega arith) (λ told. omega arith)
number_rises parts index (Vertex id op) p e = (let k = vertex_keeps p id op in let n = ap (λ m. number_in (get m (in_key e))) k.0 in omega arith)
number_rises parts index (Read id query) p e = omega arith

-- a guard that is raised isn't lower, nor is any other
raised : (p : Part) (from term q : ℕ) → is_stale p from term ≡ false → guard_of p q ≤ guard_of (raising p from term) q
raised p from term q fresh = elim (same_or_apart nat_keys q from) [
  | inl same ↦
      (let now : guard_of (raising p from term) q ≡ term = ap (guard_of (raising p from term)) same ∙ ap (λ g. unwrap_or g 0) (insert_here nat_keys p.guards from term) in
      let was : guard_of p q ≡ guard_of p from = ap (guard_of p) same in
      let l = ltb-false term (guard_of p from) fresh in
      omega arith)
  | inr apart ↦ (let now = ap (λ g. unwrap_or g 0) (insert_apart nat_keys p.guards from term q apart) in omega arith)
]

-- the guard for a source part never falls
pub guard_rises : (parts index : ℕ) (entry : PartEntry) (p : Part) (q : ℕ) → guard_of p q ≤ guard_of (applied parts index entry p).0 q
guard_rises parts index (Prime id list absent) p q = prime_cases p (λ s. guard_of p q ≤ guard_of s.0 q) parts index id list absent (omega arith) (λ o. omega arith) (λ c on. omega arith) (λ none all. omega arith) (λ none some. omega arith)
guard_rises parts index (Local v) p q = local_cases p (λ s. guard_of p q ≤ guard_of s.0 q) v (omega arith) (λ c there single. omega arith)
guard_rises parts index (Double v) p q = double_cases p (λ s. guard_of p q ≤ guard_of s.0 q) v (omega arith) (λ c there single. omega arith)
guard_rises parts index (Close v) p q = close_cases p (λ s. guard_of p q ≤ guard_of s.0 q) v (omega arith) (λ c there double. omega arith)
guard_rises parts index (Abort v) p q = abort_cases p (λ s. guard_of p q ≤ guard_of s.0 q) v (omega arith) (λ c there single. omega arith)
guard_rises parts index (Remote from term v list) p q = remote_cases p (λ s. guard_of p q ≤ guard_of s.0 q) from term v list (λ stale. omega arith) (λ fresh. raised p from term q fresh)
guard_rises parts index (Fence from term v edges) p q = fence_cases p (λ s. guard_of p q ≤ guard_of s.0 q) from term v edges (λ stale. omega arith) (λ fresh. raised p from term q fresh)
guard_rises parts index (Vertex id op) p q = (let k = vertex_keeps p id op in let n = ap (λ m. unwrap_or (get m q) 0) k.3 in omega arith)
guard_rises parts index (Read id query) p q = omega arith

module _ (parts : ℕ) where
  item_number : (index : ℕ) (x : Proposal) (p : Part) (e : EdgeId) → number_of p e ≤ number_of (item_applied parts index x p).0 e
  item_number index x p e = item_cases parts (λ s. number_of p e ≤ number_of s.0 e) index x p (omega arith) (λ entry is. number_rises parts index entry p e)

  item_guard : (index : ℕ) (x : Proposal) (p : Part) (q : ℕ) → guard_of p q ≤ guard_of (item_applied parts index x p).0 q
  item_guard index x p q = item_cases parts (λ s. guard_of p q ≤ guard_of s.0 q) index x p (omega arith) (λ entry is. guard_rises parts index entry p q)

  -- so neither falls along a list
  pub numbers_rise : (index : ℕ) (p : Part) (ds : List (ℕ × Proposal)) (e : EdgeId) → number_of p e ≤ number_of (folded_from parts index p ds) e
  numbers_rise index p [] e = omega arith
  numbers_rise index p (d ∷ ds) e = let a = item_number index d.1 p e in let b = numbers_rise (suc index) (item_applied parts index d.1 p).0 ds e in omega arith

  pub guards_rise : (index : ℕ) (p : Part) (ds : List (ℕ × Proposal)) (q : ℕ) → guard_of p q ≤ guard_of (folded_from parts index p ds) q
  guards_rise index p [] q = omega arith
  guards_rise index p (d ∷ ds) q = let a = item_guard index d.1 p q in let b = guards_rise (suc index) (item_applied parts index d.1 p).0 ds q in omega arith

  -- what a list leaves behind another
  pub number_behind : (ds es : List (ℕ × Proposal)) (e : EdgeId) → number_of (folded parts ds) e ≤ number_of (folded parts (ds ++ es)) e
  number_behind ds es e = let a = numbers_rise (1 + length ds) (folded parts ds) es e in let b = ap (λ p. number_of p e) (folded_append parts 1 blank ds es) in omega arith

  pub guard_behind : (ds es : List (ℕ × Proposal)) (q : ℕ) → guard_of (folded parts ds) q ≤ guard_of (folded parts (ds ++ es)) q
  guard_behind ds es q = let a = guards_rise (1 + length ds) (folded parts ds) es q in let b = ap (λ p. guard_of p q) (folded_append parts 1 blank ds es) in omega arith

  -- what holds of the blank part, and of the part behind one item more, holds of the part behind each list
  pub each_fold : (P : ℕ → Part → Type 0) → ((index : ℕ) (x : Proposal) (p : Part) → P index p → P (suc index) (item_applied parts index x p).0)
      → (index : ℕ) (p : Part) (ds : List (ℕ × Proposal)) → P index p → P (index + length ds) (folded_from parts index p ds)
  each_fold P step index p [] h = subst (λ i. P i p) (omega arith) h
  each_fold P step index p (d ∷ ds) h = subst (λ i. P i (folded_from parts index p (d ∷ ds))) (omega arith) (each_fold P step (suc index) (item_applied parts index d.1 p).0 ds (step index d.1 p h))

-- behind a Remote, and behind a Fence, the guard isn't below its term
remote_above : (p : Part) (from term v : ℕ) (list : List (EdgeId × Half)) → term ≤ guard_of (remoted p from term v list).0 from
remote_above p from term v list = remote_cases p (λ s. term ≤ guard_of s.0 from) from term v list
    (λ stale. let k = ltb-true term (guard_of p from) stale in omega arith)
    (λ fresh. let now : guard_of (raising p from term) from ≡ term = ap (λ g. unwrap_or g 0) (insert_here nat_keys p.guards from term) in omega arith)

fence_above : (p : Part) (from term v : ℕ) (edges : List EdgeId) → term ≤ guard_of (fenced p from term v edges).0 from
fence_above p from term v edges = fence_cases p (λ s. term ≤ guard_of s.0 from) from term v edges
    (λ stale. let k = ltb-true term (guard_of p from) stale in omega arith)
    (λ fresh. let now : guard_of (raising p from term) from ≡ term = ap (λ g. unwrap_or g 0) (insert_here nat_keys p.guards from term) in omega arith)

-- so a lower term is stale for good
pub held_off : (parts : ℕ) (ds es : List (ℕ × Proposal)) (at lower : ℕ) (entry : PartEntry) → HoldsOff lower entry (folded parts (ds ++ (at, Made entry) ∷ es))
held_off parts ds es at lower (Remote from term v list) = λ below.
    let here = remote_above (folded parts ds) from term v list in
    let later = guards_rise parts (suc (1 + length ds)) (remoted (folded parts ds) from term v list).0 es from in
    let is = ap (λ p. guard_of p from) (folded_append parts 1 blank ds ((at, Made (Remote from term v list)) ∷ es)) in
    lt-ltb lower (guard_of (folded parts (ds ++ (at, Made (Remote from term v list)) ∷ es)) from) (omega arith)
held_off parts ds es at lower (Fence from term v edges) = λ below.
    let here = fence_above (folded parts ds) from term v edges in
    let later = guards_rise parts (suc (1 + length ds)) (fenced (folded parts ds) from term v edges).0 es from in
    let is = ap (λ p. guard_of p from) (folded_append parts 1 blank ds ((at, Made (Fence from term v edges)) ∷ es)) in
    lt-ltb lower (guard_of (folded parts (ds ++ (at, Made (Fence from term v edges)) ∷ es)) from) (omega arith)
held_off parts ds es at lower (Prime id list absent) = tt
held_off parts ds es at lower (Local v) = tt
held_off parts ds es at lower (Double v) = tt
held_off parts ds es at lower (Close v) = tt
held_off parts ds es at lower (Abort v) = tt
held_off parts ds es at lower (Vertex id op) = tt
held_off parts ds es at lower (Read id query) = tt
