-- An outcome that a part keeps of a call comes from an entry that was answered so, and so does each answer that is told.
use Rattle.std.proofs.Common.{◌≡◌, ◌⊎◌, inl, inr, ℕ, zero, suc, List, [], ◌∷◌, ◌++◌, length, take, Option, None, Some, ◌&&◌, refl, ap, sym, subst, ◌∙◌}
use Rattle.std.specs.Prelude.{◌==◌, slice_get}
use Rattle.std.specs.FinMap.{get, insert, contains_key, get-empty}
use Rattle.std.specs.Option.{option_map}
use Rattle.std.specs.Ordering.{nat_cmp}
use Rattle.std.proofs.lemmas.Bool.{cond_both, cases_eq, cond-true, cond-false, eq-eqb, ne_eqb}
use Rattle.graph_model.specs.declared.answer.Answer.{Answer}
use Rattle.graph_model.specs.declared.answer.Answer.TheVariants as said
use Rattle.graph_model.specs.declared.call_id.CallId.{CallId}
use Rattle.graph_model.specs.declared.op.Op.{Op}
use Rattle.graph_model.specs.declared.op.Op.TheVariants.{PutEdges, DelEdges, PutVertex, DelVertex, Read as ReadOp}
use Rattle.maps.specs.Maps.{altered}
use Rattle.maps.proofs.Keys.{nat_keys, same_or_apart}
use Rattle.maps.proofs.Updates.{insert_here, insert_apart, altered_here, altered_apart}
use Rattle.part_keys.specs.declared.proposal.Proposal.{Proposal}
use Rattle.part_keys.specs.declared.proposal.Proposal.TheVariants.{Start, Members, Made, Blank}
use Rattle.part_keys.specs.declared.entry.PartEntry.{PartEntry}
use Rattle.part_keys.specs.declared.entry.PartEntry.TheVariants.{Prime, Local, Double, Close, Abort, Remote, Fence, Vertex, Read}
use Rattle.part_rules.specs.declared.applied.Applied.{Applied}
use Rattle.part_rules.specs.declared.applied.Applied.TheVariants.{Old, Again, Conflict, Skipped, Begun, Settled, Doubled, Closed, Aborted, Finished, Nothing}
use Rattle.part_rules.specs.declared.kept.Kept.{Kept}
use Rattle.part_rules.specs.declared.kept.Outcome.{Outcome}
use Rattle.part_rules.specs.declared.kept.Outcome.TheVariants as kept
use Rattle.part_rules.specs.Part.{Part}
use Rattle.part_rules.specs.Machine.{keeping, with_outcome, settling, doubling, closing, aborting, beginning, vertex_gone, applied, vertex_written}
use Rattle.part_rules.specs.Folded.{item_applied, folded}
use Rattle.part_rules.proofs.FoldsCases.{prime_cases, local_cases, double_cases, close_cases, abort_cases, remote_cases, fence_cases}
use Rattle.part_rules.proofs.FoldsLists.{folded_one_more}
use Rattle.chain_world.specs.Invariant.Causing.{Causes, IsCaused}
use Rattle.chain_world.proofs.NewCalls.{new_cases}

-- the answer that an outcome is
abbrev pub answer_as : Outcome → Option Answer
answer_as kept.Open = None
answer_as kept.Fine = Some said.Fine
answer_as kept.Skipped = Some said.Skipped
answer_as kept.Pending = Some said.Pending
answer_as kept.Cancelled = Some said.Cancelled
answer_as (kept.Conflict other) = Some (said.Conflict other)

-- the call of a client with a number
abbrev call_id : ℕ → ℕ → CallId
call_id c n = record { client = c; number = n }

-- What an entry makes of a kept call: it was so before, or this entry is the cause.
record Keeps (m : Part) (entry : PartEntry) (r : Part × Applied) : Type 0 where
  keeps : (c : ℕ) (last : Kept) → get r.0.clients c ≡ Some last → (get m.clients c ≡ Some last) ⊎ ((a : Answer) → answer_as last.outcome ≡ Some a → Causes entry r.1 (call_id c last.number) a)

-- the part stays
same_keeps : (m : Part) (entry : PartEntry) (answer : Applied) → Keeps m entry (m, answer)
same_keeps m entry answer = record { keeps = λ c last is. inl is }

-- one number is kept anew
put_keeps : (m : Part) (entry : PartEntry) (x : Part) (answer : Applied) (id : CallId) (outcome : Outcome) → x.clients ≡ insert m.clients id.client (record { number = id.number; outcome = outcome })
    → ((a : Answer) → answer_as outcome ≡ Some a → Causes entry answer id a) → Keeps m entry (x, answer)
put_keeps m entry x answer id outcome is causes = record {
  keeps = λ c last found. elim (same_or_apart nat_keys c id.client) [
    | inl same ↦
        (let e : Some (record { number = id.number; outcome = outcome }) ≡ Some last = sym (insert_here nat_keys m.clients id.client (record { number = id.number; outcome = outcome })) ∙ ap (λ y. get y id.client) (sym is) ∙ ap (get x.clients) (sym same) ∙ found in
        let n : record { number = id.number; outcome = outcome } ≡ last = cc in
        inr (λ a told. subst (λ (i : CallId). Causes entry answer i a) (ap (λ j. call_id j id.number) (sym same) ∙ ap (λ (y : Kept). call_id c y.number) n) (causes a (ap (λ (y : Kept). answer_as y.outcome) n ∙ told))))
    | inr apart ↦ inl (sym (insert_apart nat_keys m.clients id.client (record { number = id.number; outcome = outcome }) c apart) ∙ ap (λ y. get y c) (sym is) ∙ found)
  ];
}

-- an outcome comes to a number
come_keeps : (m : Part) (entry : PartEntry) (x : Part) (answer : Applied) (id : CallId) (outcome : Outcome) → x.clients ≡ altered m.clients id.client (with_outcome id.number outcome)
    → ((a : Answer) → answer_as outcome ≡ Some a → Causes entry answer id a) → Keeps m entry (x, answer)
come_keeps m entry x answer id outcome is causes = record {
  keeps = λ c last found. elim (same_or_apart nat_keys c id.client) [
    | inl same ↦ go c last (get m.clients id.client) refl same (sym (altered_here nat_keys m.clients id.client (with_outcome id.number outcome)) ∙ ap (λ y. get y id.client) (sym is) ∙ ap (get x.clients) (sym same) ∙ found)
    | inr apart ↦ inl (sym (altered_apart nat_keys m.clients id.client (with_outcome id.number outcome) c apart) ∙ ap (λ y. get y c) (sym is) ∙ found)
  ];
}
  where
    go : (c : ℕ) (last : Kept) (o : Option Kept) → get m.clients id.client ≡ o → c ≡ id.client → option_map (with_outcome id.number outcome) o ≡ Some last
        → (get m.clients c ≡ Some last) ⊎ ((a : Answer) → answer_as last.outcome ≡ Some a → Causes entry answer (call_id c last.number) a)
    go c last None was same e = cc
    go c last (Some old) was same e = elim (cases_eq old.number id.number) [
      | inl number ↦
          (let n : record old { outcome = outcome } ≡ last = sym (cond-true (old.number == id.number) (record old { outcome = outcome }) old (eq-eqb old.number id.number number)) ∙ (let f : with_outcome id.number outcome old ≡ last = cc in f) in
          let i : id ≡ call_id c last.number = ap (λ j. call_id id.client j) (sym number) ∙ ap (λ j. call_id j old.number) (sym same) ∙ ap (λ (y : Kept). call_id c y.number) n in
          inr (λ a told. subst (λ (j : CallId). Causes entry answer j a) i (causes a (ap (λ (y : Kept). answer_as y.outcome) n ∙ told))))
      | inr other ↦
          (let n : old ≡ last = sym (cond-false (old.number == id.number) (record old { outcome = outcome }) old (ne_eqb old.number id.number other)) ∙ (let f : with_outcome id.number outcome old ≡ last = cc in f) in
          inl (ap (get m.clients) same ∙ was ∙ ap (λ y. Some y) n))
    ]

module _ (parts index : ℕ) (m : Part) where
  -- a Vertex
  written_keeps : (id : CallId) (op : Op) → Keeps m (Vertex id op) (vertex_written m id op)
  written_keeps id (PutVertex v tag row absent) = cond_both (absent && contains_key m.tags (record { vid = v; tag = tag })) (keeping m id kept.Skipped, Skipped) (record (keeping m id kept.Fine) { tags = insert m.tags (record { vid = v; tag = tag }) row }, Finished id) (Keeps m (Vertex id (PutVertex v tag row absent)))
      (λ there. put_keeps m _ (keeping m id kept.Skipped) Skipped id kept.Skipped refl (λ a e. subst (Causes (Vertex id (PutVertex v tag row absent)) Skipped id) (let f : said.Skipped ≡ a = cc in f) (refl, refl)))
      (λ none. put_keeps m _ (record (keeping m id kept.Fine) { tags = insert m.tags (record { vid = v; tag = tag }) row }) (Finished id) id kept.Fine refl (λ a e. subst (Causes (Vertex id (PutVertex v tag row absent)) (Finished id) id) (let f : said.Fine ≡ a = cc in f) (inr (inr refl))))
  written_keeps id (DelVertex v) = put_keeps m (Vertex id (DelVertex v)) (vertex_gone m id v).0 (Finished id) id kept.Fine refl (λ a e. subst (Causes (Vertex id (DelVertex v)) (Finished id) id) (let f : said.Fine ≡ a = cc in f) (inr (inr refl)))
  written_keeps id (PutEdges rows absent) = same_keeps m _ Nothing
  written_keeps id (DelEdges edges) = same_keeps m _ Nothing
  written_keeps id (ReadOp q) = same_keeps m _ Nothing

  -- any entry
  entry_keeps : (entry : PartEntry) → Keeps m entry (applied parts index entry m)
  entry_keeps (Prime id list absent) = prime_cases m (Keeps m (Prime id list absent)) parts index id list absent (same_keeps m _ Old) (λ o. same_keeps m _ (Again o))
      (λ chain e. put_keeps m (Prime id list absent) (keeping m id (kept.Conflict chain.id)) (Conflict chain.id) id (kept.Conflict chain.id) refl (λ a f. subst (Causes (Prime id list absent) (Conflict chain.id) id) (let g : said.Conflict chain.id ≡ a = cc in g) (refl, refl)))
      (λ e leaves. put_keeps m (Prime id list absent) (keeping m id kept.Skipped) Skipped id kept.Skipped refl (λ a f. subst (Causes (Prime id list absent) Skipped id) (let g : said.Skipped ≡ a = cc in g) (refl, refl)))
      (λ e some. put_keeps m (Prime id list absent) (beginning parts m index id list absent) (Begun index) id kept.Open refl (λ a f. cc))
  entry_keeps (Local v) = local_cases m (Keeps m (Local v)) v (same_keeps m _ Nothing)
      (λ chain e single. come_keeps m (Local v) (settling m v chain) (Settled chain.id) chain.id kept.Fine refl (λ a f. subst (Causes (Local v) (Settled chain.id) chain.id) (let g : said.Fine ≡ a = cc in g) (inl refl)))
  entry_keeps (Double v) = double_cases m (Keeps m (Double v)) v (same_keeps m _ Nothing)
      (λ chain e single. come_keeps m (Double v) (doubling m v chain) (Doubled chain.id) chain.id kept.Pending refl (λ a f. subst (Causes (Double v) (Doubled chain.id) chain.id) (let g : said.Pending ≡ a = cc in g) refl))
  entry_keeps (Close v) = close_cases m (Keeps m (Close v)) v (same_keeps m _ Nothing)
      (λ chain e double. come_keeps m (Close v) (closing m v chain) (Closed chain.id) chain.id kept.Fine refl (λ a f. subst (Causes (Close v) (Closed chain.id) chain.id) (let g : said.Fine ≡ a = cc in g) (inr (inl refl))))
  entry_keeps (Abort v) = abort_cases m (Keeps m (Abort v)) v (same_keeps m _ Nothing)
      (λ chain e single. come_keeps m (Abort v) (aborting m v chain) (Aborted chain.id) chain.id kept.Cancelled refl (λ a f. subst (Causes (Abort v) (Aborted chain.id) chain.id) (let g : said.Cancelled ≡ a = cc in g) refl))
  entry_keeps (Remote from term v list) = remote_cases m (Keeps m (Remote from term v list)) from term v list (λ e. record { keeps = λ c last is. inl is }) (λ e. record { keeps = λ c last is. inl is })
  entry_keeps (Fence from term v edges) = fence_cases m (Keeps m (Fence from term v edges)) from term v edges (λ e. record { keeps = λ c last is. inl is }) (λ e. record { keeps = λ c last is. inl is })
  entry_keeps (Vertex id op) = new_cases m (Keeps m (Vertex id op)) id (vertex_written m id op) (same_keeps m _ Old) (λ last e same. same_keeps m _ (Again last.outcome)) (λ above. written_keeps id op)
  entry_keeps (Read id query) = same_keeps m _ Nothing

-- the first n items of a list with one more
one_taken : {X : Type 0} (xs : List X) (n : ℕ) → ((slice_get xs n ≡ None) × (take (suc n) xs ≡ take n xs)) ⊎ ((x : X) × (slice_get xs n ≡ Some x) × (take (suc n) xs ≡ take n xs ++ x ∷ []) × (length (take n xs) ≡ n))
one_taken [] zero = inl (refl, refl)
one_taken [] (suc n) = inl (refl, refl)
one_taken (x ∷ xs) zero = inr (x, refl, refl, refl)
one_taken (x ∷ xs) (suc n) = elim (one_taken xs n) [
  | inl none ↦ inl (none.0, ap (λ l. x ∷ l) none.1)
  | inr some ↦ inr (some.0, some.1, ap (λ l. x ∷ l) some.2, ap suc some.3)
]

module _ (parts : ℕ) (decided : List (ℕ × Proposal)) where
  -- what is kept behind the first n items has a cause
  abbrev KeptHasCause : ℕ → Type 0
  KeptHasCause n = (c : ℕ) (last : Kept) (a : Answer) → get (folded parts (take n decided)).clients c ≡ Some last → answer_as last.outcome ≡ Some a → IsCaused parts decided (call_id c last.number) a

  -- with one item more
  item_has_cause : (n term : ℕ) (x : Proposal) → slice_get decided n ≡ Some (term, x) → length (take n decided) ≡ n → KeptHasCause n → take (suc n) decided ≡ take n decided ++ (term, x) ∷ [] → KeptHasCause (suc n)
  item_has_cause n term x there long rest split c last a is told =
      by_item x there (ap (λ (m : Part). get m.clients c) (sym (ap (folded parts) split ∙ folded_one_more parts (take n decided) (term, x) ∙ ap (λ i. (item_applied parts (suc i) x (folded parts (take n decided))).0) long)) ∙ is)
    where
      by_item : (y : Proposal) → slice_get decided n ≡ Some (term, y) → get (item_applied parts (suc n) y (folded parts (take n decided))).0.clients c ≡ Some last → IsCaused parts decided (call_id c last.number) a
      by_item Start at found = rest c last a found told
      by_item (Members config) at found = rest c last a found told
      by_item Blank at found = rest c last a found told
      by_item (Made entry) at found = elim ((entry_keeps parts (suc n) (folded parts (take n decided)) entry).keeps c last found) [
        | inl before ↦ rest c last a before told
        | inr cause ↦ record { place = n; term = term; entry = entry; answer = (applied parts (suc n) entry (folded parts (take n decided))).1; answered = record { there = at; is = refl }; causes = cause a told }
      ]

  -- behind any number of items
  pub kept_has_cause : (n : ℕ) → KeptHasCause n
  kept_has_cause zero = λ c last a is told. (let f : None ≡ Some last = sym (get-empty nat_cmp c) ∙ is in cc)
  kept_has_cause (suc n) = elim (one_taken decided n) [
    | inl none ↦ subst (λ ds. (c : ℕ) (last : Kept) (a : Answer) → get (folded parts ds).clients c ≡ Some last → answer_as last.outcome ≡ Some a → IsCaused parts decided (call_id c last.number) a) (sym none.1) (kept_has_cause n)
    | inr some ↦ item_has_cause n some.0.0 some.0.1 some.1 some.3 (kept_has_cause n) some.2
  ]
