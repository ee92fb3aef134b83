-- What a part holds has a spelling, behind each entry that fits.
use Rattle.std.proofs.Common.{◌≡◌, ℕ, suc, ◌<◌, ◌≤◌, List, [], ◌∷◌, map, Option, None, Some, Bool, true, false, cond, refl, sym, subst, arith}
use Rattle.std.specs.Prelude.{◌==◌, ◌&&◌, not, nat_lt}
use Rattle.std.specs.List.{AllByRecursion, filter}
use Rattle.std.specs.Option.{option_or}
use Rattle.std.specs.Ordering.{eq_by_cmp}
use Rattle.std.specs.FinMap.{FinMap, get, insert, remove, entries, contains_key}
use Rattle.std.proofs.Math.Nat.{mod-lt}
use Rattle.std.proofs.lemmas.Bool.{cond_both, false≢true}
use Rattle.std.proofs.lemmas.Option.{same_Some, none-some}
use Rattle.graph_bytes.specs.declared.id_form.IdForm.TheVariants.{Tagged}
use Rattle.graph_bytes.specs.Fits.{IsSmall, most_small, FitsHalves, FitsEdgeHalf, HasSpellingRow, HasSpellingHalf, HasSpellingEdge, HasSpellingWhole}
use Rattle.graph_model.specs.Contents.{row_of}
use Rattle.graph_model.specs.Keys.{vid_cmp, edge_cmp, edge_of, in_key}
use Rattle.graph_model.specs.Ops.{edges_in, are_edges}
use Rattle.graph_model.specs.declared.call_id.CallId.{CallId}
use Rattle.graph_model.specs.declared.edge_id.EdgeId.{EdgeId}
use Rattle.graph_model.specs.declared.half.Half.{Half}
use Rattle.graph_model.specs.declared.half.Half.TheVariants.{Absent, Here}
use Rattle.graph_model.specs.declared.in_key.InKey.{InKey}
use Rattle.graph_model.specs.declared.op.Op.{Op}
use Rattle.graph_model.specs.declared.op.Op.TheVariants.{PutEdges, DelEdges, PutVertex, DelVertex, Read as ReadOp}
use Rattle.graph_model.specs.declared.tag_key.TagKey.{TagKey}
use Rattle.graph_model.specs.declared.val.Val.{Val}
use Rattle.graph_model.specs.declared.vid.Vid.{Vid}
use Rattle.graph_model.proofs.KeyLemmas.{tag_keys, edge_keys, in_keys}
use Rattle.maps.specs.Lists.{has_all, missing}
use Rattle.maps.proofs.Keys.{nat_keys}
use Rattle.part_keys.specs.declared.chain.PrimeRec.{PrimeRec}
use Rattle.part_keys.specs.declared.entry.PartEntry.{PartEntry}
use Rattle.part_keys.specs.declared.entry.PartEntry.TheVariants.{Prime, Local, Double, Close, Abort, Remote, Fence, Vertex, Read}
use Rattle.part_keys.specs.declared.in_half.InHalf.{InHalf}
use Rattle.part_keys.specs.declared.proposal.Proposal.{Proposal}
use Rattle.part_keys.specs.declared.proposal.Proposal.TheVariants.{Start, Members, Made, Blank}
use Rattle.part_keys.specs.Fits.{Fits, FitsChange}
use Rattle.part_keys.specs.Routing.{id_number, part_of, remote_of}
use Rattle.part_rules.specs.declared.kept.Kept.{Kept}
use Rattle.part_rules.specs.declared.kept.Outcome.{Outcome}
use Rattle.part_rules.specs.declared.kept.Outcome.TheVariants as kept
use Rattle.part_rules.specs.declared.applied.Applied.{Applied}
use Rattle.part_rules.specs.declared.applied.Applied.TheVariants.{Again, Conflict, Skipped, Begun, Settled, Doubled, Closed, Aborted, Finished}
use Rattle.part_rules.specs.Part.{Part, blank, is_on, chain_among, chain_on, chain_on_any, is_stale, is_fresh}
use Rattle.part_rules.specs.Machine.{where_new, where_new_to, keeping, with_outcome, coming_to, taken_of, leaves_all, begun_at, primed_by, out_written, localized_by, doubled_by, closed_by, aborted_by, in_halves, remoted, fenced, tag_put, vertex_written, applied}
use Rattle.part_rules.specs.Folded.{item_applied, folded_from, folded}
use Rattle.raft_core.proofs.Lists.{all_weaker, all_through-map, all_of-filter}
use Rattle.replica_spelling.specs.Held.{AllHeld}
use Rattle.replica_spelling.specs.Parts.{HasSpellingOutcome, IsSpelledChain, IsSpelledPart, FitsValue}
use Rattle.replica_spelling.proofs.Held.{held_empty, held_insert, held_remove, held_with_all, held_put_all, held_altered, held_retained, each_held}
use Rattle.replica_spelling.proofs.Fitting.{row, whole}

-- what an answer of an entry names has a spelling
abbrev pub IsSpelledSaid : Applied → Type 0
IsSpelledSaid (Again outcome) = HasSpellingOutcome outcome
IsSpelledSaid (Conflict id) = IsSmall id.client
IsSpelledSaid (Settled id) = IsSmall id.client
IsSpelledSaid (Doubled id) = IsSmall id.client
IsSpelledSaid (Closed id) = IsSmall id.client
IsSpelledSaid (Aborted id) = IsSmall id.client
IsSpelledSaid (Finished id) = IsSmall id.client
IsSpelledSaid other = Unit {0}

-- the part behind an entry, and its answer
abbrev pub IsSpelledBehind : Part × Applied → Type 0
IsSpelledBehind made = IsSpelledPart made.0 × IsSpelledSaid made.1

pub blank_spelled : IsSpelledPart blank
blank_spelled = record {
  tags = held_empty tag_keys (λ key row. HasSpellingRow row);
  out = held_empty edge_keys (λ e row. HasSpellingEdge Tagged e × HasSpellingRow row);
  inn = held_empty in_keys (λ key kept. HasSpellingEdge Tagged (edge_of key) × HasSpellingHalf kept.half);
  chains = held_empty nat_keys (λ v chain. IsSpelledChain chain);
  clients = held_empty nat_keys (λ client last. HasSpellingOutcome last.outcome);
}

-- ---- calls

keeping_spelled : (p : Part) (id : CallId) (outcome : Outcome) → IsSpelledPart p → HasSpellingOutcome outcome → IsSpelledPart (keeping p id outcome)
keeping_spelled p id outcome is out = record {
  tags = is.tags;
  out = is.out;
  inn = is.inn;
  chains = is.chains;
  clients = held_insert nat_keys (λ client last. HasSpellingOutcome last.outcome) p.clients id.client (record { number = id.number; outcome = outcome }) is.clients out;
}

outcome_spelled : (number : ℕ) (outcome : Outcome) → HasSpellingOutcome outcome → (last : Kept) → HasSpellingOutcome last.outcome → HasSpellingOutcome (with_outcome number outcome last).outcome
outcome_spelled number outcome out last is = cond_both (last.number == number) _ _ (λ (k : Kept). HasSpellingOutcome k.outcome) (λ _. out) (λ _. is)

coming_spelled : (p : Part) (id : CallId) (outcome : Outcome) → IsSpelledPart p → HasSpellingOutcome outcome → IsSpelledPart (coming_to p id outcome)
coming_spelled p id outcome is out = record {
  tags = is.tags;
  out = is.out;
  inn = is.inn;
  chains = is.chains;
  clients = held_altered nat_keys (λ client last. HasSpellingOutcome last.outcome) p.clients id.client (with_outcome id.number outcome) is.clients (outcome_spelled id.number outcome out);
}

new_spelled : (p : Part) (id : CallId) (next : Part × Applied) → IsSpelledPart p → IsSpelledBehind next → IsSpelledBehind (where_new p id next)
new_spelled p id next is behind = by_last (get p.clients id.client) refl
  where
    by_last : (o : Option Kept) → get p.clients id.client ≡ o → IsSpelledBehind (where_new_to p id next o)
    by_last None e = behind
    by_last (Some last) e = cond_both (nat_lt id.number last.number) _ _ IsSpelledBehind
        (λ _. (is, tt))
        (λ _. cond_both (id.number == last.number) _ _ IsSpelledBehind (λ _. (is, is.clients id.client last e)) (λ _. behind))

-- ---- chains that begin

among_spelled : (es : List (ℕ × PrimeRec)) → AllByRecursion (λ (c : ℕ × PrimeRec). IsSpelledChain c.1) es → (e : EdgeId) (chain : PrimeRec) → chain_among es e ≡ Some chain → IsSpelledChain chain
among_spelled [] all e chain found = absurd (none-some chain found)
among_spelled (c ∷ es) all e chain found = here (is_on e c.1) (among_spelled es all.1 e chain) found
  where
    here : (b : Bool) → (chain_among es e ≡ Some chain → IsSpelledChain chain) → cond b (Some c.1) (chain_among es e) ≡ Some chain → IsSpelledChain chain
    here true rest there = subst IsSpelledChain (same_Some c.1 chain there) all.0
    here false rest there = rest there

standing_spelled : (p : Part) → IsSpelledPart p → (edges : List EdgeId) (chain : PrimeRec) → chain_on_any p edges ≡ Some chain → IsSpelledChain chain
standing_spelled p is [] chain found = absurd (none-some chain found)
standing_spelled p is (e ∷ edges) chain found = by_first (chain_on p e) refl (standing_spelled p is edges chain) found
  where
    by_first : (o : Option PrimeRec) → chain_on p e ≡ o → (chain_on_any p edges ≡ Some chain → IsSpelledChain chain) → option_or o (chain_on_any p edges) ≡ Some chain → IsSpelledChain chain
    by_first None none rest there = rest there
    by_first (Some first) some rest same = subst IsSpelledChain (same_Some first chain same)
        (among_spelled (entries p.chains) (each_held nat_keys (λ v c. IsSpelledChain c) p.chains is.chains) e first some)

module _ (parts : ℕ) (some : 0 < parts) (few : parts ≤ most_small) where
  pub small_part : (v : Vid) → IsSmall (part_of parts v)
  small_part v = let below = mod-lt (id_number v) some in (omega arith, omega (arith, below, few))

  remote_small : (list : List (EdgeId × Half)) → are_edges (edges_in list) ≡ true → IsSmall (remote_of parts list)
  remote_small [] are = absurd (false≢true are)
  remote_small (x ∷ list) are = small_part x.0.dst

  missing_small : (out : FinMap edge_cmp (List Val)) (list : List (EdgeId × Half)) → has_all out (edges_in list) ≡ false → IsSmall (remote_of parts (missing out list))
  missing_small out [] some-missing = absurd (false≢true (sym some-missing))
  missing_small out (x ∷ list) some-missing = here (contains_key out x.0) (missing_small out list) some-missing
    where
      here : (b : Bool) → (has_all out (edges_in list) ≡ false → IsSmall (remote_of parts (missing out list))) → (b && has_all out (edges_in list)) ≡ false → IsSmall (remote_of parts (cond (not b) (x ∷ missing out list) (missing out list)))
      here true rest there = rest there
      here false rest there = small_part x.0.dst

  taken_small : (p : Part) (list : List (EdgeId × Half)) (absent : Bool) → are_edges (edges_in list) ≡ true → leaves_all p list absent ≡ false → IsSmall (remote_of parts (taken_of p list absent))
  taken_small p list true are some-left = missing_small p.out list some-left
  taken_small p list false are some-left = remote_small list are

  taken_spelled : (p : Part) (list : List (EdgeId × Half)) (absent : Bool) → AllByRecursion (HasSpellingWhole Tagged) list → AllByRecursion (HasSpellingWhole Tagged) (taken_of p list absent)
  taken_spelled p list true all = all_of-filter (HasSpellingWhole Tagged) (λ e. not (contains_key p.out e.0)) list all
  taken_spelled p list false all = all

  begun_spelled : (p : Part) (index : ℕ) (id : CallId) (list : List (EdgeId × Half)) (absent : Bool) → IsSmall id.client → FitsHalves Tagged list → leaves_all p list absent ≡ false → IsSpelledChain (begun_at parts p index id list absent)
  begun_spelled p index id list absent client fits left = record {
    call = client;
    remote = taken_small p list absent fits.are left;
    list = taken_spelled p list absent (all_weaker (FitsEdgeHalf Tagged) (HasSpellingWhole Tagged) whole list fits.each);
  }

  primed_spelled : (p : Part) (index : ℕ) (id : CallId) (list : List (EdgeId × Half)) (absent : Bool) → IsSmall id.client → FitsHalves Tagged list → IsSpelledPart p
      → (found : Option PrimeRec) → chain_on_any p (edges_in list) ≡ found → IsSpelledBehind (primed_by parts p index id list absent found)
  primed_spelled p index id list absent client fits is (Some chain) e =
      let on = standing_spelled p is (edges_in list) chain e in (keeping_spelled p id (kept.Conflict chain.id) is on.call, on.call)
  primed_spelled p index id list absent client fits is None e = by_left (leaves_all p list absent) refl
    where
      by_left : (b : Bool) → leaves_all p list absent ≡ b → IsSpelledBehind (cond b (keeping p id kept.Skipped, Skipped) (record (keeping p id kept.Open) { chains = insert p.chains index (begun_at parts p index id list absent) }, Begun index))
      by_left true all = (keeping_spelled p id kept.Skipped is tt, tt)
      by_left false left =
          let begun = keeping_spelled p id kept.Open is tt in (
            record {
              tags = begun.tags;
              out = begun.out;
              inn = begun.inn;
              chains = held_insert nat_keys (λ v chain. IsSpelledChain chain) p.chains index (begun_at parts p index id list absent) is.chains (begun_spelled p index id list absent client fits left);
              clients = begun.clients;
            },
            tt,
          )

  -- ---- chains that end

  half_row : (h : Half) → HasSpellingHalf h → (r : List Val) → row_of h ≡ Some r → HasSpellingRow r
  half_row Absent is r e = absurd (none-some r e)
  half_row (Here vals) is r e = subst HasSpellingRow (same_Some vals r e) is

  out_spelled : (out : FinMap edge_cmp (List Val)) (list : List (EdgeId × Half)) → AllHeld (λ e r. HasSpellingEdge Tagged e × HasSpellingRow r) out → AllByRecursion (HasSpellingWhole Tagged) list
      → AllHeld (λ e r. HasSpellingEdge Tagged e × HasSpellingRow r) (out_written out list)
  out_spelled out list is all =
      held_with_all edge_keys (λ e r. HasSpellingEdge Tagged e × HasSpellingRow r) out (map (λ x. (x.0, row_of x.1)) list) is
      (all_through-map (HasSpellingWhole Tagged) (λ (e : EdgeId × Option (List Val)). (r : List Val) → e.1 ≡ Some r → HasSpellingEdge Tagged e.0 × HasSpellingRow r) (λ x. (x.0, row_of x.1))
      (λ x w r e. (w.0, half_row x.1 w.1 r e)) list all)

  localized_spelled : (p : Part) (v : ℕ) → IsSpelledPart p → (found : Option PrimeRec) → get p.chains v ≡ found → IsSpelledBehind (localized_by p v found)
  localized_spelled p v is None e = (is, tt)
  localized_spelled p v is (Some chain) e =
      let on = is.chains v chain e in
      let come = coming_spelled p chain.id kept.Fine is tt in
      cond_both chain.double _ _ IsSpelledBehind (λ _. (is, tt)) (λ _.
      (record { tags = come.tags; out = out_spelled p.out chain.list is.out on.list; inn = come.inn; chains = held_remove nat_keys (λ v chain. IsSpelledChain chain) p.chains v is.chains; clients = come.clients }, on.call))

  doubled_spelled : (p : Part) (v : ℕ) → IsSpelledPart p → (found : Option PrimeRec) → get p.chains v ≡ found → IsSpelledBehind (doubled_by p v found)
  doubled_spelled p v is None e = (is, tt)
  doubled_spelled p v is (Some chain) e =
      let on = is.chains v chain e in
      let come = coming_spelled p chain.id kept.Pending is tt in
      let now : IsSpelledChain (record chain { double = true }) = record { call = on.call; remote = on.remote; list = on.list } in
      cond_both chain.double _ _ IsSpelledBehind (λ _. (is, tt)) (λ _. (
        record {
          tags = come.tags;
          out = out_spelled p.out chain.list is.out on.list;
          inn = come.inn;
          chains = held_insert nat_keys (λ v chain. IsSpelledChain chain) p.chains v (record chain { double = true }) is.chains now;
          clients = come.clients;
        },
        on.call,
      ))

  gone_spelled : (p : Part) (v : ℕ) (id : CallId) (outcome : Outcome) → IsSpelledPart p → HasSpellingOutcome outcome → IsSpelledPart (record (coming_to p id outcome) { chains = remove p.chains v })
  gone_spelled p v id outcome is out =
      let come = coming_spelled p id outcome is out in
      record { tags = come.tags; out = come.out; inn = come.inn; chains = held_remove nat_keys (λ v chain. IsSpelledChain chain) p.chains v is.chains; clients = come.clients }

  closed_spelled : (p : Part) (v : ℕ) → IsSpelledPart p → (found : Option PrimeRec) → get p.chains v ≡ found → IsSpelledBehind (closed_by p v found)
  closed_spelled p v is None e = (is, tt)
  closed_spelled p v is (Some chain) e = cond_both chain.double _ _ IsSpelledBehind (λ _. (gone_spelled p v chain.id kept.Fine is tt, (is.chains v chain e).call)) (λ _. (is, tt))

  aborted_spelled : (p : Part) (v : ℕ) → IsSpelledPart p → (found : Option PrimeRec) → get p.chains v ≡ found → IsSpelledBehind (aborted_by p v found)
  aborted_spelled p v is None e = (is, tt)
  aborted_spelled p v is (Some chain) e = cond_both chain.double _ _ IsSpelledBehind (λ _. (is, tt)) (λ _. (gone_spelled p v chain.id kept.Cancelled is tt, (is.chains v chain e).call))

  -- ---- Remote and Fence

  in_spelled : (v : ℕ) (list : List (EdgeId × Half)) → AllByRecursion (HasSpellingWhole Tagged) list
      → AllByRecursion (λ (e : InKey × InHalf). HasSpellingEdge Tagged (edge_of e.0) × HasSpellingHalf e.1.half) (in_halves v list)
  in_spelled v list all =
      all_through-map (HasSpellingWhole Tagged) (λ (e : InKey × InHalf). HasSpellingEdge Tagged (edge_of e.0) × HasSpellingHalf e.1.half) (λ x. (in_key x.0, record { v = v; half = x.1 })) (λ x w. (w.0, w.1)) list all

  remoted_spelled : (p : Part) (from term v : ℕ) (list : List (EdgeId × Half)) → FitsHalves Tagged list → IsSpelledPart p → IsSpelledBehind (remoted p from term v list)
  remoted_spelled p from term v list fits is = cond_both (is_stale p from term) _ _ IsSpelledBehind (λ _. (is, tt)) (λ _.
      let all = all_weaker (FitsEdgeHalf Tagged) (HasSpellingWhole Tagged) whole list fits.each in
      let fresh = filter (is_fresh p v) list in (
        record {
          tags = is.tags;
          out = is.out;
          inn = held_put_all in_keys (λ key kept. HasSpellingEdge Tagged (edge_of key) × HasSpellingHalf kept.half) p.inn (in_halves v fresh) is.inn (in_spelled v fresh (all_of-filter (HasSpellingWhole Tagged) (is_fresh p v) list all));
          chains = is.chains;
          clients = is.clients;
        },
        tt,
      ))

  fenced_spelled : (p : Part) (from term v : ℕ) (edges : List EdgeId) → IsSpelledPart p → IsSpelledBehind (fenced p from term v edges)
  fenced_spelled p from term v edges is = cond_both (is_stale p from term) _ _ IsSpelledBehind (λ _. (is, tt)) (λ _. (record { tags = is.tags; out = is.out; inn = is.inn; chains = is.chains; clients = is.clients }, tt))

  -- ---- Vertex

  tag_spelled : (p : Part) (id : CallId) (key : TagKey) (vals : List Val) (absent : Bool) → IsSmall id.client → HasSpellingRow vals → IsSpelledPart p → IsSpelledBehind (tag_put p id key vals absent)
  tag_spelled p id key vals absent client spelled is = cond_both (absent && contains_key p.tags key) _ _ IsSpelledBehind
      (λ _. (keeping_spelled p id kept.Skipped is tt, tt))
      (λ _.
      let fine = keeping_spelled p id kept.Fine is tt in
      (record { tags = held_insert tag_keys (λ key r. HasSpellingRow r) p.tags key vals is.tags spelled; out = fine.out; inn = fine.inn; chains = fine.chains; clients = fine.clients }, client))

  vertex_spelled : (p : Part) (id : CallId) (op : Op) → IsSmall id.client → FitsChange Tagged op → IsSpelledPart p → IsSpelledBehind (vertex_written p id op)
  vertex_spelled p id (PutVertex v tag vals absent) client fits is = tag_spelled p id (record { vid = v; tag = tag }) vals absent client (row vals fits.2) is
  vertex_spelled p id (DelVertex v) client fits is =
      let fine = keeping_spelled p id kept.Fine is tt in
      (record { tags = held_retained tag_keys (λ key r. HasSpellingRow r) p.tags (λ key. not (eq_by_cmp vid_cmp v key.vid)) is.tags; out = fine.out; inn = fine.inn; chains = fine.chains; clients = fine.clients }, client)
  vertex_spelled p id (PutEdges rows absent) client fits is = (is, tt)
  vertex_spelled p id (DelEdges list) client fits is = (is, tt)
  vertex_spelled p id (ReadOp query) client fits is = (is, tt)

  -- ---- each entry, each item, and a list of them

  pub applied_spelled : (index : ℕ) (x : PartEntry) (p : Part) → Fits Tagged x → IsSpelledPart p → IsSpelledBehind (applied parts index x p)
  applied_spelled index (Prime id list absent) p fits is =
      new_spelled p id (primed_by parts p index id list absent (chain_on_any p (edges_in list))) is (primed_spelled p index id list absent fits.0.client fits.1 is (chain_on_any p (edges_in list)) refl)
  applied_spelled index (Local v) p fits is = localized_spelled p v is (get p.chains v) refl
  applied_spelled index (Double v) p fits is = doubled_spelled p v is (get p.chains v) refl
  applied_spelled index (Close v) p fits is = closed_spelled p v is (get p.chains v) refl
  applied_spelled index (Abort v) p fits is = aborted_spelled p v is (get p.chains v) refl
  applied_spelled index (Remote from term v list) p fits is = remoted_spelled p from term v list fits.1 is
  applied_spelled index (Fence from term v edges) p fits is = fenced_spelled p from term v edges is
  applied_spelled index (Vertex id op) p fits is = new_spelled p id (vertex_written p id op) is (vertex_spelled p id op fits.0.client fits.1 is)
  applied_spelled index (Read id query) p fits is = (is, tt)

  pub item_spelled : (index : ℕ) (x : Proposal) (p : Part) → FitsValue x → IsSpelledPart p → IsSpelledBehind (item_applied parts index x p)
  item_spelled index Start p fits is = (is, tt)
  item_spelled index (Members config) p fits is = (is, tt)
  item_spelled index (Made x) p fits is = applied_spelled index x p fits is
  item_spelled index Blank p fits is = (is, tt)

  folded_from_spelled : (index : ℕ) (p : Part) (ds : List (ℕ × Proposal)) → AllByRecursion (λ (d : ℕ × Proposal). FitsValue d.1) ds → IsSpelledPart p → IsSpelledPart (folded_from parts index p ds)
  folded_from_spelled index p [] fit is = is
  folded_from_spelled index p (d ∷ ds) fit is = folded_from_spelled (suc index) (item_applied parts index d.1 p).0 ds fit.1 (item_spelled index d.1 p fit.0 is).0

  pub folded_spelled : (ds : List (ℕ × Proposal)) → AllByRecursion (λ (d : ℕ × Proposal). FitsValue d.1) ds → IsSpelledPart (folded parts ds)
  folded_spelled ds fit = folded_from_spelled 1 blank ds fit blank_spelled
