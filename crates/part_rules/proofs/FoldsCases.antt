-- What an entry may leave, case by case: a predicate holds of what an entry leaves if it holds in each case.
use Rattle.std.proofs.Common.{◌≡◌, ℕ, List, Option, None, Some, Bool, true, false, refl}
use Rattle.std.specs.Prelude.{◌==◌, nat_lt}
use Rattle.std.specs.FinMap.{get}
use Rattle.std.specs.Map.{keys_of}
use Rattle.std.proofs.lemmas.Bool.{cond_both}
use Rattle.graph_model.specs.declared.half.Half.{Half}
use Rattle.graph_model.specs.declared.edge_id.EdgeId.{EdgeId}
use Rattle.graph_model.specs.declared.call_id.CallId.{CallId}
use Rattle.part_keys.specs.declared.chain.PrimeRec.{PrimeRec}
use Rattle.part_rules.specs.declared.kept.Kept.{Kept}
use Rattle.part_rules.specs.declared.kept.Outcome.{Outcome}
use Rattle.part_rules.specs.declared.kept.Outcome.TheVariants as kept
use Rattle.part_rules.specs.declared.applied.Applied.{Applied}
use Rattle.part_rules.specs.declared.applied.Applied.TheVariants.{Old, Again, Conflict, Skipped, Begun, Settled, Doubled, Closed, Aborted, Stale, Done, Fenced, Nothing}
use Rattle.part_rules.specs.Part.{Part, guard_of, chain_on_any, is_stale, all_written}
use Rattle.part_rules.specs.Machine.{where_new, where_new_to, keeping, leaves_all, beginning, primed, primed_by, settling, localized, localized_by, doubling, doubled, doubled_by, closing, closed, closed_by, aborting, aborted, aborted_by, raising, in_written, remoted, fenced}

-- a state and an answer, of which a predicate is
abbrev pub After : Type 1
After = Part × Applied → Type 0

module _ (p : Part) (Q : After) where
  -- a call whose number is old, is the last one, or is new
  pub new_cases : (id : CallId) (next : Part × Applied) → Q (p, Old) → ((o : Outcome) → Q (p, Again o)) → Q next → Q (where_new p id next)
  new_cases id next old again new = by_kept (get p.clients id.client)
    where
      by_kept : (last : Option Kept) → Q (where_new_to p id next last)
      by_kept None = new
      by_kept (Some last) = cond_both (nat_lt id.number last.number) _ _ Q (λ _. old) (λ _. cond_both (id.number == last.number) _ _ Q (λ _. again last.outcome) (λ _. new))

  -- a Prime: it is of an old call; or a chain stands on an edge; or each edge is here; or a chain begins
  pub prime_cases : (parts index : ℕ) (id : CallId) (list : List (EdgeId × Half)) (absent : Bool)
      → Q (p, Old) → ((o : Outcome) → Q (p, Again o))
      → ((chain : PrimeRec) → chain_on_any p (keys_of list) ≡ Some chain → Q (keeping p id (kept.Conflict chain.id), Conflict chain.id))
      → (chain_on_any p (keys_of list) ≡ None → leaves_all p list absent ≡ true → Q (keeping p id kept.Skipped, Skipped))
      → (chain_on_any p (keys_of list) ≡ None → leaves_all p list absent ≡ false → Q (beginning parts p index id list absent, Begun index))
      → Q (primed parts p index id list absent)
  prime_cases parts index id list absent old again conflict skipped begun = new_cases id _ old again (by_chain (chain_on_any p (keys_of list)) refl)
    where
      by_chain : (c : Option PrimeRec) → chain_on_any p (keys_of list) ≡ c → Q (primed_by parts p index id list absent c)
      by_chain (Some chain) e = conflict chain e
      by_chain None e = cond_both (leaves_all p list absent) _ _ Q (skipped e) (begun e)

  -- a Local, Double or Abort: the chain stands and isn't double, or nothing happens
  pub local_cases : (v : ℕ) → Q (p, Nothing) → ((chain : PrimeRec) → get p.chains v ≡ Some chain → chain.double ≡ false → Q (settling p v chain, Settled chain.id)) → Q (localized p v)
  local_cases v nothing settled = by_chain (get p.chains v) refl
    where
      by_chain : (c : Option PrimeRec) → get p.chains v ≡ c → Q (localized_by p v c)
      by_chain None e = nothing
      by_chain (Some chain) e = cond_both chain.double _ _ Q (λ _. nothing) (settled chain e)

  pub double_cases : (v : ℕ) → Q (p, Nothing) → ((chain : PrimeRec) → get p.chains v ≡ Some chain → chain.double ≡ false → Q (doubling p v chain, Doubled chain.id)) → Q (doubled p v)
  double_cases v nothing made = by_chain (get p.chains v) refl
    where
      by_chain : (c : Option PrimeRec) → get p.chains v ≡ c → Q (doubled_by p v c)
      by_chain None e = nothing
      by_chain (Some chain) e = cond_both chain.double _ _ Q (λ _. nothing) (made chain e)

  pub abort_cases : (v : ℕ) → Q (p, Nothing) → ((chain : PrimeRec) → get p.chains v ≡ Some chain → chain.double ≡ false → Q (aborting p v chain, Aborted chain.id)) → Q (aborted p v)
  abort_cases v nothing ended = by_chain (get p.chains v) refl
    where
      by_chain : (c : Option PrimeRec) → get p.chains v ≡ c → Q (aborted_by p v c)
      by_chain None e = nothing
      by_chain (Some chain) e = cond_both chain.double _ _ Q (λ _. nothing) (ended chain e)

  -- a Close: the chain stands and is double, or nothing happens
  pub close_cases : (v : ℕ) → Q (p, Nothing) → ((chain : PrimeRec) → get p.chains v ≡ Some chain → chain.double ≡ true → Q (closing p v chain, Closed chain.id)) → Q (closed p v)
  close_cases v nothing ended = by_chain (get p.chains v) refl
    where
      by_chain : (c : Option PrimeRec) → get p.chains v ≡ c → Q (closed_by p v c)
      by_chain None e = nothing
      by_chain (Some chain) e = cond_both chain.double _ _ Q (ended chain e) (λ _. nothing)

  -- a Remote: it is stale, or it is done
  pub remote_cases : (from term v : ℕ) (list : List (EdgeId × Half))
      → (is_stale p from term ≡ true → Q (p, Stale (guard_of p from)))
      → (is_stale p from term ≡ false → Q (record (raising p from term) { inn = in_written p v list }, Done))
      → Q (remoted p from term v list)
  remote_cases from term v list stale done = cond_both (is_stale p from term) _ _ Q stale done

  -- a Fence: it is stale, or it tells
  pub fence_cases : (from term v : ℕ) (edges : List EdgeId)
      → (is_stale p from term ≡ true → Q (p, Stale (guard_of p from)))
      → (is_stale p from term ≡ false → Q (raising p from term, Fenced (all_written p v edges)))
      → Q (fenced p from term v edges)
  fence_cases from term v edges stale told = cond_both (is_stale p from term) _ _ Q stale told
