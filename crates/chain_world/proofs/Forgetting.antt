-- What a leader forgets, and what its rules make of an answer.
use Rattle.std.proofs.Common.{◌≡◌, inl, inr, ℕ, List, [], Option, Some, None, Bool, true, false, refl, ap, sym, ◌∙◌}
use Rattle.std.specs.Prelude.{is_some}
use Rattle.std.specs.FinMap.{get, remove, contains_key}
use Rattle.std.proofs.lemmas.Bool.{false≢true, cond_both}
use Rattle.std.proofs.lemmas.Option.{same_Some, none-some}
use Rattle.maps.proofs.Keys.{nat_keys, same_or_apart, not_apart}
use Rattle.maps.proofs.Updates.{remove_here, remove_apart}
use Rattle.part_keys.specs.declared.chain.PrimeRec.{PrimeRec}
use Rattle.part_keys.specs.declared.chain.ChainState.{ChainState}
use Rattle.part_keys.specs.declared.entry.PartEntry.{PartEntry}
use Rattle.part_keys.specs.declared.entry.PartEntry.TheVariants as entry
use Rattle.part_rules.specs.declared.applied.Applied.{Applied}
use Rattle.part_rules.specs.declared.applied.Applied.TheVariants as told
use Rattle.part_rules.specs.Part.{Part}
use Rattle.chain_leader.specs.declared.letter.Letter.{Letter}
use Rattle.chain_leader.specs.Rules.{Table, forget}
use Rattle.chain_leader.specs.Leading.{back_of, answers_of, forgetting, begins, ruled_by, Ruled, quiet}

-- a table where nothing is stays so
pub forgets_nothing : (table : Table) (p : Part) (o : Option ℕ) → ((v : ℕ) → get table v ≡ None) → (v : ℕ) → get (forgetting table p o) v ≡ None
forgets_nothing table p None empty v = empty v
forgets_nothing table p (Some w) empty v = cond_both (contains_key p.chains w) table (forget table w) (λ (u : Table). get u v ≡ None) (λ _. empty v)
    (λ _. elim (same_or_apart nat_keys v w) [ inl same ↦ ap (get (remove table w)) same ∙ remove_here nat_keys table w | inr apart ↦ remove_apart nat_keys table w v apart ∙ empty v ])

-- a row that stays was there; it is forgotten only where its chain may have ended and is gone
pub forgot_back : (table : Table) (p : Part) (o : Option ℕ) (v : ℕ) (row : ChainState) → get (forgetting table p o) v ≡ Some row
    → (get table v ≡ Some row) × ((o ≡ Some v) → (rec : PrimeRec) × (get p.chains v ≡ Some rec))
forgot_back table p None v row = λ e. (e, λ f. absurd (none-some v f))
forgot_back table p (Some w) v row = cond_both (contains_key p.chains w) table (forget table w)
    (λ (u : Table). get u v ≡ Some row → (get table v ≡ Some row) × ((Some w ≡ Some v) → (rec : PrimeRec) × (get p.chains v ≡ Some rec)))
    (λ there e. (e, λ f. known v (get p.chains v) refl (ap (λ (n : ℕ). is_some (get p.chains n)) (sym (same_Some w v f)) ∙ there)))
    (λ gone e. elim (same_or_apart nat_keys v w) [
      | inl same ↦ absurd (none-some row (sym (remove_here nat_keys table w) ∙ ap (get (remove table w)) (sym same) ∙ e))
      | inr apart ↦ (sym (remove_apart nat_keys table w v apart) ∙ e, λ f. absurd (not_apart nat_keys v w (sym (same_Some w v f)) apart))
    ])
  where
    known : (n : ℕ) (o : Option PrimeRec) → get p.chains n ≡ o → is_some (get p.chains n) ≡ true → (rec : PrimeRec) × (get p.chains n ≡ Some rec)
    known n None e there = absurd (false≢true (sym (ap is_some e) ∙ there))
    known n (Some rec) e there = (rec, e)

pub forgot_stays : (table : Table) (p : Part) (o : Option ℕ) (v : ℕ) (row : ChainState) (rec : PrimeRec) → get table v ≡ Some row → get p.chains v ≡ Some rec → get (forgetting table p o) v ≡ Some row
forgot_stays table p None v row rec e stands = e
forgot_stays table p (Some w) v row rec e stands = cond_both (contains_key p.chains w) table (forget table w) (λ (u : Table). get u v ≡ Some row) (λ there. e)
    (λ gone. elim (same_or_apart nat_keys v w) [
      | inl same ↦ absurd (false≢true (sym gone ∙ ap (λ (n : ℕ). is_some (get p.chains n)) (sym same) ∙ ap is_some stands))
      | inr apart ↦ remove_apart nat_keys table w v apart ∙ e
    ])

-- what the rules make of an answer: a ready leader takes up the chain that begins; nothing else
module _ (Q : Ruled → Type 0) (t : ℕ) (table : Table) (p : Part) where
  pub ruled_cases : (b : Bool) (a : Applied) → (b ≡ true → (v : ℕ) → a ≡ told.Begun v → Q (begins t table (get p.chains v))) → ((b ≡ true → (v : ℕ) → a ≡ told.Begun v → ⊥) → Q (quiet table)) → Q (ruled_by b t table p a)
  ruled_cases true (told.Begun v) begun other = begun refl v refl
  ruled_cases false (told.Begun v) begun other = other (λ e. absurd (false≢true e))
  ruled_cases true told.Old begun other = other (λ _ v e. cc)
  ruled_cases true (told.Again outcome) begun other = other (λ _ v e. cc)
  ruled_cases true (told.Conflict id) begun other = other (λ _ v e. cc)
  ruled_cases true told.Skipped begun other = other (λ _ v e. cc)
  ruled_cases true (told.Settled id) begun other = other (λ _ v e. cc)
  ruled_cases true (told.Doubled id) begun other = other (λ _ v e. cc)
  ruled_cases true (told.Closed id) begun other = other (λ _ v e. cc)
  ruled_cases true (told.Aborted id) begun other = other (λ _ v e. cc)
  ruled_cases true (told.Stale above) begun other = other (λ _ v e. cc)
  ruled_cases true told.Done begun other = other (λ _ v e. cc)
  ruled_cases true (told.Fenced written) begun other = other (λ _ v e. cc)
  ruled_cases true (told.Finished id) begun other = other (λ _ v e. cc)
  ruled_cases true told.Nothing begun other = other (λ _ v e. cc)
  ruled_cases false told.Old begun other = other (λ _ v e. cc)
  ruled_cases false (told.Again outcome) begun other = other (λ _ v e. cc)
  ruled_cases false (told.Conflict id) begun other = other (λ _ v e. cc)
  ruled_cases false told.Skipped begun other = other (λ _ v e. cc)
  ruled_cases false (told.Settled id) begun other = other (λ _ v e. cc)
  ruled_cases false (told.Doubled id) begun other = other (λ _ v e. cc)
  ruled_cases false (told.Closed id) begun other = other (λ _ v e. cc)
  ruled_cases false (told.Aborted id) begun other = other (λ _ v e. cc)
  ruled_cases false (told.Stale above) begun other = other (λ _ v e. cc)
  ruled_cases false told.Done begun other = other (λ _ v e. cc)
  ruled_cases false (told.Fenced written) begun other = other (λ _ v e. cc)
  ruled_cases false (told.Finished id) begun other = other (λ _ v e. cc)
  ruled_cases false told.Nothing begun other = other (λ _ v e. cc)

-- an entry that begins a chain is answered to nobody
pub unanswered : (own : Bool) (x : PartEntry) (a : Applied) (v : ℕ) → a ≡ told.Begun v → answers_of own x a ≡ []
unanswered own x a v e = ap (answers_of own x) e ∙ cond_both own (back_of x (told.Begun v)) [] (λ (ls : List Letter). ls ≡ []) (λ _. no_back x) (λ _. refl)
  where
    no_back : (y : PartEntry) → back_of y (told.Begun v) ≡ []
    no_back (entry.Prime id list absent) = refl
    no_back (entry.Local w) = refl
    no_back (entry.Double w) = refl
    no_back (entry.Close w) = refl
    no_back (entry.Abort w) = refl
    no_back (entry.Remote q u w list) = refl
    no_back (entry.Fence q u w edges) = refl
    no_back (entry.Vertex id op) = refl
    no_back (entry.Read id query) = refl
