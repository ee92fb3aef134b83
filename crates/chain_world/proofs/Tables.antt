-- What the leader's rules make of a table.
use Rattle.std.proofs.Common.{◌≡◌, ◌⊎◌, inl, inr, ℕ, List, [], ◌∷◌, Option, Some, None, true, false, ◌&&◌, not, refl, ap, sym, subst, ◌∙◌}
use Rattle.std.specs.List.{AllByRecursion}
use Rattle.std.specs.Ordering.{eq_by_cmp}
use Rattle.std.specs.Map.{keys_of}
use Rattle.std.specs.FinMap.{get, insert, entries}
use Rattle.std.proofs.lemmas.Bool.{cond_both, and_parts, false≢true}
use Rattle.std.proofs.lemmas.Option.{same_Some, none-some}
use Rattle.graph_model.proofs.KeyLemmas.{call_keys}
use Rattle.maps.proofs.Keys.{same_is, nat_keys, same_or_apart, apart_of_ne}
use Rattle.maps.proofs.Updates.{insert_here, insert_apart}
use Rattle.maps.proofs.Found.{entries_got}
use Rattle.graph_model.specs.Keys.{call_cmp}
use Rattle.graph_model.specs.declared.call_id.CallId.{CallId}
use Rattle.part_keys.specs.declared.chain.PrimeRec.{PrimeRec}
use Rattle.part_keys.specs.declared.chain.ChainState.{ChainState}
use Rattle.part_keys.specs.declared.chain.ChainMsg.TheVariants as send
use Rattle.part_keys.specs.declared.chain.Mode.{Mode}
use Rattle.part_keys.specs.declared.chain.Mode.TheVariants.{Put, Doubled, Fence}
use Rattle.part_keys.specs.declared.chain.Policy.{Policy}
use Rattle.part_keys.specs.declared.entry.PartEntry.{PartEntry}
use Rattle.part_keys.specs.declared.entry.PartEntry.TheVariants as entry
use Rattle.chain_leader.specs.declared.body.ChainBody.TheVariants as says
use Rattle.chain_leader.specs.declared.letter.Letter.TheVariants.{Cross}
use Rattle.chain_leader.specs.Rules.{Table, added, message, on_primed, asks, asks_once, is_put, may_double, first_to_double, doubles, give_up, mode_for, resumes, resume, next_try}
use Rattle.chain_leader.specs.Leading.{sends_by, sends, Ruled}
use Rattle.chain_world.specs.Invariant.Protocol.{is_fence}
use Rattle.chain_world.proofs.Folding.{found_inserted}

-- a row with the same chain and the same kind of mode
pub record SameRow (old new : ChainState) : Type 0 where
  pub id : new.id ≡ old.id
  pub list : new.list ≡ old.list
  pub remote : new.remote ≡ old.remote
  pub fence : is_fence new.mode ≡ is_fence old.mode

-- two tables with the same chains, in the same kinds of modes
pub record Alike (t u : Table) : Type 0 where
  pub back : (v : ℕ) (new : ChainState) → get u v ≡ Some new → (old : ChainState) × (get t v ≡ Some old) × SameRow old new
  pub forth : (v : ℕ) (old : ChainState) → get t v ≡ Some old → (new : ChainState) × (get u v ≡ Some new) × SameRow old new

pub same_row : (row : ChainState) → SameRow row row
same_row row = record { id = refl; list = refl; remote = refl; fence = refl }

pub alike_itself : (t : Table) → Alike t t
alike_itself t = record { back = λ v new e. (new, e, same_row new); forth = λ v old e. (old, e, same_row old) }

-- a row that is changed, but not its chain nor its kind of mode
pub alike_set : (t : Table) (v : ℕ) (old new : ChainState) → get t v ≡ Some old → SameRow old new → Alike t (insert t v new)
alike_set t v old new there same = record {
  back = λ w row e. elim (found_inserted t v new w row e) [
    | inl here ↦ (old, ap (get t) here.0 ∙ there, subst (SameRow old) (sym here.1) same)
    | inr other ↦ (row, other, same_row row)
  ];
  forth = λ w row e. elim (same_or_apart nat_keys w v) [
    | inl here ↦ (new, ap (get (insert t v new)) here ∙ insert_here nat_keys t v new, subst (λ (r : ChainState). SameRow r new) (same_Some old row (sym there ∙ ap (get t) (sym here) ∙ e)) same)
    | inr apart ↦ (row, insert_apart nat_keys t v new w apart ∙ e, same_row row)
  ];
}

module _ (Q : Table × Option PartEntry → Type 0) where
  -- what ends a chain is asked for once, of a row that is there
  pub asks_cases : (t : Table) (v : ℕ) (ending : ChainState → Option PartEntry) → Q (t, None)
      → ((row : ChainState) (x : PartEntry) → get t v ≡ Some row → ending row ≡ Some x → Q (insert t v (record row { asked = true }), Some x))
      → Q (asks_once t v ending (get t v))
  asks_cases t v ending nothing asked = by_row (get t v) refl
    where
      by_ending : (row : ChainState) → get t v ≡ Some row → (o : Option PartEntry) → ending row ≡ o → Q (asks t v row o)
      by_ending row there None e = nothing
      by_ending row there (Some x) e = asked row x there e

      by_row : (o : Option ChainState) → get t v ≡ o → Q (asks_once t v ending o)
      by_row None e = nothing
      by_row (Some row) e = cond_both row.asked _ _ Q (λ _. nothing) (λ _. by_ending row e (ending row) refl)

  -- a call that is given up doubles a chain in mode Put, or nothing
  pub give_up_cases : (t : Table) (id : CallId) → Q (t, None)
      → ((v : ℕ) (row : ChainState) → get t v ≡ Some row → is_fence row.mode ≡ false → row.id ≡ id → Q (insert t v (record row { mode = Doubled }), Some (entry.Double v)))
      → Q (give_up t id)
  give_up_cases t id nothing doubled = by_first (entries t) (entries_got nat_keys t) (first_to_double id (entries t)) refl
    where
      not_fence : (m : Mode) → is_put m ≡ true → is_fence m ≡ false
      not_fence Put e = refl
      not_fence Doubled e = refl
      not_fence Fence e = sym e

      found : (es : List (ℕ × ChainState)) → AllByRecursion (λ (c : ℕ × ChainState). get t c.0 ≡ Some c.1) es → (c : ℕ × ChainState) → first_to_double id es ≡ Some c
          → (get t c.0 ≡ Some c.1) × (is_fence c.1.mode ≡ false) × (c.1.id ≡ id)
      found [] all c = λ e. absurd (none-some c e)
      found (x ∷ es) all c = cond_both (may_double id x.1) (Some x) (first_to_double id es) (λ (o : Option (ℕ × ChainState)). o ≡ Some c → (get t c.0 ≡ Some c.1) × (is_fence c.1.mode ≡ false) × (c.1.id ≡ id))
          (λ may e. subst (λ (y : ℕ × ChainState). (get t y.0 ≡ Some y.1) × (is_fence y.1.mode ≡ false) × (y.1.id ≡ id)) (same_Some x c e)
          (let a = and_parts (eq_by_cmp call_cmp x.1.id id) (is_put x.1.mode) (and_parts (eq_by_cmp call_cmp x.1.id id && is_put x.1.mode) (not x.1.asked) may).0 in
          (all.0, not_fence x.1.mode a.1, same_is call_keys x.1.id id a.0)))
          (λ other e. found es all.1 c e)

      by_first : (es : List (ℕ × ChainState)) → AllByRecursion (λ (c : ℕ × ChainState). get t c.0 ≡ Some c.1) es → (o : Option (ℕ × ChainState)) → first_to_double id es ≡ o → Q (doubles t o)
      by_first es all None e = nothing
      by_first es all (Some c) e = (let f = found es all c e in doubled c.0 c.1 f.0 f.1 f.2)

-- One row is this now, but for its tries.
pub record IsSet (t : Table) (v : ℕ) (row : ChainState) (u : Table) : Type 0 where
  pub here : ChainState
  pub there : get u v ≡ Some here
  pub same : SameRow row here
  pub others : (w : ℕ) → ((w ≡ v) → ⊥) → get u w ≡ get t w

set_once : (t : Table) (v : ℕ) (row : ChainState) → IsSet t v row (insert t v row)
set_once t v row = record {
  here = row;
  there = insert_here nat_keys t v row;
  same = record { id = refl; list = refl; remote = refl; fence = refl };
  others = λ w other. insert_apart nat_keys t v row w (apart_of_ne nat_keys w v other);
}

-- A row that is taken up: a new one by the policy, or the one that is there.
abbrev pub IsTakenUp : Table → PrimeRec → Policy → ChainState → Type 0
IsTakenUp t rec policy row = ((get t rec.v ≡ None) × (row ≡ added rec (mode_for rec policy))) ⊎ ((chain : ChainState) × (get t rec.v ≡ Some chain) × (row ≡ record chain { tries = next_try chain.tries }))

module _ (Q : Ruled → Type 0) (term : ℕ) where
  -- a message of a row leaves
  sends_at : (t : Table) (v : ℕ) (row : ChainState) → (m : Mode) → row.mode ≡ m
      → (is_fence row.mode ≡ false → (u : Table) (tries : ℕ) → IsSet t v row u → Q (record { table = u; letters = Cross row.remote tries (says.Remote term v row.list) ∷ [] }))
      → (is_fence row.mode ≡ true → (u : Table) (tries : ℕ) → IsSet t v row u → Q (record { table = u; letters = Cross row.remote tries (says.Fence term v (keys_of row.list)) ∷ [] }))
      → Q (sends term (insert t v row, message m v))
  sends_at t v row Put e puts fences = subst (λ (o : Option ChainState). Q (sends_by term (insert t v row) (send.Remote v) o)) (sym (insert_here nat_keys t v row)) (puts (ap is_fence e) _ _ (set_once t v row))
  sends_at t v row Doubled e puts fences = subst (λ (o : Option ChainState). Q (sends_by term (insert t v row) (send.Remote v) o)) (sym (insert_here nat_keys t v row)) (puts (ap is_fence e) _ _ (set_once t v row))
  sends_at t v row Fence e puts fences = subst (λ (o : Option ChainState). Q (sends_by term (insert t v row) (send.Fence v) o)) (sym (insert_here nat_keys t v row)) (fences (ap is_fence e) _ _ (set_once t v row))

  -- a chain that is taken up is in the table, and its Remote or Fence leaves
  pub resume_cases : (t : Table) (rec : PrimeRec) (policy : Policy)
      → ((row : ChainState) → IsTakenUp t rec policy row → is_fence row.mode ≡ false → (u : Table) (tries : ℕ) → IsSet t rec.v row u → Q (record { table = u; letters = Cross row.remote tries (says.Remote term rec.v row.list) ∷ [] }))
      → ((row : ChainState) → IsTakenUp t rec policy row → is_fence row.mode ≡ true → (u : Table) (tries : ℕ) → IsSet t rec.v row u → Q (record { table = u; letters = Cross row.remote tries (says.Fence term rec.v (keys_of row.list)) ∷ [] }))
      → Q (sends term (resume t rec policy))
  resume_cases t rec policy puts fences = by_row (get t rec.v) refl
    where
      by_row : (o : Option ChainState) → get t rec.v ≡ o → Q (sends term (resumes t rec policy o))
      by_row None e = (let row : ChainState = added rec (mode_for rec policy) in sends_at t rec.v row (mode_for rec policy) refl (puts row (inl (e, refl))) (fences row (inl (e, refl))))
      by_row (Some chain) e = (let row : ChainState = record chain { tries = next_try chain.tries } in sends_at t rec.v row chain.mode refl (puts row (inr (chain, e, refl))) (fences row (inr (chain, e, refl))))

  -- a chain that begins is in the table, and its Remote leaves
  pub primed_case : (t : Table) (rec : PrimeRec)
      → ((u : Table) (tries : ℕ) → IsSet t rec.v (added rec Put) u → Q (record { table = u; letters = Cross rec.remote tries (says.Remote term rec.v rec.list) ∷ [] }))
      → Q (sends term (on_primed t rec))
  primed_case t rec puts = sends_at t rec.v (added rec Put) Put refl (λ _. puts) (λ fence. absurd (false≢true fence))
