-- What an entry makes of the state, and what its plan makes of the store and of the index.
use Rattle.std.proofs.Common.{◌≡◌, inl, inr, ℕ, suc, ◌^◌, ◌<◌, ◌≤◌, [], Option, None, Some, true, false, refl, ap, sym, subst, ◌∙◌, arith}
use Rattle.std.specs.Prelude.{◌==◌, if◌then◌else◌}
use Rattle.std.specs.FinMap.{FinMap, get, insert, remove}
use Rattle.std.specs.Ordering.{nat_cmp}
use Rattle.graph_bytes.specs.Fits.{IsSmall}
use Rattle.graph_model.specs.declared.call_id.CallId.{CallId}
use Rattle.kv_part.specs.Store.{Contents, written}
use Rattle.maps.specs.Maps.{altered_from}
use Rattle.maps.proofs.Keys.{nat_keys}
use Rattle.maps.proofs.Updates.{put_there}
use Rattle.part_keys.specs.declared.chain.PrimeRec.{PrimeRec}
use Rattle.part_keys.specs.declared.entry.PartEntry.{PartEntry}
use Rattle.part_keys.specs.declared.key.Key.TheVariants.{Client, Guard}
use Rattle.part_keys.specs.Keys.{FitsKey}
use Rattle.part_rules.specs.Part.{Part}
use Rattle.part_rules.specs.Machine.{applied, keeping, coming_to, with_outcome, where_new}
use Rattle.part_rules.specs.declared.applied.Applied.{Applied}
use Rattle.part_rules.specs.declared.kept.Kept.{Kept}
use Rattle.part_rules.specs.declared.kept.Outcome.{Outcome}
use Rattle.part_rules.proofs.FoldsChains.{split_insert, split_remove}
use Rattle.part_store.specs.Keeps.{Keeps, FitsOutcome}
use Rattle.part_store.specs.Settings.{IsSetting}
use Rattle.part_store.specs.Reads.{last_in_store}
use Rattle.part_store.specs.Writes.{client_writes}
use Rattle.part_store.specs.declared.setting.Setting.{Setting}
use Rattle.part_store.proofs.Changes.{keeps_client}
use Rattle.part_store.proofs.Reading.{last_is}
use Rattle.part_machine.specs.Calls.{seen_by, writes_if_last, outcome_writes}
use Rattle.part_machine.specs.Chains.{Chains, turned}
use Rattle.part_machine.specs.Plans.{IsOwn, IsState, IsNext, IsPlan}
use Rattle.part_machine.specs.declared.plan.Plan.{Plan}
use Rattle.part_machine.proofs.Seen.{seen_stays, new_goes}

module _ (s : Setting) (is : IsSetting s) where
  -- the part's number is a small one
  pub small_part : IsSmall s.part
  small_part = let w = is.within in let f = is.few in (is.one, omega arith)

  pub client_fits : (client : ℕ) → IsSmall client → FitsKey s.ids (Client s.part client)
  client_fits client small = (small_part, small)

  pub guard_fits : (source : ℕ) → IsSmall source → FitsKey s.ids (Guard s.part source)
  guard_fits source small = (small_part, small)

  -- ---- the outcome of a call

  outcome_by : (p q : Part) (n : Contents) (id : CallId) (o : Outcome) (w : Option Kept) → Keeps s q n → get q.clients id.client ≡ w → IsSmall id.client → FitsOutcome o
      → Keeps s (record q { clients = altered_from q.clients id.client (with_outcome id.number o) w }) (written n (writes_if_last s id o w))
  outcome_by p q n id o None keeps is-kept small fits = keeps
  outcome_by p q n id o (Some last) keeps is-kept small fits =
      elim (last.number == id.number) as (λ b. Keeps s (record q { clients = insert q.clients id.client (if b then record last { outcome = o } else last) }) (written n (if b then client_writes s id.client (record last { outcome = o }) else []))) [
        | true ↦ keeps_client s is.kind q n keeps id.client (record last { outcome = o }) (client_fits id.client small) (keeps.fits.clients id.client last is-kept).1 fits
        | false ↦ subst (λ (clients : FinMap nat_cmp Kept). Keeps s (record q { clients = clients }) n) (sym (put_there nat_keys q.clients id.client last is-kept)) keeps
      ]

  -- a store that keeps a state keeps the one with the call's outcome, behind the writes of it; what is known of the
  -- client was read before
  pub keeps_outcome : (p q : Part) (m n : Contents) (id : CallId) (o : Outcome) → Keeps s p m → Keeps s q n → q.clients ≡ p.clients → IsSmall id.client → FitsOutcome o
      → Keeps s (coming_to q id o) (written n (outcome_writes s m id o))
  keeps_outcome p q m n id o was keeps same small fits =
      let read : last_in_store s m id.client ≡ get q.clients id.client = last_is s p m was id.client (client_fits id.client small) ∙ ap (λ (c : FinMap nat_cmp Kept). get c id.client) (sym same) in
      subst (λ (w : Option Kept). Keeps s (coming_to q id o) (written n (writes_if_last s id o w))) (sym read)
      (outcome_by p q n id o (get q.clients id.client) keeps refl small fits)

  module _ {next index : ℕ} {p : Part} {m : Contents} {chains : Chains} (is-next : IsNext next index) (st : IsState s next p m chains) where
    -- a plan of an entry, by what the table makes of it
    pub plan_of : (entry : PartEntry) (plan : Plan) (r : Part × Applied) → applied s.parts index entry p ≡ r
        → IsState s (suc index) r.0 (written m plan.batch) (turned chains plan.turn) → plan.answer ≡ r.1 → IsPlan s index entry p m chains plan
    plan_of entry plan r made state answer = record {
      state = subst (λ (q : Part × Applied). IsState s (suc index) q.0 (written m plan.batch) (turned chains plan.turn)) (sym made) state;
      answer = answer ∙ ap (λ (q : Part × Applied). q.1) (sym made);
    }

    -- the chains stay
    pub stays : (q : Part) (n : Contents) → q.chains ≡ p.chains → Keeps s q n → IsState s (suc index) q n chains
    stays q n same keeps = record {
      keeps = keeps;
      same = st.same ∙ sym same;
      own = st.own;
      below = λ v c there. let b = st.below v c there in let r = is-next.risen in omega arith;
    }

    -- a chain begins, or has changed
    pub begins : (q : Part) (n : Contents) (v : ℕ) (chain : PrimeRec) → v ≤ index → q.chains ≡ insert p.chains v chain → IsOwn s chain → Keeps s q n → IsState s (suc index) q n (insert chains v chain)
    begins q n v chain within more own keeps = record {
      keeps = keeps;
      same = ap (λ (c : Chains). insert c v chain) st.same ∙ sym more;
      own = λ w c there. elim (split_insert chains v chain w c there) [
        | inl here ↦ subst (IsOwn s) here.1 own
        | inr old ↦ st.own w c old
      ];
      below = λ w c there. elim (split_insert chains v chain w c there) [
        | inl here ↦ (let e = here.0 in omega arith)
        | inr old ↦ (let b = st.below w c old in let r = is-next.risen in omega arith)
      ];
    }

    -- a chain ends
    pub ends : (q : Part) (n : Contents) (v : ℕ) → q.chains ≡ remove p.chains v → Keeps s q n → IsState s (suc index) q n (remove chains v)
    ends q n v less keeps = record {
      keeps = keeps;
      same = ap (λ (c : Chains). remove c v) st.same ∙ sym less;
      own = λ w c there. st.own w c (split_remove chains v w c there);
      below = λ w c there. let b = st.below w c (split_remove chains v w c there) in let r = is-next.risen in omega arith;
    }

    -- ---- plans that change no chain

    -- nothing changes
    pub still_plan : (entry : PartEntry) (a : Applied) → applied s.parts index entry p ≡ (p, a) → IsPlan s index entry p m chains (record { batch = []; turn = None; answer = a })
    still_plan entry a made = plan_of entry (record { batch = []; turn = None; answer = a }) (p, a) made (stays p m refl st.keeps) refl

    -- the call's number is kept
    pub keep_plan : (entry : PartEntry) (id : CallId) (o : Outcome) (a : Applied) → applied s.parts index entry p ≡ (keeping p id o, a) → IsSmall id.client → id.number < 2 ^ 64 → FitsOutcome o
        → IsPlan s index entry p m chains (record { batch = client_writes s id.client (record { number = id.number; outcome = o }); turn = None; answer = a })
    keep_plan entry id o a made small number fits =
        plan_of entry (record { batch = client_writes s id.client (record { number = id.number; outcome = o }); turn = None; answer = a }) (keeping p id o, a) made
        (stays (keeping p id o) (written m (client_writes s id.client (record { number = id.number; outcome = o }))) refl
        (keeps_client s is.kind p m st.keeps id.client (record { number = id.number; outcome = o }) (client_fits id.client small) number fits))
        refl

    last_read : (client : ℕ) → IsSmall client → get p.clients client ≡ last_in_store s m client
    last_read client small = sym (last_is s p m st.keeps client (client_fits client small))

    -- a call that was seen is answered again
    pub seen_plan : (entry : PartEntry) (id : CallId) (onward : Part × Applied) (a : Applied) → applied s.parts index entry p ≡ where_new p id onward → IsSmall id.client
        → seen_by id (last_in_store s m id.client) ≡ Some a → IsPlan s index entry p m chains (record { batch = []; turn = None; answer = a })
    seen_plan entry id onward a made small seen =
        still_plan entry a (made ∙ seen_stays p id onward (get p.clients id.client) a (ap (seen_by id) (last_read id.client small) ∙ seen))

    -- a new one goes on
    pub new_call : (id : CallId) (onward : Part × Applied) → IsSmall id.client → seen_by id (last_in_store s m id.client) ≡ None → where_new p id onward ≡ onward
    new_call id onward small seen = new_goes p id onward (get p.clients id.client) (ap (seen_by id) (last_read id.client small) ∙ seen)
