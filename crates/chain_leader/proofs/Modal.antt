-- The rules keep each chain's mode, and go by it.
use Rattle.std.proofs.Common.{◌≡◌, inl, inr, ℕ, [], ◌∷◌, Option, None, Some, Bool, true, false, refl, ap, sym, ◌∙◌, subst}
use Rattle.std.specs.Prelude.{not, ◌&&◌}
use Rattle.std.specs.Ordering.{eq_by_cmp}
use Rattle.std.specs.FinMap.{entries, get, insert, remove}
use Rattle.std.proofs.lemmas.Bool.{cond_both}
use Rattle.std.proofs.lemmas.Option.{same_Some, none-some}
use Rattle.maps.proofs.Keys.{nat_keys, same_or_apart}
use Rattle.maps.proofs.Updates.{insert_here, insert_apart, remove_here, remove_apart}
use Rattle.graph_model.specs.Keys.{call_cmp}
use Rattle.graph_model.specs.declared.call_id.CallId.{CallId}
use Rattle.part_keys.specs.declared.chain.PrimeRec.{PrimeRec}
use Rattle.part_keys.specs.declared.chain.ChainState.{ChainState}
use Rattle.part_keys.specs.declared.chain.ChainMsg.{ChainMsg}
use Rattle.part_keys.specs.declared.chain.ChainMsg.TheVariants as send
use Rattle.part_keys.specs.declared.chain.Mode.{Mode}
use Rattle.part_keys.specs.declared.chain.Mode.TheVariants.{Put, Doubled, Fence}
use Rattle.part_keys.specs.declared.chain.Policy.{Policy}
use Rattle.part_keys.specs.declared.entry.PartEntry.{PartEntry}
use Rattle.part_keys.specs.declared.entry.PartEntry.TheVariants.{Local, Close, Abort}
use Rattle.chain_leader.specs.declared.letter.Letter.TheVariants.{Cross}
use Rattle.chain_leader.specs.Rules.{Table, added, message, asks, asks_once, ending_done, is_put, first_to_double, doubles, mode_for, next_try, resumes, ending_fenced}
use Rattle.chain_leader.specs.Leading.{body_of, sends_by, sends}
use Rattle.chain_leader.specs.Modes.{is_fenced, KeepModes, GoesByMode, AsksByMode, OneMode}
use Rattle.chain_leader.proofs.Naming.{both_true, put_mode, ends_by, found_entry}

module _ (t : Table) where
  -- nothing changes
  same_modes : KeepModes t t
  same_modes = record { at = λ v c d has have. ap (λ (x : ChainState). is_fenced x.mode) (same_Some c d (sym has ∙ have)) }

  -- one row is written anew: where it was there before, with a mode on the same side
  row_modes : (v : ℕ) (row : ChainState) → ((c : ChainState) → get t v ≡ Some c → is_fenced c.mode ≡ is_fenced row.mode) → KeepModes t (insert t v row)
  row_modes v row same = record {
    at = λ w c d has have. elim (same_or_apart nat_keys w v) [
      | inl here ↦
          (let new : row ≡ d = same_Some row d (sym (insert_here nat_keys t v row) ∙ ap (get (insert t v row)) (sym here) ∙ have) in
          same c (ap (get t) (sym here) ∙ has) ∙ ap (λ (x : ChainState). is_fenced x.mode) new)
      | inr apart ↦ ap (λ (x : ChainState). is_fenced x.mode) (same_Some c d (sym has ∙ sym (insert_apart nat_keys t v row w apart) ∙ have))
    ];
  }

  -- a row that is there is written anew, with a mode on the same side
  changed_modes : (v : ℕ) (row next : ChainState) → get t v ≡ Some row → is_fenced row.mode ≡ is_fenced next.mode → KeepModes t (insert t v next)
  changed_modes v row next there same = row_modes v next (λ c has. ap (λ (x : ChainState). is_fenced x.mode) (same_Some c row (sym has ∙ there)) ∙ same)

  -- what ends a chain is asked for
  asked_modes : (v : ℕ) (ending : ChainState → Option PartEntry) (o : Option ChainState) → get t v ≡ o → KeepModes t (asks_once t v ending o).0
  asked_modes v ending None there = same_modes
  asked_modes v ending (Some row) there = cond_both row.asked _ _ (λ (made : Table × Option PartEntry). KeepModes t made.0) (λ _. same_modes) (λ _. by_ending (ending row))
    where
      by_ending : (e : Option PartEntry) → KeepModes t (asks t v row e).0
      by_ending None = same_modes
      by_ending (Some x) = changed_modes v row (record row { asked = true }) there refl

  -- a chain that may be doubled isn't fenced
  doubled_modes : (id : CallId) (o : Option (ℕ × ChainState)) → first_to_double id (entries t) ≡ o → KeepModes t (doubles t o).0
  doubled_modes id None found = same_modes
  doubled_modes id (Some c) found =
      (let f = found_entry t id c found in
      let fit = both_true (eq_by_cmp call_cmp c.1.id id && is_put c.1.mode) (not c.1.asked) f.1 in
      let put = both_true (eq_by_cmp call_cmp c.1.id id) (is_put c.1.mode) fit.0 in
      changed_modes c.0 c.1 (record c.1 { mode = Doubled }) f.0 (ap is_fenced (put_mode c.1.mode put.1)))

  -- a chain is taken up
  resumed_modes : (rec : PrimeRec) (policy : Policy) (o : Option ChainState) → get t rec.v ≡ o → KeepModes t (resumes t rec policy o).0
  resumed_modes rec policy None there = row_modes rec.v _ (λ c has. absurd (none-some c (sym there ∙ has)))
  resumed_modes rec policy (Some row) there = changed_modes rec.v row _ there refl

  -- a chain is forgotten
  forgotten_modes : (v : ℕ) → KeepModes t (remove t v)
  forgotten_modes v = record {
    at = λ w c d has have. elim (same_or_apart nat_keys w v) [
      | inl here ↦ absurd (none-some d (sym (remove_here nat_keys t v) ∙ ap (get (remove t v)) (sym here) ∙ have))
      | inr apart ↦ ap (λ (x : ChainState). is_fenced x.mode) (same_Some c d (sym has ∙ sym (remove_apart nat_keys t v w apart) ∙ have))
    ];
  }

-- the message of a row of the table
by_row : (term : ℕ) (t : Table) (v : ℕ) (row : ChainState) (m : ChainMsg) (o : Option ChainState) → o ≡ Some row → get t v ≡ Some row → m ≡ message row.mode v → GoesByMode term v (sends_by term t m o)
by_row term t v row m o e there kind = record {
  chain = row;
  there = ap (λ x. get (sends_by term t m x).table v) e ∙ there;
  is = ap (λ x. (sends_by term t m x).letters) e ∙ ap (λ k. Cross row.remote row.tries (body_of term row k) ∷ []) kind;
}

-- the message of a row that was put into the table
goes : (term : ℕ) (t : Table) (v : ℕ) (row : ChainState) (mode : Mode) → row.mode ≡ mode → GoesByMode term v (sends term (insert t v row, message mode v))
goes term t v row Put e = by_row term (insert t v row) v row (send.Remote v) _ (insert_here nat_keys t v row) (insert_here nat_keys t v row) (sym (ap (λ k. message k v) e))
goes term t v row Doubled e = by_row term (insert t v row) v row (send.Remote v) _ (insert_here nat_keys t v row) (insert_here nat_keys t v row) (sym (ap (λ k. message k v) e))
goes term t v row Fence e = by_row term (insert t v row) v row (send.Fence v) _ (insert_here nat_keys t v row) (insert_here nat_keys t v row) (sym (ap (λ k. message k v) e))

-- and of one that is taken up
resumed_goes : (term : ℕ) (t : Table) (rec : PrimeRec) (policy : Policy) (o : Option ChainState) → GoesByMode term rec.v (sends term (resumes t rec policy o))
resumed_goes term t rec policy None = goes term t rec.v (added rec (mode_for rec policy)) (mode_for rec policy) refl
resumed_goes term t rec policy (Some row) = goes term t rec.v (record row { tries = next_try row.tries }) row.mode refl

-- what a mode asks for when the in-halves are written, and when it is known whether they are
done_asks : (t : Table) (v : ℕ) (row : ChainState) (mode : Mode) (x : PartEntry) → get t v ≡ Some row → row.mode ≡ mode → ending_done v mode ≡ Some x → AsksByMode t v x
done_asks t v row Put x there kind e = subst (AsksByMode t v) (same_Some (Local v) x e) tt
done_asks t v row Doubled x there kind e = subst (AsksByMode t v) (same_Some (Close v) x e) (λ c has. ap (λ (y : ChainState). is_fenced y.mode) (same_Some c row (sym has ∙ there)) ∙ ap is_fenced kind)
done_asks t v row Fence x there kind e = absurd (none-some x e)

fence_asks : (t : Table) (v : ℕ) (written : Bool) (row : ChainState) (mode : Mode) (x : PartEntry) → get t v ≡ Some row → row.mode ≡ mode → ending_fenced v written mode ≡ Some x → AsksByMode t v x
fence_asks t v true row Fence x there kind e = subst (AsksByMode t v) (same_Some (Local v) x e) tt
fence_asks t v false row Fence x there kind e = subst (AsksByMode t v) (same_Some (Abort v) x e) (λ c has. ap (λ (y : ChainState). is_fenced y.mode) (same_Some c row (sym has ∙ there)) ∙ ap is_fenced kind)
fence_asks t v true row Put x there kind e = absurd (none-some x e)
fence_asks t v false row Put x there kind e = absurd (none-some x e)
fence_asks t v true row Doubled x there kind e = absurd (none-some x e)
fence_asks t v false row Doubled x there kind e = absurd (none-some x e)

-- the rules
pub modal : (t : Table) → OneMode t
modal t = record {
  primed = λ rec new. row_modes t rec.v _ (λ c has. absurd (none-some c (sym new ∙ has)));
  remote = λ v. asked_modes t v (λ chain. ending_done v chain.mode) (get t v) refl;
  given_up = λ id. doubled_modes t id (first_to_double id (entries t)) refl;
  resumed = λ rec policy. resumed_modes t rec policy (get t rec.v) refl;
  fenced = λ v written. asked_modes t v (λ chain. ending_fenced v written chain.mode) (get t v) refl;
  forgotten = forgotten_modes t;
  primed_goes = λ term rec. goes term t rec.v (added rec Put) Put refl;
  resumed_goes = λ term rec policy. resumed_goes term t rec policy (get t rec.v);
  remote_asks = λ v x h. (let e = ends_by t v (ending_done v) x (get t v) refl h in done_asks t v e.chain e.chain.mode x e.there refl e.is);
  fence_asks = λ v written x h. (let e = ends_by t v (ending_fenced v written) x (get t v) refl h in fence_asks t v written e.chain e.chain.mode x e.there refl e.is);
}
