-- What the rules propose and send names its chain.
use Rattle.std.proofs.Common.{◌≡◌, inl, inr, ℕ, Option, None, Some, Bool, true, false, cond, refl, ap, sym, ◌∙◌, subst}
use Rattle.std.specs.Prelude.{not, ◌&&◌}
use Rattle.std.specs.Ordering.{eq_by_cmp}
use Rattle.std.specs.FinMap.{entries, get, insert}
use Rattle.std.proofs.lemmas.Bool.{cases_Bool}
use Rattle.std.proofs.lemmas.Option.{same_Some}
use Rattle.graph_model.specs.Keys.{call_cmp}
use Rattle.graph_model.specs.declared.call_id.CallId.{CallId}
use Rattle.graph_model.proofs.KeyLemmas.{call_keys}
use Rattle.maps.proofs.Keys.{nat_keys, same_is}
use Rattle.maps.proofs.Updates.{insert_here}
use Rattle.maps.proofs.Found.{found_is}
use Rattle.part_keys.specs.declared.chain.PrimeRec.{PrimeRec}
use Rattle.part_keys.specs.declared.chain.ChainState.{ChainState}
use Rattle.part_keys.specs.declared.chain.Mode.{Mode}
use Rattle.part_keys.specs.declared.chain.Mode.TheVariants.{Put, Doubled, Fence}
use Rattle.part_keys.specs.declared.chain.ChainMsg.{ChainMsg}
use Rattle.part_keys.specs.declared.chain.ChainMsg.TheVariants as send
use Rattle.part_keys.specs.declared.chain.Policy.{Policy}
use Rattle.part_keys.specs.declared.entry.PartEntry.{PartEntry}
use Rattle.chain_leader.specs.Rules.{Table, added, message, asks, asks_once, ending_done, is_put, may_double, first_to_double, doubles, mode_for, next_try, resumes, ending_fenced}
use Rattle.chain_leader.specs.Leading.{number_in, sends_by, sends}
use Rattle.chain_leader.specs.Names.{Ends, Doubles, Crosses, CrossesBy, NameTheirChains}

-- both of two tests
pub both_true : (a b : Bool) → (a && b) ≡ true → (a ≡ true) × (b ≡ true)
both_true true b h = (refl, h)
both_true false b h = absurd (cc)

-- a mode that is Put
pub put_mode : (mode : Mode) → is_put mode ≡ true → mode ≡ Put
put_mode Put h = refl
put_mode Doubled h = absurd (cc)
put_mode Fence h = absurd (cc)

-- what isn't asked
not_asked : (b : Bool) → not b ≡ true → b ≡ false
not_asked true h = absurd (cc)
not_asked false h = refl

module _ (t : Table) where
  -- what is asked is what the mode asks for
  asked_of : (v : ℕ) (chain : ChainState) (o : Option PartEntry) (x : PartEntry) → (asks t v chain o).1 ≡ Some x → o ≡ Some x
  asked_of v chain None x h = h
  asked_of v chain (Some y) x h = h

  -- an entry that ends a chain names it
  pub ends_by : (v : ℕ) (ending : Mode → Option PartEntry) (x : PartEntry) (o : Option ChainState) → get t v ≡ o → (asks_once t v (λ chain. ending chain.mode) o).1 ≡ Some x → Ends t v ending x
  ends_by v ending x None e h = absurd (let k : None ≡ Some x = h in cc)
  ends_by v ending x (Some chain) e h = elim (cases_Bool chain.asked) [
    | inl asked ↦ absurd (let k : None ≡ Some x = sym (ap (λ b. (cond b (t, None) (asks t v chain (ending chain.mode))).1) asked) ∙ h in cc)
    | inr unasked ↦ record {
      chain = chain;
      there = e;
      unasked = unasked;
      is = asked_of v chain (ending chain.mode) x (sym (ap (λ b. (cond b (t, None) (asks t v chain (ending chain.mode))).1) unasked) ∙ h);
    }
  ]

  -- the first chain that may be doubled is in the table, and may be
  pub found_entry : (id : CallId) (c : ℕ × ChainState) → first_to_double id (entries t) ≡ Some c → (get t c.0 ≡ Some c.1) × (may_double id c.1 ≡ true)
  found_entry id c h =
      let f = found_is nat_keys (may_double id) (λ x. x) (first_to_double id) refl (λ e es. refl) t c h in
      (subst (λ (x : ℕ × ChainState). get t x.0 ≡ Some x.1) f.4 f.2, subst (λ (x : ℕ × ChainState). may_double id x.1 ≡ true) f.4 f.3)

  -- a Double names such a chain
  doubles_by : (id : CallId) (x : PartEntry) (o : Option (ℕ × ChainState)) → first_to_double id (entries t) ≡ o → (doubles t o).1 ≡ Some x → Doubles t id x
  doubles_by id x None e h = absurd (let k : None ≡ Some x = h in cc)
  doubles_by id x (Some c) e h =
      let f = found_entry id c e in
      let fit = both_true (eq_by_cmp call_cmp c.1.id id && is_put c.1.mode) (not c.1.asked) f.1 in
      let its = both_true (eq_by_cmp call_cmp c.1.id id) (is_put c.1.mode) fit.0 in
      record {
        v = c.0;
        chain = c.1;
        there = f.0;
        its = same_is call_keys c.1.id id its.0;
        put = put_mode c.1.mode its.1;
        unasked = not_asked c.1.asked fit.1;
        is = sym (same_Some _ _ h);
      }

-- a message that leaves is of the chain of the table
crosses_by : (term : ℕ) (t : Table) (m : ChainMsg) (c : ChainState) (o : Option ChainState) → o ≡ Some c → Crosses term (number_in m) c.remote c.list (sends_by term t m o).letters
crosses_by term t (send.Remote v) c o e = record { tries = c.tries; is = inl (ap (λ x. (sends_by term t (send.Remote v) x).letters) e) }
crosses_by term t (send.Fence v) c o e = record { tries = c.tries; is = inr (ap (λ x. (sends_by term t (send.Fence v) x).letters) e) }

-- a row that was put into the table, and its message
crosses_put : (term : ℕ) (t : Table) (v : ℕ) (c : ChainState) (mode : Mode) → Crosses term v c.remote c.list (sends term (insert t v c, message mode v)).letters
crosses_put term t v c Put = crosses_by term (insert t v c) (send.Remote v) c (get (insert t v c) v) (insert_here nat_keys t v c)
crosses_put term t v c Doubled = crosses_by term (insert t v c) (send.Remote v) c (get (insert t v c) v) (insert_here nat_keys t v c)
crosses_put term t v c Fence = crosses_by term (insert t v c) (send.Fence v) c (get (insert t v c) v) (insert_here nat_keys t v c)

-- the message of a chain that is taken up
crosses_resumed : (term : ℕ) (t : Table) (rec : PrimeRec) (policy : Policy) (o : Option ChainState) → CrossesBy term rec o (sends term (resumes t rec policy o)).letters
crosses_resumed term t rec policy None = crosses_put term t rec.v (added rec (mode_for rec policy)) (mode_for rec policy)
crosses_resumed term t rec policy (Some chain) = crosses_put term t rec.v (record chain { tries = next_try chain.tries }) chain.mode

-- each rule names its chain
pub names : (t : Table) → NameTheirChains t
names t = record {
  done = λ v x h. ends_by t v (ending_done v) x (get t v) refl h;
  fenced = λ v written x h. ends_by t v (ending_fenced v written) x (get t v) refl h;
  given_up = λ id x h. doubles_by t id x (first_to_double id (entries t)) refl h;
  primed = λ term rec. crosses_put term t rec.v (added rec Put) Put;
  resumed = λ term rec policy. crosses_resumed term t rec policy (get t rec.v);
}
