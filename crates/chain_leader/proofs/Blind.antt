-- The rules don't look at tries and hints.
use Rattle.std.proofs.Common.{◌≡◌, ℕ, List, [], ◌∷◌, map, Option, None, Some, Bool, true, false, cond, T, refl, ap, sym, ◌∙◌, subst}
use Rattle.std.specs.Prelude.{◌&&◌}
use Rattle.std.specs.Ordering.{nat_cmp, eq_by_cmp, is_lt}
use Rattle.std.specs.Option.{option_map}
use Rattle.std.specs.FinMap.{entries, entries_sorted, get, get-entries, get-insert, get-remove, insert, remove}
use Rattle.std.specs.FinMap.Entries.{find, below_all, is_sorted, same_entries}
use Rattle.std.proofs.lemmas.Option.{same_Some}
use Rattle.graph_model.specs.declared.call_id.CallId.{CallId}
use Rattle.maps.proofs.Keys.{nat_keys, same_is}
use Rattle.maps.proofs.Pairs.{at_key-map}
use Rattle.part_keys.specs.declared.chain.PrimeRec.{PrimeRec}
use Rattle.part_keys.specs.declared.chain.ChainState.{ChainState}
use Rattle.part_keys.specs.declared.chain.Mode.TheVariants.{Doubled}
use Rattle.part_keys.specs.declared.chain.Policy.{Policy}
use Rattle.part_keys.specs.declared.entry.PartEntry.{PartEntry}
use Rattle.part_keys.specs.declared.entry.PartEntry.TheVariants.{Double}
use Rattle.chain_leader.specs.Rules.{Table, message, asks, asks_once, ending_done, may_double, first_to_double, doubles, resumes, ending_fenced, forget}
use Rattle.chain_leader.specs.Laws.{bare, SameChains, SameMade, AreBlind}

-- of a list of entries, each without its route
abbrev pub bares : List (ℕ × ChainState) → List (ℕ × ChainState)
bares es = map (λ e. (e.0, bare e.1)) es

-- routes change no key: what is below all keys
below_bare : (x : ℕ) (es : List (ℕ × ChainState)) → below_all nat_cmp x (bares es) ≡ below_all nat_cmp x es
below_bare x [] = refl
below_bare x (e ∷ es) = ap (λ b. is_lt (nat_cmp x e.0) && b) (below_bare x es)

-- and that the keys rise
sorted_bare : (es : List (ℕ × ChainState)) → is_sorted nat_cmp (bares es) ≡ is_sorted nat_cmp es
sorted_bare [] = refl
sorted_bare (e ∷ es) = ap (λ b. b && is_sorted nat_cmp (bares es)) (below_bare e.0 es) ∙ ap (λ b. below_all nat_cmp e.0 es && b) (sorted_bare es)

-- what is found of a table without routes
found_bare : (t : Table) (q : ℕ) → find nat_cmp q (bares (entries t)) ≡ option_map bare (get t q)
found_bare t q = at_key-map nat_cmp (λ _. bare) (same_is nat_keys) q (entries t) ∙ ap (option_map bare) (sym (get-entries t q))

-- tables that agree but in routes have the same entries but for routes
pub same_bares : (t u : Table) → SameChains t u → bares (entries t) ≡ bares (entries u)
same_bares t u s = same_entries nat_cmp nat_keys.total nat_keys.exact (bares (entries t)) (bares (entries u))
    (subst T (sym (sorted_bare (entries t))) (entries_sorted t)) (subst T (sym (sorted_bare (entries u))) (entries_sorted u))
    (λ q. found_bare t q ∙ s.at q ∙ sym (found_bare u q))

-- a value that was put, without its route
put_bare : (b : Bool) (c : ChainState) (o : Option ChainState) → option_map bare (cond b (Some c) o) ≡ cond b (Some (bare c)) (option_map bare o)
put_bare true c o = refl
put_bare false c o = refl

-- a value that was taken out
out_bare : (b : Bool) (o : Option ChainState) → option_map bare (cond b None o) ≡ cond b None (option_map bare o)
out_bare true o = refl
out_bare false o = refl

-- what is put into a table
bare_put : (t : Table) (v : ℕ) (c : ChainState) (q : ℕ) → option_map bare (get (insert t v c) q) ≡ cond (eq_by_cmp nat_cmp q v) (Some (bare c)) (option_map bare (get t q))
bare_put t v c q = ap (option_map bare) (get-insert nat_keys.total t v c q) ∙ put_bare (eq_by_cmp nat_cmp q v) c (get t q)

-- tables that agree agree behind the same chain put into both
pub same_put : (t u : Table) (v : ℕ) (c d : ChainState) → SameChains t u → bare c ≡ bare d → SameChains (insert t v c) (insert u v d)
same_put t u v c d s e = record {
  at = λ q. bare_put t v c q ∙ ap (λ x. cond (eq_by_cmp nat_cmp q v) (Some x) (option_map bare (get t q))) e ∙ ap (λ o. cond (eq_by_cmp nat_cmp q v) (Some (bare d)) o) (s.at q) ∙ sym (bare_put u v d q);
}

-- what is forgotten
bare_out : (t : Table) (v q : ℕ) → option_map bare (get (remove t v) q) ≡ cond (eq_by_cmp nat_cmp q v) None (option_map bare (get t q))
bare_out t v q = ap (option_map bare) (get-remove nat_keys.total t v q) ∙ out_bare (eq_by_cmp nat_cmp q v) (get t q)

-- and behind the same chain forgotten
pub same_out : (t u : Table) (v : ℕ) → SameChains t u → SameChains (forget t v) (forget u v)
same_out t u v s = record { at = λ q. bare_out t v q ∙ ap (cond (eq_by_cmp nat_cmp q v) None) (s.at q) ∙ sym (bare_out u v q) }

-- of two tests that are the same
pub by_test : {A : Type 0} (a b : Bool) → a ≡ b → (P : A → A → Type 0) (x y z w : A) → P x z → P y w → P (cond a x y) (cond b z w)
by_test true true e P x y z w same other = same
by_test false false e P x y z w same other = other
by_test true false e P x y z w same other = absurd (cc)
by_test false true e P x y z w same other = absurd (cc)

module _ (t u : Table) (s : SameChains t u) where
  -- what is asked of two chains that agree
  same_asks : (v : ℕ) (c d : ChainState) (x y : Option PartEntry) → bare c ≡ bare d → x ≡ y → SameMade (asks t v c x) (asks u v d y)
  same_asks v c d None None e f = record { tables = s; answer = refl }
  same_asks v c d (Some x) (Some y) e f = record { tables = same_put t u v _ _ s (ap (λ (b : ChainState). record b { asked = true }) e); answer = f }
  same_asks v c d None (Some y) e f = absurd (cc)
  same_asks v c d (Some x) None e f = absurd (cc)

  -- what is asked once of the chains of two tables
  same_once : (v : ℕ) (ending : ChainState → Option PartEntry) → ((c d : ChainState) → bare c ≡ bare d → ending c ≡ ending d)
      → (o p : Option ChainState) → option_map bare o ≡ option_map bare p → SameMade (asks_once t v ending o) (asks_once u v ending p)
  same_once v ending alike None None e = record { tables = s; answer = refl }
  same_once v ending alike (Some c) (Some d) e =
      let f = same_Some _ _ e in
      by_test c.asked d.asked (ap (λ (b : ChainState). b.asked) f) SameMade _ _ _ _ (record { tables = s; answer = refl }) (same_asks v c d (ending c) (ending d) f (alike c d f))
  same_once v ending alike None (Some d) e = absurd (cc)
  same_once v ending alike (Some c) None e = absurd (cc)

  -- an entry without its route
  abbrev row_bare : ℕ × ChainState → ℕ × ChainState
  row_bare c = (c.0, bare c.1)

  -- the first chain that may be doubled is found without routes
  first_bare : (id : CallId) (es : List (ℕ × ChainState)) → option_map row_bare (first_to_double id es) ≡ first_to_double id (bares es)
  first_bare id [] = refl
  first_bare id (e ∷ es) = elim (may_double id e.1) as (λ b. option_map row_bare (cond b (Some e) (first_to_double id es)) ≡ cond b (Some (e.0, bare e.1)) (first_to_double id (bares es))) [
    | true ↦ refl
    | false ↦ first_bare id es
  ]

  -- the same chain is doubled
  same_doubles : (o p : Option (ℕ × ChainState)) → option_map row_bare o ≡ option_map row_bare p → SameMade (doubles t o) (doubles u p)
  same_doubles None None e = record { tables = s; answer = refl }
  same_doubles (Some c) (Some d) e =
      let f = same_Some _ _ e in
      let v : c.0 ≡ d.0 = ap (λ (x : ℕ × ChainState). x.0) f in
      let chain : bare c.1 ≡ bare d.1 = ap (λ (x : ℕ × ChainState). x.1) f in
      record {
        tables = subst (λ w. SameChains (insert t c.0 (record c.1 { mode = Doubled })) (insert u w (record d.1 { mode = Doubled }))) v (same_put t u c.0 _ _ s (ap (λ (b : ChainState). record b { mode = Doubled }) chain));
        answer = ap (λ w. Some (Double w)) v;
      }
  same_doubles None (Some d) e = absurd (cc)
  same_doubles (Some c) None e = absurd (cc)

  -- the same chain is taken up
  same_resumes : (rec : PrimeRec) (policy : Policy) (o p : Option ChainState) → option_map bare o ≡ option_map bare p → SameMade (resumes t rec policy o) (resumes u rec policy p)
  same_resumes rec policy None None e = record { tables = same_put t u rec.v _ _ s refl; answer = refl }
  same_resumes rec policy (Some c) (Some d) e =
      let f = same_Some _ _ e in
      record { tables = same_put t u rec.v _ _ s f; answer = ap (λ (b : ChainState). message b.mode rec.v) f }
  same_resumes rec policy None (Some d) e = absurd (cc)
  same_resumes rec policy (Some c) None e = absurd (cc)

  -- the rules
  pub blind : AreBlind t u
  blind = record {
    primed = λ rec. record { tables = same_put t u rec.v _ _ s refl; answer = refl };
    remote = λ v. same_once v (λ chain. ending_done v chain.mode) (λ c d e. ap (λ (b : ChainState). ending_done v b.mode) e) (get t v) (get u v) (s.at v);
    given_up = λ id. same_doubles (first_to_double id (entries t)) (first_to_double id (entries u)) (first_bare id (entries t) ∙ ap (first_to_double id) (same_bares t u s) ∙ sym (first_bare id (entries u)));
    resumed = λ rec policy. same_resumes rec policy (get t rec.v) (get u rec.v) (s.at rec.v);
    fenced = λ v written. same_once v (λ chain. ending_fenced v written chain.mode) (λ c d e. ap (λ (b : ChainState). ending_fenced v written b.mode) e) (get t v) (get u v) (s.at v);
    forgotten = λ v. same_out t u v s;
  }
