-- A chain that becomes double, and all tags of a vertex removed.
use Rattle.std.proofs.Common.{◌≡◌, inl, inr, ℕ, List, [], ◌∷◌, ◌++◌, None, Some, Bool, true, false, cond, refl, ap, sym, subst, ◌∙◌}
use Rattle.std.specs.Prelude.{not, ◌||◌}
use Rattle.std.specs.FinMap.{FinMap, get, insert, remove, contains_key, retain_keys, get-retain_keys}
use Rattle.std.specs.List.{AllByRecursion}
use Rattle.std.specs.Ordering.{nat_cmp, eq_by_cmp}
use Rattle.graph_model.specs.Keys.{vid_cmp, tag_cmp}
use Rattle.graph_model.specs.declared.tag_key.TagKey.{TagKey}
use Rattle.graph_model.specs.declared.val.Val.{Val}
use Rattle.graph_model.specs.declared.vid.Vid.{Vid}
use Rattle.graph_model.proofs.KeyLemmas.{tag_keys, vid_keys}
use Rattle.kv_part.specs.Store.{Contents, after, written}
use Rattle.kv_part.specs.declared.batch.Write.{Write}
use Rattle.maps.specs.Keys.{has_key}
use Rattle.maps.proofs.Keys.{nat_keys, same_or_apart, same_is, apart_of_ne, not_apart}
use Rattle.maps.proofs.Pairs.{none_of}
use Rattle.maps.proofs.Updates.{same_by_keys, insert_here, insert_apart, remove_here, remove_apart}
use Rattle.part_keys.specs.declared.chain.PrimeRec.{PrimeRec}
use Rattle.part_keys.specs.declared.key.Key.TheVariants.{Tag}
use Rattle.part_keys.specs.KeyOrder.{tag_at}
use Rattle.part_keys.specs.Keys.{IsKind}
use Rattle.part_rules.specs.Part.{Part}
use Rattle.part_store.specs.Keeps.{Keeps, FitsTag}
use Rattle.part_store.specs.Writes.{set_at, standing_writes, standing_removals, tag_removals}
use Rattle.part_store.specs.declared.setting.Setting.{Setting}
use Rattle.part_store.proofs.Changing.{changed}
use Rattle.part_store.proofs.Facing.{tag_set, tag_here, tag_others}
use Rattle.part_store.proofs.Fitting.{fits_tag}
use Rattle.part_store.proofs.Standing.{with_chain, without_chain, ended_on}
use Rattle.part_store.proofs.Changes.{keeps_begun, keeps_ended}

-- writes, and others behind them
pub written-append : (m : Contents) (ws vs : List Write) → written m (ws ++ vs) ≡ written (written m ws) vs
written-append m [] vs = refl
written-append m (w ∷ ws) vs = written-append (after m w) ws vs

-- ---- a chain becomes double

-- what is put where something was taken out is put in its place
put_again : (m : FinMap nat_cmp PrimeRec) (v : ℕ) (c : PrimeRec) → insert (remove m v) v c ≡ insert m v c
put_again m v c = same_by_keys nat_keys _ _ (λ u. elim (same_or_apart nat_keys u v) as (λ _. get (insert (remove m v) v c) u ≡ get (insert m v c) u) [
  | inl is ↦ ap (get (insert (remove m v) v c)) is ∙ insert_here nat_keys (remove m v) v c ∙ sym (insert_here nat_keys m v c) ∙ ap (get (insert m v c)) (sym is)
  | inr apart ↦ insert_apart nat_keys (remove m v) v c u apart ∙ remove_apart nat_keys m v u apart ∙ sym (insert_apart nat_keys m v c u apart)
])

abbrev pub doubled_chain : PrimeRec → PrimeRec
doubled_chain chain = record chain { double = true }

module _ (s : Setting) (is-kind : IsKind s.ids) (p : Part) (m : Contents) (keeps : Keeps s p m) where
  pub keeps_doubled : (v : ℕ) (chain : PrimeRec) → get p.chains v ≡ Some chain → chain.double ≡ false
      → Keeps s (record p { chains = insert p.chains v (doubled_chain chain) }) (written m (standing_removals s false chain.list ++ standing_writes s true chain.v chain.id chain.list))
  keeps_doubled v chain stands single =
      let fits = keeps.fits.chains v chain stands in
      let ended = keeps_ended s is-kind p m keeps v chain stands in
      let begun = keeps_begun s is-kind (without_chain p v) (written m (standing_removals s chain.double chain.list)) ended v (doubled_chain chain)
      (record { fresh = remove_here nat_keys p.chains v; free = λ e on. ended_on p v chain stands keeps.fits.apart e on })
      (record { named = fits.named; number = fits.number; call = fits.call; once = fits.once; each = fits.each }) in
      subst (λ (chains : FinMap nat_cmp PrimeRec). Keeps s (record p { chains = chains }) (written m (standing_removals s false chain.list ++ standing_writes s true chain.v chain.id chain.list))) (put_again p.chains v (doubled_chain chain))
      (subst (λ (n : Contents). Keeps s (with_chain (without_chain p v) v (doubled_chain chain)) n)
      (ap (λ (b : Bool). written (written m (standing_removals s b chain.list)) (standing_writes s true chain.v chain.id chain.list)) single ∙ sym (written-append m (standing_removals s false chain.list) (standing_writes s true chain.v chain.id chain.list)))
      begun)

-- ---- tags of a vertex are removed

abbrev pub untagged : FinMap tag_cmp (List Val) → Vid → List ℕ → FinMap tag_cmp (List Val)
untagged m v [] = m
untagged m v (t ∷ ts) = untagged (remove m (tag_at v t)) v ts

stays_none : (m : FinMap tag_cmp (List Val)) (v : Vid) (ts : List ℕ) (k : TagKey) → get m k ≡ None → get (untagged m v ts) k ≡ None
stays_none m v [] k none = none
stays_none m v (t ∷ ts) k none = stays_none (remove m (tag_at v t)) v ts k (elim (same_or_apart tag_keys k (tag_at v t)) as (λ _. get (remove m (tag_at v t)) k ≡ None) [
  | inl is ↦ ap (get (remove m (tag_at v t))) is ∙ remove_here tag_keys m (tag_at v t)
  | inr apart ↦ remove_apart tag_keys m (tag_at v t) k apart ∙ none
])

none_within : (m : FinMap tag_cmp (List Val)) (v : Vid) (ts : List ℕ) (t : ℕ) → has_key nat_cmp t ts ≡ true → get (untagged m v ts) (tag_at v t) ≡ None
none_within m v [] t within = absurd cc
none_within m v (u ∷ ts) t within = elim (eq_by_cmp nat_cmp t u) as (λ b. eq_by_cmp nat_cmp t u ≡ b → (b || has_key nat_cmp t ts) ≡ true → get (untagged (remove m (tag_at v u)) v ts) (tag_at v t) ≡ None) [
  | true ↦ λ is _. stays_none (remove m (tag_at v u)) v ts (tag_at v t) (ap (λ (x : ℕ). get (remove m (tag_at v u)) (tag_at v x)) (same_is nat_keys t u is) ∙ remove_here tag_keys m (tag_at v u))
  | false ↦ λ _ later. none_within (remove m (tag_at v u)) v ts t later
] refl within

other_stays : (m : FinMap tag_cmp (List Val)) (v : Vid) (ts : List ℕ) (k : TagKey) → eq_by_cmp vid_cmp v k.vid ≡ false → get (untagged m v ts) k ≡ get m k
other_stays m v [] k apart = refl
other_stays m v (t ∷ ts) k apart = other_stays (remove m (tag_at v t)) v ts k apart ∙ remove_apart tag_keys m (tag_at v t) k (apart_of_ne tag_keys k (tag_at v t) (λ is. not_apart vid_keys v k.vid (sym (ap (λ (x : TagKey). x.vid) is)) apart))

module _ (m : FinMap tag_cmp (List Val)) (v : Vid) (ts : List ℕ) (all : (t : ℕ) → contains_key m (tag_at v t) ≡ true → has_key nat_cmp t ts ≡ true) where
  gone_at : (k : TagKey) (b : Bool) → eq_by_cmp vid_cmp v k.vid ≡ b → get (untagged m v ts) k ≡ cond (not b) (get m k) None
  gone_at k false apart = other_stays m v ts k apart
  gone_at k true is =
      let same : tag_at v k.tag ≡ k = ap (λ (u : Vid). tag_at u k.tag) (same_is vid_keys v k.vid is) in
      elim (contains_key m (tag_at v k.tag)) as (λ b. contains_key m (tag_at v k.tag) ≡ b → get (untagged m v ts) k ≡ None) [
        | true ↦ λ here. ap (get (untagged m v ts)) (sym same) ∙ none_within m v ts k.tag (all k.tag here)
        | false ↦ λ out. stays_none m v ts k (ap (get m) (sym same) ∙ none_of (get m (tag_at v k.tag)) out)
      ] refl

  -- all tags of the vertex are gone, and no other
  pub untagged_is : untagged m v ts ≡ retain_keys m (λ key. not (eq_by_cmp vid_cmp v key.vid))
  untagged_is = same_by_keys tag_keys _ _ (λ k.
      gone_at k (eq_by_cmp vid_cmp v k.vid) refl
      ∙ sym (get-retain_keys m (λ key. not (eq_by_cmp vid_cmp v key.vid)) k (λ x tied. ap (λ (y : TagKey). not (eq_by_cmp vid_cmp v y.vid)) (sym (tag_keys.exact k x tied)))))

module _ (s : Setting) (is-kind : IsKind s.ids) (v : Vid) where
  keeps_untagged : (p : Part) (m : Contents) (ts : List ℕ) → Keeps s p m → AllByRecursion (FitsTag s v) ts → Keeps s (record p { tags = untagged p.tags v ts }) (written m (tag_removals s v ts))
  keeps_untagged p m [] keeps all = keeps
  keeps_untagged p m (t ∷ ts) keeps all =
      keeps_untagged (tag_set s.part p v t None) (after m (set_at s.ids (Tag s.part v t) None)) ts
      (changed s is-kind p (tag_set s.part p v t None) m (Tag s.part v t) None all.0 refl keeps (tag_here s.part p v t None) (tag_others s.part p v t None) (fits_tag s p keeps.fits v t None all.0 (λ vals is. absurd cc)))
      all.1

  -- the vertex loses its tags, where all that it has are among these
  pub keeps_vertex_gone : (p : Part) (m : Contents) (ts : List ℕ) → Keeps s p m → AllByRecursion (FitsTag s v) ts → ((t : ℕ) → contains_key p.tags (tag_at v t) ≡ true → has_key nat_cmp t ts ≡ true)
      → Keeps s (record p { tags = retain_keys p.tags (λ key. not (eq_by_cmp vid_cmp v key.vid)) }) (written m (tag_removals s v ts))
  keeps_vertex_gone p m ts keeps fits all =
      subst (λ (tags : FinMap tag_cmp (List Val)). Keeps s (record p { tags = tags }) (written m (tag_removals s v ts))) (untagged_is p.tags v ts all) (keeps_untagged p m ts keeps fits)
