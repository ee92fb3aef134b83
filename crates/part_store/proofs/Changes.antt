-- Each change of a part's state, and the writes by which a store keeps up with it.
use Rattle.std.proofs.Common.{◌≡◌, inl, inr, ℕ, ◌<◌, ◌^◌, List, [], ◌∷◌, Option, None, Some, Bool, true, false, cond, refl, ap, ap₂, sym, subst, ◌∙◌}
use Rattle.std.specs.FinMap.{get, insert}
use Rattle.std.specs.List.{AllByRecursion}
use Rattle.std.specs.Ordering.{eq_by_cmp}
use Rattle.std.specs.Option.{option_map, option_or, unwrap_or}
use Rattle.std.specs.declared.cmp.Ordering.{Ordering}
use Rattle.std.proofs.lemmas.Bool.{false_from_ne_true}
use Rattle.std.proofs.lemmas.Option.{same_Some}
use Rattle.graph_bytes.specs.Fits.{FitsRow, FitsHalf}
use Rattle.graph_bytes.specs.Spelling.{row}
use Rattle.graph_model.specs.Contents.{row_of}
use Rattle.graph_model.specs.Edges.{edges_in, is_once_each}
use Rattle.graph_model.specs.Keys.{edge_cmp, in_cmp, in_key}
use Rattle.graph_model.specs.declared.edge_id.EdgeId.{EdgeId}
use Rattle.graph_model.specs.declared.half.Half.{Half}
use Rattle.graph_model.specs.declared.half.Half.TheVariants.{Absent, Here}
use Rattle.graph_model.specs.declared.in_key.InKey.{InKey}
use Rattle.graph_model.specs.declared.val.Val.{Val}
use Rattle.graph_model.specs.declared.vid.Vid.{Vid}
use Rattle.graph_model.proofs.KeyLemmas.{edge_keys, in_keys}
use Rattle.kv_part.specs.Store.{Contents, written}
use Rattle.maps.specs.Keys.{IsKeyOrder, has_key}
use Rattle.maps.specs.Lists.{at_key, put_all}
use Rattle.maps.proofs.Keys.{same_or_apart, same_itself}
use Rattle.maps.proofs.Pairs.{at_key_out, at_key_head, at_key_tail, has_key_of}
use Rattle.maps.proofs.Writing.{get-put_all}
use Rattle.part_keys.specs.declared.chain.PrimeRec.{PrimeRec}
use Rattle.part_keys.specs.declared.in_half.InHalf.{InHalf}
use Rattle.part_keys.specs.declared.key.Key.{Key}
use Rattle.part_keys.specs.declared.key.Key.TheVariants.{Tag, OutEdge, InEdge, Prime, DoublePrime, Guard, Client}
use Rattle.part_keys.specs.KeyOrder.{tag_at, part_in}
use Rattle.part_keys.specs.Keys.{IsKind, FitsKey}
use Rattle.part_rules.specs.FoldLaws.{by}
use Rattle.part_rules.specs.declared.kept.Kept.{Kept}
use Rattle.part_rules.specs.Machine.{out_written, in_halves}
use Rattle.part_rules.specs.Part.{Part, is_on}
use Rattle.part_rules.proofs.FoldsAt.{out_at, in_halves_at}
use Rattle.part_store.specs.Facts.{fact, prime_of, single_at, double_at}
use Rattle.part_store.specs.Keeps.{Keeps, FitsPart, FitsOut, FitsInto, FitsIn, FitsChain, FitsOutcome}
use Rattle.part_store.specs.Values.{in_value, prime_value, guard_value, client_value}
use Rattle.part_store.specs.Writes.{out_value, out_writes, in_writes, standing_key, standing_writes, standing_removals, guard_writes, client_writes, tag_writes}
use Rattle.part_store.specs.Laws.{IsNew}
use Rattle.part_store.specs.declared.setting.Setting.{Setting}
use Rattle.part_store.proofs.Changing.{changed}
use Rattle.part_store.proofs.Facing.{tag_set, tag_here, tag_others, guard_set, guard_here, guard_others, client_set, client_here, client_others}
use Rattle.part_store.proofs.Fitting.{fits_tag, fits_guard, fits_client, fits_begun, fits_ended}
use Rattle.part_store.proofs.ListWrites.{keeps_each}
use Rattle.part_store.proofs.Standing.{with_chain, without_chain, begun_on, begun_off, stood_on, ended_on, ended_off}

-- ---- one fact

module _ (s : Setting) (is-kind : IsKind s.ids) (p : Part) (m : Contents) (keeps : Keeps s p m) where
  pub keeps_tag : (v : Vid) (tag : ℕ) (vals : List Val) → FitsKey s.ids (Tag s.part v tag) → FitsRow vals → Keeps s (record p { tags = insert p.tags (tag_at v tag) vals }) (written m (tag_writes s v tag vals))
  keeps_tag v tag vals place fits = changed s is-kind p (tag_set s.part p v tag (Some vals)) m (Tag s.part v tag) (Some (row vals)) place refl keeps
      (tag_here s.part p v tag (Some vals)) (tag_others s.part p v tag (Some vals)) (fits_tag s p keeps.fits v tag (Some vals) place (λ ws is. subst FitsRow (same_row is) fits))
    where
      same_row : {ws : List Val} → ◌≡◌ {A = Option (List Val)} (Some vals) (Some ws) → vals ≡ ws
      same_row is = cc

  pub keeps_guard : (source term : ℕ) → FitsKey s.ids (Guard s.part source) → term < 2 ^ 64 → Keeps s (record p { guards = insert p.guards source term }) (written m (guard_writes s source term))
  keeps_guard source term place small = changed s is-kind p (guard_set s.part p source term) m (Guard s.part source) (Some (guard_value term)) place refl keeps
      (guard_here s.part p source term) (guard_others s.part p source term) (fits_guard s p keeps.fits source term place small)

  pub keeps_client : (client : ℕ) (last : Kept) → FitsKey s.ids (Client s.part client) → last.number < 2 ^ 64 → FitsOutcome last.outcome → Keeps s (record p { clients = insert p.clients client last }) (written m (client_writes s client last))
  keeps_client client last place small fits = changed s is-kind p (client_set s.part p client last) m (Client s.part client) (Some (client_value last)) place refl keeps
      (client_here s.part p client last) (client_others s.part p client last) (fits_client s p keeps.fits client last place small fits)

-- ---- lists

each_of : {A : Type 0} {P Q : A → Type 0} → ((a : A) → P a → Q a) → (xs : List A) → AllByRecursion P xs → AllByRecursion Q xs
each_of f [] all = tt
each_of f (x ∷ xs) all = (f x all.0, each_of f xs all.1)

-- what holds of each pair of a list holds of what is found in it
found_of : {K X : Type 0} {R : K → K → Ordering} → IsKeyOrder R → (P : K × X → Type 0) (list : List (K × X)) (k : K) (x : X) → AllByRecursion P list → at_key R k list ≡ Some x → P (k, x)
found_of o P [] k x all there = absurd cc
found_of {K} {X} {R} o P (y ∷ list) k x all there = elim (same_or_apart o k y.0) as (λ _. P (k, x)) [
  | inl is ↦
      let first : at_key R k (y ∷ list) ≡ Some y.1 = at_key_head R k y list (ap (λ (q : K). eq_by_cmp R q y.0) is ∙ same_itself o y.0) in
      let value-is : y.1 ≡ x = same_Some y.1 x (sym first ∙ there) in
      subst P (ap₂ (λ (q : K) (z : X). (q, z)) (sym is) value-is) all.0
  | inr apart ↦ found_of o P list k x all.1 (sym (at_key_tail R k y list apart) ∙ there)
]

out_same : (part : ℕ) (e f : EdgeId) → OutEdge part e ≡ OutEdge part f → e ≡ f
out_same part e f is = cc

in_same : (part : ℕ) (e f : EdgeId) → InEdge part e ≡ InEdge part f → e ≡ f
in_same part e f is = cc

standing_same : (double : Bool) (part : ℕ) (e f : EdgeId) → standing_key double part e ≡ standing_key double part f → e ≡ f
standing_same true part e f is = cc
standing_same false part e f is = cc

standing_part : (double : Bool) (part : ℕ) (e : EdgeId) → part_in (standing_key double part e) ≡ part
standing_part true part e = refl
standing_part false part e = refl

standing_fits : (s : Setting) (double : Bool) (x : EdgeId × Half) → FitsOut s x → FitsKey s.ids (standing_key double s.part x.0)
standing_fits s true x fits = fits.0
standing_fits s false x fits = fits.0

row_fits : (h : Half) (vals : List Val) → FitsHalf h → row_of h ≡ Some vals → FitsRow vals
row_fits Absent vals fits is = absurd cc
row_fits (Here ws) vals fits is = subst FitsRow (same_Some ws vals is) fits

-- ---- out-halves

abbrev pub with_outs : Part → List (EdgeId × Half) → Part
with_outs p list = record p { out = out_written p.out list }

module _ (s : Setting) (p : Part) (list : List (EdgeId × Half)) (all : AllByRecursion (FitsOut s) list) where
  fits_outs : FitsPart s p → FitsPart s (with_outs p list)
  fits_outs fits = record {
    out = λ e vals there. of_list e vals (at_key edge_cmp e list) refl (sym (out_at p.out list e) ∙ there);
    tags = fits.tags;
    inn = fits.inn;
    chains = fits.chains;
    apart = fits.apart;
    guards = fits.guards;
    clients = fits.clients;
  }
    where
      of_list : (e : EdgeId) (vals : List Val) (w : Option Half) → at_key edge_cmp e list ≡ w → unwrap_or (option_map row_of w) (get p.out e) ≡ Some vals → FitsKey s.ids (OutEdge s.part e) × FitsRow vals
      of_list e vals None is there = fits.out e vals there
      of_list e vals (Some h) is there = let f = found_of edge_keys (FitsOut s) list e h all is in (f.0, row_fits h vals f.1 there)

  outs_others : (l : Key) → part_in l ≡ s.part → ((e : EdgeId) → has_key edge_cmp e (edges_in list) ≡ true → OutEdge s.part e ≡ l → ⊥) → fact (with_outs p list) l ≡ fact p l
  outs_others (OutEdge r f) of ne =
      let out : at_key edge_cmp f list ≡ None = at_key_out edge_cmp f list (false_from_ne_true _ (λ t. ne f t (ap (λ (part : ℕ). OutEdge part f) (sym of)))) in
      ap (option_map row) (out_at p.out list f ∙ ap (λ (w : Option Half). unwrap_or (option_map row_of w) (get p.out f)) out)
  outs_others _ of ne = refl

  pub keeps_outs : IsKind s.ids → (m : Contents) → Keeps s p m → is_once_each (edges_in list) ≡ true → Keeps s (with_outs p list) (written m (out_writes s list))
  keeps_outs is-kind m keeps once =
      keeps_each s is-kind (λ e. OutEdge s.part e) out_value (λ e. refl) (out_same s.part) p (with_outs p list) m list keeps (each_of (λ x f. f.0) list all) once
      (λ e h there. ap (option_map row) (out_at p.out list e ∙ ap (λ (w : Option Half). unwrap_or (option_map row_of w) (get p.out e)) there))
      outs_others (fits_outs keeps.fits)

-- ---- in-halves

abbrev pub with_ins : Part → ℕ → List (EdgeId × Half) → Part
with_ins p v list = record p { inn = put_all p.inn (in_halves v list) }

module _ (s : Setting) (p : Part) (v : ℕ) (list : List (EdgeId × Half)) (all : AllByRecursion (FitsInto s) list) where
  ins_at : (e : EdgeId) → get (put_all p.inn (in_halves v list)) (in_key e) ≡ option_or (option_map (by v) (at_key edge_cmp e list)) (get p.inn (in_key e))
  ins_at e = get-put_all in_keys p.inn (in_halves v list) (in_key e) ∙ ap (λ (w : Option InHalf). option_or w (get p.inn (in_key e))) (in_halves_at v list e)

  fits_ins : v < 2 ^ 64 → FitsPart s p → FitsPart s (with_ins p v list)
  fits_ins small fits = record {
    inn = λ k half there. of_list k half (at_key in_cmp k (in_halves v list)) refl (sym (get-put_all in_keys p.inn (in_halves v list) k) ∙ there);
    tags = fits.tags;
    out = fits.out;
    chains = fits.chains;
    apart = fits.apart;
    guards = fits.guards;
    clients = fits.clients;
  }
    where
      each_in : (xs : List (EdgeId × Half)) → AllByRecursion (FitsInto s) xs → AllByRecursion (λ (y : InKey × InHalf). FitsIn s y.0 y.1) (in_halves v xs)
      each_in [] fit = tt
      each_in (x ∷ xs) fit = (record { is = refl; place = fit.0.0; number = small; value = fit.0.1 }, each_in xs fit.1)

      of_list : (k : InKey) (half : InHalf) (w : Option InHalf) → at_key in_cmp k (in_halves v list) ≡ w → option_or w (get p.inn k) ≡ Some half → FitsIn s k half
      of_list k half None is there = fits.inn k half there
      of_list k half (Some made) is there = subst (λ (x : InHalf). FitsIn s k x) (same_Some made half there) (found_of in_keys (λ y. FitsIn s y.0 y.1) (in_halves v list) k made (each_in list all) is)

  ins_others : (l : Key) → part_in l ≡ s.part → ((e : EdgeId) → has_key edge_cmp e (edges_in list) ≡ true → InEdge s.part e ≡ l → ⊥) → fact (with_ins p v list) l ≡ fact p l
  ins_others (InEdge r f) of ne =
      let out : at_key edge_cmp f list ≡ None = at_key_out edge_cmp f list (false_from_ne_true _ (λ t. ne f t (ap (λ (part : ℕ). InEdge part f) (sym of)))) in
      ap (option_map in_value) (ins_at f ∙ ap (λ (w : Option Half). option_or (option_map (by v) w) (get p.inn (in_key f))) out)
  ins_others _ of ne = refl

  pub keeps_ins : IsKind s.ids → (m : Contents) → Keeps s p m → is_once_each (edges_in list) ≡ true → v < 2 ^ 64 → Keeps s (with_ins p v list) (written m (in_writes s v list))
  keeps_ins is-kind m keeps once small =
      keeps_each s is-kind (λ e. InEdge s.part e) (λ x. Some (in_value (by v x.1))) (λ e. refl) (in_same s.part) p (with_ins p v list) m list keeps (each_of (λ x f. f.0) list all) once
      (λ e h there. ap (option_map in_value) (ins_at e ∙ ap (λ (w : Option Half). option_or (option_map (by v) w) (get p.inn (in_key e))) there))
      ins_others (fits_ins small keeps.fits)

-- ---- chains

-- where a chain that isn't on the edge begins or ends, the edge's facts stay; where it is on it, only those of its own kind change
module _ (chain : PrimeRec) (e : EdgeId) where
  single_none : chain.double ≡ true → single_at e (Some chain) ≡ None
  single_none double = ap (λ (b : Bool). cond b None (prime_of e chain)) double

  double_none : chain.double ≡ false → double_at e (Some chain) ≡ None
  double_none single = ap (λ (b : Bool). cond b (prime_of e chain) None) single

by_double : {G : Type 0} (double : Bool) → (double ≡ true → G) → (double ≡ false → G) → G
by_double true on off = on refl
by_double false on off = off refl

module _ (s : Setting) (is-kind : IsKind s.ids) (p : Part) (m : Contents) (keeps : Keeps s p m) (v : ℕ) (chain : PrimeRec) where
  -- the facts of a chain that begins
  begun_here : IsNew p v chain → (e : EdgeId) (h : Half) → at_key edge_cmp e chain.list ≡ Some h → (double : Bool) → chain.double ≡ double → fact (with_chain p v chain) (standing_key double s.part e) ≡ Some (prime_value chain.v chain.id h)
  begun_here new e h there true is =
      ap (double_at e) (begun_on p v chain new e (has_key_of edge_cmp e chain.list h there)) ∙ ap (λ (b : Bool). cond b (prime_of e chain) None) is ∙ ap (option_map (prime_value chain.v chain.id)) there
  begun_here new e h there false is =
      ap (single_at e) (begun_on p v chain new e (has_key_of edge_cmp e chain.list h there)) ∙ ap (λ (b : Bool). cond b None (prime_of e chain)) is ∙ ap (option_map (prime_value chain.v chain.id)) there

  begun_others : IsNew p v chain → (l : Key) → part_in l ≡ s.part → ((e : EdgeId) → has_key edge_cmp e (edges_in chain.list) ≡ true → standing_key chain.double s.part e ≡ l → ⊥) → fact (with_chain p v chain) l ≡ fact p l
  begun_others new (Prime r f) of ne = by_double (is_on f chain)
      (λ on. by_double chain.double
      (λ double. ap (single_at f) (begun_on p v chain new f on) ∙ single_none chain f double ∙ ap (single_at f) (sym (new.free f on)))
      (λ single. absurd (ne f on (ap (λ (b : Bool). standing_key b s.part f) single ∙ ap (λ (part : ℕ). Prime part f) (sym of)))))
      (λ off. ap (single_at f) (begun_off p v chain new keeps.fits.apart f off))
  begun_others new (DoublePrime r f) of ne = by_double (is_on f chain)
      (λ on. by_double chain.double
      (λ double. absurd (ne f on (ap (λ (b : Bool). standing_key b s.part f) double ∙ ap (λ (part : ℕ). DoublePrime part f) (sym of))))
      (λ single. ap (double_at f) (begun_on p v chain new f on) ∙ double_none chain f single ∙ ap (double_at f) (sym (new.free f on))))
      (λ off. ap (double_at f) (begun_off p v chain new keeps.fits.apart f off))
  begun_others new _ of ne = refl

  -- a chain begins
  pub keeps_begun : IsNew p v chain → FitsChain s v chain → Keeps s (with_chain p v chain) (written m (standing_writes s chain.double chain.v chain.id chain.list))
  keeps_begun new fits =
      keeps_each s is-kind (standing_key chain.double s.part) (λ x. Some (prime_value chain.v chain.id x.1)) (standing_part chain.double s.part) (standing_same chain.double s.part)
      p (with_chain p v chain) m chain.list keeps (each_of (standing_fits s chain.double) chain.list fits.each) fits.once
      (λ e h there. begun_here new e h there chain.double refl) (begun_others new) (fits_begun s p keeps.fits v chain new fits)

  module _ (stands : get p.chains v ≡ Some chain) where
    ended_here : (e : EdgeId) → is_on e chain ≡ true → (double : Bool) → fact (without_chain p v) (standing_key double s.part e) ≡ None
    ended_here e on true = ap (double_at e) (ended_on p v chain stands keeps.fits.apart e on)
    ended_here e on false = ap (single_at e) (ended_on p v chain stands keeps.fits.apart e on)

    ended_others : (l : Key) → part_in l ≡ s.part → ((e : EdgeId) → has_key edge_cmp e (edges_in chain.list) ≡ true → standing_key chain.double s.part e ≡ l → ⊥) → fact (without_chain p v) l ≡ fact p l
    ended_others (Prime r f) of ne = by_double (is_on f chain)
        (λ on. by_double chain.double
        (λ double. ap (single_at f) (ended_on p v chain stands keeps.fits.apart f on) ∙ sym (single_none chain f double) ∙ ap (single_at f) (sym (stood_on p v chain stands keeps.fits.apart f on)))
        (λ single. absurd (ne f on (ap (λ (b : Bool). standing_key b s.part f) single ∙ ap (λ (part : ℕ). Prime part f) (sym of)))))
        (λ off. ap (single_at f) (ended_off p v chain stands keeps.fits.apart f off))
    ended_others (DoublePrime r f) of ne = by_double (is_on f chain)
        (λ on. by_double chain.double
        (λ double. absurd (ne f on (ap (λ (b : Bool). standing_key b s.part f) double ∙ ap (λ (part : ℕ). DoublePrime part f) (sym of))))
        (λ single. ap (double_at f) (ended_on p v chain stands keeps.fits.apart f on) ∙ sym (double_none chain f single) ∙ ap (double_at f) (sym (stood_on p v chain stands keeps.fits.apart f on))))
        (λ off. ap (double_at f) (ended_off p v chain stands keeps.fits.apart f off))
    ended_others _ of ne = refl

    -- a chain ends
    pub keeps_ended : Keeps s (without_chain p v) (written m (standing_removals s chain.double chain.list))
    keeps_ended =
        let fits = keeps.fits.chains v chain stands in
        keeps_each s is-kind (standing_key chain.double s.part) (λ x. None) (standing_part chain.double s.part) (standing_same chain.double s.part)
        p (without_chain p v) m chain.list keeps (each_of (standing_fits s chain.double) chain.list fits.each) fits.once
        (λ e h there. ended_here e (has_key_of edge_cmp e chain.list h there) chain.double) ended_others (fits_ended s p keeps.fits v chain stands)
