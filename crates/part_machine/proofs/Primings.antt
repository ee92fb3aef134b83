-- The plans of a Prime.
use Rattle.std.proofs.Common.{◌≡◌, ◌≢◌, ℕ, ◌^◌, ◌<◌, List, [], ◌∷◌, ◌++◌, filter, Option, None, Some, Bool, true, false, cond, refl, ap, sym, subst, ◌∙◌, arith}
use Rattle.std.specs.Prelude.{not, ◌&&◌}
use Rattle.std.specs.FinMap.{get, insert, contains_key}
use Rattle.std.specs.List.{AllByRecursion}
use Rattle.std.specs.Option.{option_map}
use Rattle.std.proofs.lemmas.Option.{same_Some}
use Rattle.graph_bytes.specs.Fits.{IsSmall}
use Rattle.graph_model.specs.Edges.{edges_in, is_once_each}
use Rattle.graph_model.specs.declared.call_id.CallId.{CallId}
use Rattle.graph_model.specs.declared.edge_id.EdgeId.{EdgeId}
use Rattle.graph_model.specs.declared.half.Half.{Half}
use Rattle.kv_part.specs.Store.{Contents, written}
use Rattle.maps.specs.Lists.{has_all}
use Rattle.part_keys.specs.declared.chain.PrimeRec.{PrimeRec}
use Rattle.part_keys.specs.declared.entry.PartEntry.TheVariants.{Prime}
use Rattle.part_rules.specs.Part.{Part, is_on, chain_on, chain_on_any}
use Rattle.part_rules.specs.Machine.{keeping, taken_of, leaves_all, beginning, primed_by}
use Rattle.part_rules.specs.declared.applied.Applied.{Applied}
use Rattle.part_rules.specs.declared.applied.Applied.TheVariants.{Conflict, Skipped, Begun}
use Rattle.part_rules.specs.declared.kept.Outcome.TheVariants as kept
use Rattle.part_rules.proofs.FoldsChains.{none_any}
use Rattle.part_rules.proofs.FoldsTaken.{taken_on}
use Rattle.part_store.specs.Keeps.{Keeps, FitsOut, FitsOutcome}
use Rattle.part_store.specs.Reads.{last_in_store}
use Rattle.part_store.specs.Settings.{IsSetting, AreFrom}
use Rattle.part_store.specs.Writes.{client_writes, standing_writes}
use Rattle.part_store.specs.declared.setting.Setting.{Setting}
use Rattle.part_store.proofs.Changes.{keeps_begun, keeps_client}
use Rattle.part_store.proofs.Standing.{with_chain}
use Rattle.part_store.proofs.Doubling.{written-append}
use Rattle.part_machine.specs.Calls.{seen_by, begun_chain, begun_plan}
use Rattle.part_machine.specs.Chains.{Chains}
use Rattle.part_machine.specs.Edges.{is_taken, id_of}
use Rattle.part_machine.specs.Plans.{IsState, IsNext, IsPlan}
use Rattle.part_machine.proofs.States.{plan_of, keep_plan, seen_plan, new_call, begins, client_fits}

-- what a Prime takes of a list
all_pass : (list : List (EdgeId × Half)) → filter (λ x. true) list ≡ list
all_pass [] = refl
all_pass (x ∷ list) = ap (λ l. x ∷ l) (all_pass list)

pub taken_is : (p : Part) (absent : Bool) (list : List (EdgeId × Half)) → filter (is_taken p absent) list ≡ taken_of p list absent
taken_is p true list = refl
taken_is p false list = all_pass list

-- where it takes none of some edges it leaves all
none_taken : (p : Part) (list : List (EdgeId × Half)) → filter (is_taken p true) list ≡ [] → has_all p.out (edges_in list) ≡ true
none_taken p [] none = refl
none_taken p (x ∷ list) none =
    elim (contains_key p.out x.0) as (λ b. cond (not b) (x ∷ filter (is_taken p true) list) (filter (is_taken p true) list) ≡ [] → (b && has_all p.out (edges_in list)) ≡ true) [
      | true ↦ λ more. none_taken p list more
      | false ↦ λ more. absurd cc
    ] none

pub leaves : (p : Part) (list : List (EdgeId × Half)) (absent : Bool) → list ≢ [] → filter (is_taken p absent) list ≡ [] → leaves_all p list absent ≡ true
leaves p list true some none = none_taken p list none
leaves p list false some none = absurd (some (sym (all_pass list) ∙ none))

-- where it takes one it doesn't
one_taken : (p : Part) (list : List (EdgeId × Half)) → has_all p.out (edges_in list) ≡ true → filter (is_taken p true) list ≡ []
one_taken p [] all = refl
one_taken p (x ∷ list) all =
    elim (contains_key p.out x.0) as (λ b. (b && has_all p.out (edges_in list)) ≡ true → cond (not b) (x ∷ filter (is_taken p true) list) (filter (is_taken p true) list) ≡ []) [
      | true ↦ λ more. one_taken p list more
      | false ↦ λ more. absurd cc
    ] all

takes_by : (p : Part) (list : List (EdgeId × Half)) (b : Bool) → (b ≡ true → filter (is_taken p true) list ≡ []) → filter (is_taken p true) list ≢ [] → b ≡ false
takes_by p list true none some = absurd (some (none refl))
takes_by p list false none some = refl

pub takes : (p : Part) (list : List (EdgeId × Half)) (absent : Bool) → filter (is_taken p absent) list ≢ [] → leaves_all p list absent ≡ false
takes p list true some = takes_by p list (has_all p.out (edges_in list)) (one_taken p list) some
takes p list false some = refl

-- the chain that a call names
chain_named : (o : Option PrimeRec) (id : CallId) → option_map id_of o ≡ Some id → (c : PrimeRec) × (o ≡ Some c) × (c.id ≡ id)
chain_named None id named = absurd cc
chain_named (Some c) id named = (c, refl, same_Some c.id id named)

none_named : (o : Option PrimeRec) → option_map id_of o ≡ None → o ≡ None
none_named None named = refl
none_named (Some c) named = absurd cc

module _ (s : Setting) (is : IsSetting s) {next index : ℕ} {p : Part} {m : Contents} {chains : Chains} (is-next : IsNext next index) (st : IsState s next p m chains)
    (id : CallId) (small : IsSmall id.client) (list : List (EdgeId × Half)) (absent : Bool) where
  abbrev goes : Option PrimeRec → Part × Applied
  goes o = primed_by s.parts p index id list absent o

  -- a call that was seen
  pub prime_seen : (a : Applied) → seen_by id (last_in_store s m id.client) ≡ Some a → IsPlan s index (Prime id list absent) p m chains (record { batch = []; turn = None; answer = a })
  prime_seen a seen = seen_plan s is is-next st (Prime id list absent) id (goes (chain_on_any p (edges_in list))) a refl small seen

  module _ (new : seen_by id (last_in_store s m id.client) ≡ None) where
    made : (o : Option PrimeRec) (r : Part × Applied) → chain_on_any p (edges_in list) ≡ o → goes o ≡ r → goes (chain_on_any p (edges_in list)) ≡ r
    made o r on is-r = ap goes on ∙ is-r

    -- an edge with a chain
    pub prime_conflict : (other : CallId) → option_map id_of (chain_on_any p (edges_in list)) ≡ Some other → id.number < 2 ^ 64 → FitsOutcome (kept.Conflict other)
        → IsPlan s index (Prime id list absent) p m chains (record { batch = client_writes s id.client (record { number = id.number; outcome = kept.Conflict other }); turn = None; answer = Conflict other })
    prime_conflict other named number fits =
        let c = chain_named (chain_on_any p (edges_in list)) other named in
        keep_plan s is is-next st (Prime id list absent) id (kept.Conflict other) (Conflict other)
        (new_call s is is-next st id (goes (chain_on_any p (edges_in list))) small new
        ∙ made (Some c.0) (keeping p id (kept.Conflict other), Conflict other) c.1 (ap (λ (i : CallId). (keeping p id (kept.Conflict i), Conflict i)) c.2))
        small number fits

    -- edges that are all here
    pub prime_skipped : option_map id_of (chain_on_any p (edges_in list)) ≡ None → list ≢ [] → filter (is_taken p absent) list ≡ [] → id.number < 2 ^ 64
        → IsPlan s index (Prime id list absent) p m chains (record { batch = client_writes s id.client (record { number = id.number; outcome = kept.Skipped }); turn = None; answer = Skipped })
    prime_skipped named some none number =
        keep_plan s is is-next st (Prime id list absent) id kept.Skipped Skipped
        (new_call s is is-next st id (goes (chain_on_any p (edges_in list))) small new
        ∙ made None (keeping p id kept.Skipped, Skipped) (none_named (chain_on_any p (edges_in list)) named)
        (ap (λ b. cond b (keeping p id kept.Skipped, Skipped) (beginning s.parts p index id list absent, Begun index)) (leaves p list absent some none)))
        small number tt

    -- a chain begins
    pub prime_begun : (taken : List (EdgeId × Half)) → option_map id_of (chain_on_any p (edges_in list)) ≡ None → filter (is_taken p absent) list ≡ taken → taken ≢ []
        → id.number < 2 ^ 64 → is_once_each (edges_in taken) ≡ true → AllByRecursion (FitsOut s) taken → AreFrom s taken
        → IsPlan s index (Prime id list absent) p m chains (begun_plan s index id taken)
    prime_begun taken named is-taken some number once fits from =
        let none = none_named (chain_on_any p (edges_in list)) named in
        let chain = begun_chain s index id taken in
        let takes-is : taken_of p list absent ≡ taken = sym (taken_is p absent list) ∙ is-taken in
        let low : index < 2 ^ 64 = (let t = is-next.small in omega arith) in
        let on_list : (e : EdgeId) → is_on e chain ≡ true → chain_on p e ≡ None = λ e on.
        none_any p (edges_in list) none e (taken_on p list absent e (ap (λ (l : List (EdgeId × Half)). is_on e (begun_chain s index id l)) takes-is ∙ on)) in
        let fresh : get p.chains index ≡ None = fresh_at (get p.chains index) refl in
        let kept-chain : Keeps s (with_chain p index chain) (written m (standing_writes s false index id taken)) =
        keeps_begun s is.kind p m st.keeps index chain (record { fresh = fresh; free = on_list })
        (record { named = refl; number = low; call = record { client = small; count = number }; once = once; each = fits }) in
        let q : Part = record (keeping p id kept.Open) { chains = insert p.chains index chain } in
        let writes = standing_writes s false index id taken in
        let last = client_writes s id.client (record { number = id.number; outcome = kept.Open }) in
        let all : Keeps s q (written m (writes ++ last)) =
        subst (Keeps s q) (sym (written-append m writes last))
        (keeps_client s is.kind (with_chain p index chain) (written m writes) kept-chain id.client (record { number = id.number; outcome = kept.Open }) (client_fits s is id.client small) number tt) in
        plan_of s is is-next st (Prime id list absent) (begun_plan s index id taken) (q, Begun index)
        (new_call s is is-next st id (goes (chain_on_any p (edges_in list))) small new
        ∙ made None (q, Begun index) none
        (ap (λ b. cond b (keeping p id kept.Skipped, Skipped) (beginning s.parts p index id list absent, Begun index)) (takes p list absent (λ h. some (sym is-taken ∙ h)))
        ∙ ap (λ (l : List (EdgeId × Half)). (record (keeping p id kept.Open) { chains = insert p.chains index (begun_chain s index id l) }, Begun index)) takes-is))
        (begins s is is-next st q (written m (writes ++ last)) index chain (omega arith) refl (record { client = small; list = from }) all) refl
      where
        fresh_at : (o : Option PrimeRec) → get p.chains index ≡ o → o ≡ None
        fresh_at None there = refl
        fresh_at (Some c) there =
            let b = st.below index c (ap (λ (m : Chains). get m index) st.same ∙ there) in
            let r = is-next.risen in
            absurd (omega arith)
