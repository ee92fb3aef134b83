-- The chain that stands on an edge in a part is the one that is under way on it in the graph.
use Rattle.std.proofs.Common.{◌≡◌, ℕ, List, [], ◌∷◌, Option, None, Some, true, false, refl, ap, sym, ◌∙◌}
use Rattle.std.specs.Prelude.{◌||◌, if◌then◌else◌}
use Rattle.std.specs.Option.{option_map, option_or}
use Rattle.std.specs.Ordering.{eq_by_cmp}
use Rattle.std.specs.FinMap.{get}
use Rattle.std.proofs.lemmas.Bool.{false_from_ne_true, or_right}
use Rattle.std.proofs.lemmas.Option.{same_Some}
use Rattle.graph_model.specs.Keys.{edge_cmp}
use Rattle.graph_model.specs.declared.edge_id.EdgeId.{EdgeId}
use Rattle.graph_model.specs.declared.call_id.CallId.{CallId}
use Rattle.graph_model.specs.declared.chain.Chain.{Chain}
use Rattle.graph_model.specs.State.{GraphState, pending_on, first_pending, is_on as is_under_way}
use Rattle.graph_model.proofs.Pending.{none_pending, one_pending}
use Rattle.maps.specs.Keys.{has_key}
use Rattle.maps.proofs.Keys.{same_itself}
use Rattle.part_keys.specs.Routing.{part_of}
use Rattle.part_keys.specs.declared.chain.PrimeRec.{PrimeRec}
use Rattle.part_rules.specs.Part.{Part, chain_on, chain_on_any}
use Rattle.part_rules.proofs.FoldsAt.{edge_keys}
use Rattle.part_rules.proofs.FoldsOn.{on_is, on_none}
use Rattle.chain_world.specs.Course.{Course, Courses, stands, is_doubled, has_edge, prime_of}
use Rattle.chain_world.specs.Invariant.Sound.{Holds, HasStanding, chain_of}

-- a chain as a part keeps it
abbrev pub prime : ℕ → Course → PrimeRec
prime v c = record { v = v; id = c.id; remote = c.remote; list = c.list; double = is_doubled c.fate }

-- a chain that a part keeps is one that stands
pub record IsKeptAs (v : ℕ) (o : Option Course) (chain : PrimeRec) : Type 0 where
  pub course : Course
  pub is : o ≡ Some course
  pub standing : stands course.fate ≡ true
  pub id : course.id ≡ chain.id
  pub list : course.list ≡ chain.list

pub kept_as : (v : ℕ) (o : Option Course) (chain : PrimeRec) → prime_of v o ≡ Some chain → IsKeptAs v o chain
kept_as v None chain e = cc
kept_as v (Some c) chain e = elim (stands c.fate) as (λ b. stands c.fate ≡ b → (if b then Some (prime v c) else None) ≡ Some chain → IsKeptAs v (Some c) chain) [
  | true ↦ λ standing f. let same = same_Some (prime v c) chain f in record { course = c; is = refl; standing = standing; id = ap (λ (r : PrimeRec). r.id) same; list = ap (λ (r : PrimeRec). r.list) same }
  | false ↦ λ standing f. cc
] refl e

module _ (parts : ℕ) (machine : ℕ → Part) (next : ℕ → ℕ) (k : Courses) (g : GraphState) (holds : Holds parts machine next k g) where
  -- what is under way on an edge is a chain of the edge's part that stands on it
  under_way : (e : EdgeId) (id : CallId) (chain : Chain) → get g.pend id ≡ Some chain → is_under_way e chain ≡ true
      → (s : HasStanding k id) × (has_edge s.course.list e ≡ true) × (part_of parts e.src ≡ s.part)
  under_way e id chain there on =
      let s = holds.pends.standing id chain there in
      let same : chain ≡ chain_of s.course = same_Some _ _ (sym there ∙ ap (get g.pend) (sym s.its) ∙ holds.pends.pending s.part s.number s.course s.is s.stands) in
      let here : has_edge s.course.list e ≡ true = ap (λ (h : Chain). has_edge h.list e) (sym same) ∙ on in
      (s, here, (holds.chains.routed s.part s.number s.course s.is e here).0)

  -- a chain that stands is kept
  pub standing_in : (p v : ℕ) (c : Course) → k p v ≡ Some c → stands c.fate ≡ true → get (machine p).chains v ≡ Some (prime v c)
  standing_in p v c is standing = holds.kept p v ∙ ap (prime_of v) is ∙ ap (λ b. if b then Some (prime v c) else None) standing

  -- on an edge of part p
  pub on_edge : (p : ℕ) (e : EdgeId) → part_of parts e.src ≡ p → pending_on g e ≡ option_map (λ (r : PrimeRec). r.id) (chain_on (machine p) e)
  on_edge p e home = by_chain (chain_on (machine p) e) refl
    where
      by_chain : (o : Option PrimeRec) → chain_on (machine p) e ≡ o → pending_on g e ≡ option_map (λ (r : PrimeRec). r.id) o
      by_chain None h = none_pending g e (λ id c there. false_from_ne_true (is_under_way e c) (λ on.
          let u = under_way e id c there on in
          let s = u.0 in
          let found = standing_in s.part s.number s.course s.is s.stands in
          let off = on_none (machine p) e h s.number (prime s.number s.course) (ap (λ i. get (machine i).chains s.number) (sym home ∙ u.2) ∙ found) in
          let t : true ≡ false = sym u.1 ∙ off in
          cc))
      by_chain (Some chain) h =
          let f = on_is (machine p) e chain h in
          let a = kept_as f.0 (k p f.0) chain (sym (holds.kept p f.0) ∙ f.1) in
          let on : has_edge a.course.list e ≡ true = ap (λ l. has_edge l e) a.list ∙ f.2 in
          one_pending g e chain.id (chain_of a.course) (ap (get g.pend) (sym a.id) ∙ holds.pends.pending p f.0 a.course a.is a.standing) on (λ other d there at.
          let u = under_way e other d there at in
          let s = u.0 in
          let part : s.part ≡ p = sym u.2 ∙ home in
          let here : k p s.number ≡ Some s.course = ap (λ i. k i s.number) (sym part) ∙ s.is in
          let number : s.number ≡ f.0 = holds.chains.one_an_edge p s.number f.0 s.course a.course here a.is s.stands a.standing e u.1 on in
          let course : s.course ≡ a.course = same_Some _ _ (sym here ∙ ap (k p) number ∙ a.is) in
          sym s.its ∙ ap (λ (c : Course). c.id) course ∙ a.id)

  first_some : (a b : Option PrimeRec) → option_map (λ (r : PrimeRec). r.id) (option_or a b) ≡ option_or (option_map (λ (r : PrimeRec). r.id) a) (option_map (λ (r : PrimeRec). r.id) b)
  first_some None b = refl
  first_some (Some r) b = refl

  -- the first of some edges of part p on which one stands
  pub same_pending : (p : ℕ) (edges : List EdgeId) → ((e : EdgeId) → has_key edge_cmp e edges ≡ true → part_of parts e.src ≡ p) → option_map (λ (r : PrimeRec). r.id) (chain_on_any (machine p) edges) ≡ first_pending g edges
  same_pending p [] home = refl
  same_pending p (e ∷ edges) home =
      first_some (chain_on (machine p) e) (chain_on_any (machine p) edges)
      ∙ ap (λ o. option_or o (option_map (λ (r : PrimeRec). r.id) (chain_on_any (machine p) edges))) (sym (on_edge p e (home e (ap (λ b. b || has_key edge_cmp e edges) (same_itself edge_keys e)))))
      ∙ ap (option_or (pending_on g e)) (same_pending p edges (λ q on. home q (or_right (eq_by_cmp edge_cmp q e) (has_key edge_cmp q edges) on)))
