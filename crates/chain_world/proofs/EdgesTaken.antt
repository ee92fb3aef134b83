-- A Prime takes in its part the edges that a Begin takes in the graph, and they go from part to part.
use Rattle.std.proofs.Common.{◌≡◌, ◌≢◌, ℕ, List, [], ◌∷◌, Bool, true, false, cond, not, ◌&&◌, refl, ap, sym, ◌∙◌, eqb-true}
use Rattle.std.specs.Prelude.{◌==◌, ◌||◌}
use Rattle.std.specs.FinMap.{get, contains_key}
use Rattle.std.specs.List.{list_all}
use Rattle.std.specs.Map.{keys_of}
use Rattle.std.specs.Ordering.{eq_by_cmp}
use Rattle.std.proofs.lemmas.Bool.{and_parts}
use Rattle.graph_model.specs.Keys.{edge_cmp}
use Rattle.graph_model.specs.declared.edge_id.EdgeId.{EdgeId}
use Rattle.graph_model.specs.declared.half.Half.{Half}
use Rattle.graph_model.specs.declared.call_id.CallId.{CallId}
use Rattle.graph_model.specs.Contents.{Contents}
use Rattle.maps.specs.Lists.{has_all, missing}
use Rattle.maps.proofs.Finding.{missing_same, has_all_same}
use Rattle.maps.proofs.Keys.{same_itself, same_is}
use Rattle.part_keys.specs.Routing.{part_of, all_from, all_into, remote_of, routes_to}
use Rattle.part_keys.specs.declared.entry.PartEntry.TheVariants.{Prime}
use Rattle.part_rules.specs.Part.{Part}
use Rattle.part_rules.specs.Machine.{taken_of, leaves_all}
use Rattle.part_rules.proofs.FoldsAt.{edge_keys}
pub use Rattle.part_rules.proofs.FoldsTaken.{taken_on}
use Rattle.chain_world.specs.Course.{has_edge}
use Rattle.chain_world.specs.Invariant.ChainFacts.{AreRouted}
use Rattle.chain_world.specs.Invariant.Sound.{AreHalves}

module _ (parts : ℕ) (machine : ℕ → Part) (c : Contents) (are : AreHalves parts machine c) (p : ℕ) (list : List (EdgeId × Half)) (home : (e : EdgeId) → has_edge list e ≡ true → part_of parts e.src ≡ p) where
  out_there : (e : EdgeId) → has_edge list e ≡ true → get c.out e ≡ get (machine p).out e
  out_there e on = are.out e ∙ ap (λ i. get (machine i).out e) (home e on)

  -- of edges of part p the same are absent in the graph as in the part
  pub same_missing : missing c.out list ≡ missing (machine p).out list
  same_missing = missing_same edge_keys c.out (machine p).out list out_there

  pub same_all : has_all c.out (keys_of list) ≡ has_all (machine p).out (keys_of list)
  same_all = has_all_same edge_keys c.out (machine p).out (keys_of list) out_there

-- a Prime that takes none of some edges leaves all
none_missing : (m : Part) (list : List (EdgeId × Half)) → missing m.out list ≡ [] → has_all m.out (keys_of list) ≡ true
none_missing m [] h = refl
none_missing m (x ∷ list) h = elim (contains_key m.out x.0) as (λ b. cond (not b) (x ∷ missing m.out list) (missing m.out list) ≡ [] → (b && has_all m.out (keys_of list)) ≡ true) [
  | true ↦ λ k. none_missing m list k
  | false ↦ λ k. cc
] h

pub taken_some : (m : Part) (list : List (EdgeId × Half)) (absent : Bool) → list ≢ [] → leaves_all m list absent ≡ false → taken_of m list absent ≢ []
taken_some m list true some h none = let t = none_missing m list none in cc
taken_some m list false some h none = some none

-- each edge of a list that passes a test as a whole passes it
each_passes : (test : EdgeId → Bool) (list : List (EdgeId × Half)) → list_all (λ x. test x.0) list ≡ true → (e : EdgeId) → has_edge list e ≡ true → test e ≡ true
each_passes test [] h e on = cc
each_passes test (x ∷ list) h e on =
    let both = and_parts (test x.0) (list_all (λ x. test x.0) list) h in
    elim (eq_by_cmp edge_cmp e x.0) as (λ b. eq_by_cmp edge_cmp e x.0 ≡ b → (b || has_edge list e) ≡ true → test e ≡ true) [
      | true ↦ λ tied k. ap test (same_is edge_keys e x.0 tied) ∙ both.0
      | false ↦ λ apart k. each_passes test list both.1 e k
    ] refl on

module _ (parts p : ℕ) (list : List (EdgeId × Half)) where
  -- the edges of a Prime that routes to part p start there
  pub routes_from : (id : CallId) (absent : Bool) → routes_to parts p (Prime id list absent) ≡ true → (e : EdgeId) → has_edge list e ≡ true → part_of parts e.src ≡ p
  routes_from id absent h e on = eqb-true (part_of parts e.src) p (each_passes (λ k. part_of parts k.src == p) list (and_parts (all_from parts p list) (all_into parts (remote_of parts list) list) h).0 e on)

  -- and end in one part
  pub routes_into : (id : CallId) (absent : Bool) → routes_to parts p (Prime id list absent) ≡ true → (e : EdgeId) → has_edge list e ≡ true → part_of parts e.dst ≡ remote_of parts list
  routes_into id absent h e on = eqb-true (part_of parts e.dst) (remote_of parts list) (each_passes (λ k. part_of parts k.dst == remote_of parts list) list (and_parts (all_from parts p list) (all_into parts (remote_of parts list) list) h).1 e on)

-- where all edges end in one part, that is the part of a list of some of them
remote_same : (parts q : ℕ) (list : List (EdgeId × Half)) → ((e : EdgeId) → has_edge list e ≡ true → part_of parts e.dst ≡ q) → (e : EdgeId) → has_edge list e ≡ true → part_of parts e.dst ≡ remote_of parts list
remote_same parts q [] into e on = cc
remote_same parts q (x ∷ list) into e on = into e on ∙ sym (into x.0 (ap (λ b. b || has_edge list x.0) (same_itself edge_keys x.0)))

-- what a Prime takes goes from its part to the remote part
pub taken_routed : (parts p : ℕ) (m : Part) (id : CallId) (list : List (EdgeId × Half)) (absent : Bool) → routes_to parts p (Prime id list absent) ≡ true → AreRouted (part_of parts) p (remote_of parts (taken_of m list absent)) (taken_of m list absent)
taken_routed parts p m id list absent h e on = (
  routes_from parts p list id absent h e (taken_on m list absent e on),
  remote_same parts (remote_of parts list) (taken_of m list absent) (λ k t. routes_into parts p list id absent h k (taken_on m list absent k t)) e on,
)
