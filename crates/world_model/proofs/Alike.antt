-- What the world of chains promises of each of its runs.
use Rattle.std.proofs.Common.{◌≡◌, inl, inr, ℕ, List, [], ◌∷◌, Option, Some, None, refl, ap, sym, subst, ◌∙◌}
use Rattle.std.specs.Prelude.{◌==◌}
use Rattle.std.specs.Option.{option_or}
use Rattle.std.specs.Ordering.{eq_by_cmp}
use Rattle.std.proofs.lemmas.Bool.{cond-true, eq-eqb}
use Rattle.std.proofs.lemmas.Option.{same_Some, none-some}
use Rattle.maps.proofs.Keys.{same_itself}
use Rattle.graph_model.specs.Keys.{call_cmp}
use Rattle.graph_model.proofs.KeyLemmas.{call_keys}
use Rattle.graph_model.specs.declared.call.Call.{Call}
use Rattle.graph_model.specs.declared.call_id.CallId.{CallId}
use Rattle.graph_model.specs.declared.op.Op.{Op}
use Rattle.graph_model.specs.declared.op.Op.TheVariants.{PutEdges, DelEdges, PutVertex, DelVertex, Read as ReadOp}
use Rattle.graph_model.specs.declared.query.Query.{Query}
use Rattle.part_keys.specs.declared.entry.PartEntry.TheVariants as entry
use Rattle.chain_leader.specs.declared.body.ChainBody.TheVariants as says
use Rattle.part_keys.specs.declared.vid_kind.VidKind.{VidKind}
use Rattle.chain_world.specs.declared.event.ChainEvent.{ChainEvent}
use Rattle.chain_world.specs.declared.packet.ChainEnd.{ChainEnd}
use Rattle.chain_world.specs.declared.packet.ChainEnd.TheVariants as ends
use Rattle.chain_world.specs.Answers.{IsInvoked}
use Rattle.chain_world.specs.Places.{Among}
use Rattle.chain_world.specs.Invariant.Safe.{IsSafe}
use Rattle.chain_world.specs.State.{Chains, Post as ChainPost}
use Rattle.chain_world.specs.World.{asked_by, first_asked, asked_in, run}
use Rattle.chain_world.proofs.Members.{among_at}
use Rattle.chain_world.proofs.Seeing.{asked_post, first_is_asked}
use Rattle.chain_world.proofs.Worlds.{always_safe}
use Rattle.world_model.specs.Grouped.{Has}
use Rattle.world_model.specs.Chained.{chain_post, ChainFacts}

-- what a read asks
abbrev query_in : Op → Option Query
query_in (ReadOp query) = Some query
query_in (PutEdges rows absent) = None
query_in (DelEdges edges) = None
query_in (PutVertex v tag row absent) = None
query_in (DelVertex v) = None

module _ (p : ℕ) (id : CallId) (number : ℕ) (query : Query) (from : ChainEnd) (m : ℕ) where
  abbrev It : ChainPost
  It = chain_post from (ends.Part p) (says.Request number (entry.Read id query)) m

  asks_itself : asked_in id (says.Request number (entry.Read id query)) ≡ Some query
  asks_itself = cond-true (eq_by_cmp call_cmp id id) (Some query) None (same_itself call_keys id)

  it_asks : asked_by p id It ≡ Some query
  it_asks = cond-true (p == p) (asked_in id (says.Request number (entry.Read id query))) None (eq-eqb p p refl) ∙ asks_itself

  -- where it was sent, something was asked
  some_asked : (posts : List ChainPost) → Among It posts → first_asked p id posts ≡ None → ⊥
  some_asked [] among none = among
  some_asked (post ∷ posts) (inl first) none = none-some query (sym none ∙ ap (λ o. option_or o (first_asked p id posts)) (ap (asked_by p id) (sym first) ∙ it_asks))
  some_asked (post ∷ posts) (inr later) none = some_asked posts later (go (asked_by p id post) none)
    where
      go : (o : Option Query) → option_or o (first_asked p id posts) ≡ None → first_asked p id posts ≡ None
      go None e = e
      go (Some x) e = absurd (none-some x (sym e))

  module _ (parts : ℕ) (c : Chains) (safe : IsSafe parts c) where
    -- the two reads of one call ask the same
    one_query : (q : Query) → IsInvoked c.ledger.steps id (ReadOp q) → IsInvoked c.ledger.steps id (ReadOp query) → q ≡ query
    one_query q a b =
        let x = safe.ledger.sound.noted.known id (ReadOp q) a in
        let y = safe.ledger.sound.noted.known id (ReadOp query) b in
        let call = same_Some x.0 y.0 (sym x.1 ∙ y.1) in
        same_Some q query (ap query_in (sym x.2 ∙ ap (λ (k : Call). k.op) call ∙ y.2))

    pub asked_alike : Has c.posts It → first_asked p id c.posts ≡ Some query
    asked_alike has = go (first_asked p id c.posts) refl
      where
        among : Among It c.posts
        among = among_at It c.posts has.0 has.1

        go : (o : Option Query) → first_asked p id c.posts ≡ o → first_asked p id c.posts ≡ Some query
        go None e = absurd (some_asked c.posts among e)
        go (Some q) e = e ∙ ap Some (one_query q
            (first_is_asked parts c safe p id q c.posts safe.kept.meant e).invoked
            (asked_post parts c safe p id query m from (ends.Part p) (says.Request number (entry.Read id query)) (eq-eqb p p refl) asks_itself (safe.kept.meant It among)).invoked)

pub chain_facts : (ids : VidKind) (parts : ℕ) (c : Chains) → (events : List ChainEvent) × (run ids parts events ≡ c) → ChainFacts c
chain_facts ids parts c reached =
    let safe : IsSafe parts c = subst (IsSafe parts) reached.1 (always_safe ids parts reached.0) in
    record {
      graph = safe.ledger.graph;
      refines = safe.ledger.sound.run;
      alike = λ p id number query from m has. asked_alike p id number query from m parts c safe has;
    }
