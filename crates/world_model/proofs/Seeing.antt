-- A read at a leader: what it takes, and what its counterpart sees.
use Rattle.std.proofs.Common.{◌≡◌, inl, inr, ℕ, List, [], ◌∷◌, ◌++◌, length, take, Some, true, refl, ap, sym, subst, ◌∙◌, arith, take_all}
use Rattle.std.proofs.lemmas.Bool.{cases_eq}
use Rattle.std.specs.List.{AllByRecursion}
use Rattle.graph_model.specs.declared.answer.Answer.TheVariants.{Shown}
use Rattle.graph_model.specs.declared.call_id.CallId.{CallId}
use Rattle.graph_model.specs.declared.query.Query.{Query}
use Rattle.part_rules.specs.Part.{Part}
use Rattle.part_rules.specs.View.{view}
use Rattle.part_rules.specs.Folded.{folded}
use Rattle.chain_leader.specs.declared.body.ChainBody.TheVariants as says
use Rattle.chain_leader.specs.Leading.{read}
use Rattle.chain_world.specs.declared.event.ChainEvent.{ChainEvent}
use Rattle.chain_world.specs.declared.event.ChainEvent.TheVariants.{See}
use Rattle.chain_world.specs.declared.packet.ChainEnd.TheVariants as ends
use Rattle.chain_world.specs.State.{Chains, Leader, Post as ChainPost, decided_of, machine_behind as machine_of}
use Rattle.chain_world.specs.World.{is_part, run_from, first_asked}
use Rattle.chain_world.proofs.Occurring.{shown_to}
use Rattle.world_model.specs.State.{Space}
use Rattle.world_model.specs.Grouped.{Has}
use Rattle.world_model.proofs.Lists.{get_left, has_right}
use Rattle.world_model.proofs.Rows.{see_one, IsAnswered}
use Rattle.world_model.proofs.Backed.{IsPlain}

module _ (sp : Space) (p t : ℕ) (part : is_part sp.parts p ≡ true) (c : Chains) (l : Leader) (here : c.leaders p t ≡ Some l) (machine : Part) (machine_is : machine ≡ machine_of sp.parts c p l.applied)
    (ready : l.lead.ready ≡ true) (id : CallId) (query : Query) (asked : first_asked p id c.posts ≡ Some query) where
  -- A read that begins a round: where the leader has applied all that is decided, its counterpart sees the same, now.
  pub record Seen : Type 0 where
    pub events : List ChainEvent
    pub posts : List ChainPost
    pub is : run_from sp.ids sp.parts c events ≡ record c { posts = posts }
    pub plain : AllByRecursion IsPlain events
    pub grows : (x : ChainPost) → Has c.posts x → Has posts x
    pub seen : l.applied ≡ length (decided_of c p) → IsAnswered posts (record { id = id; answer = read machine query }) (length c.ledger.steps)

  shows : l.applied ≡ length (decided_of c p) → (shown_to sp.parts c p t id query).packet.body ≡ says.Answer id.number (read machine query)
  shows all = ap (λ m. says.Answer id.number (Shown (view query m)))
      (sym (machine_is ∙ ap (λ n. folded sp.parts (take n (decided_of c p))) all ∙ ap (folded sp.parts) (take_all (length (decided_of c p)) (decided_of c p) (omega arith))))

  pub sees_now : Seen
  sees_now = elim (cases_eq l.applied (length (decided_of c p))) [
    | inr not_all ↦ record { events = []; posts = c.posts; is = refl; plain = tt; grows = λ x has. has; seen = λ all. absurd (not_all all) }
    | inl all ↦
        (let post = shown_to sp.parts c p t id query in
        record {
          events = See p t id ∷ [];
          posts = c.posts ++ post ∷ [];
          is = see_one sp.ids sp.parts p t part c l id query here ready all asked;
          plain = (tt, tt);
          grows = λ x h. (h.0, get_left c.posts (post ∷ []) h.0 x h.1);
          seen = λ e. (
            ends.Leader p t,
            subst (λ b. Has (c.posts ++ post ∷ []) (record { packet = record { from = ends.Leader p t; to = ends.Client id.client; body = b }; moment = length c.ledger.steps })) (shows all)
                (has_right c.posts (post ∷ []) post (0, refl)),
          );
        })
  ]
