-- With each run of the world goes a run of each part's group.
use Rattle.std.proofs.Common.{◌≡◌, inl, inr, ℕ, List, [], ◌∷◌, ◌++◌, Option, Some, None, refl, sym, subst}
use Rattle.std.specs.Prelude.{slice_get}
use Rattle.std.specs.List.{AllByRecursion}
use Rattle.std.proofs.lemmas.Option.{none-some}
use Rattle.raft_group.specs.Group.{Group, start as group_start}
use Rattle.meta_parts.specs.declared.table.PartTable.{PartTable}
use Rattle.replica_model.specs.declared.input.Input.TheVariants as input
use Rattle.statement_run.specs.Caller.{Open, request_of, call_of, counted}
use Rattle.world_model.specs.declared.event.Cause.{Cause}
use Rattle.world_model.specs.declared.event.Cause.TheVariants as cause
use Rattle.world_model.specs.declared.event.Event.{Event}
use Rattle.world_model.specs.declared.event.Event.TheVariants as event
use Rattle.world_model.specs.State.{Space, Gone, Post, post_of, State, began, resolve, Site, AtClient, AtPeer, Nowhere}
use Rattle.world_model.specs.After.{packet_by, core_by, asked_at, asks_again, posts_and, after_at, after}
use Rattle.world_model.specs.Lawful.{MayAt, ComesTo, Lawful}
use Rattle.world_model.specs.Grouped.{IsSpace, IsInput, Grouped}
use Rattle.world_model.proofs.Lists.{get_either}
use Rattle.world_model.proofs.Posting.{Carried, all_at}
use Rattle.world_model.proofs.Regroup.{stands_anew}
use Rattle.world_model.proofs.Groups.{Has_groups}
use Rattle.world_model.proofs.GroupEvents.{carried_comes, groups_peer, grouped_tick, grouped_packet, grouped_stop_tick, grouped_stop_packet, grouped_crashed, grouped_restarted, grouped_place}

-- the groups behind each event
abbrev pub groups_at : Space → State → (ℕ → Group) → Event → Option Post → Site → ℕ → Group
groups_at sp s g e post (AtPeer p y) = groups_peer sp g p y e post (s.placed p y)
groups_at sp s g e post site = g

abbrev pub groups_after : Space → State → (ℕ → Group) → Event → ℕ → Group
groups_after sp s g e = groups_at sp s g e (packet_by s.posts e) (core_by s.table e (packet_by s.posts e))

-- packets about calls and chains are no matter to the groups
more_posts : (sp : Space) (s : State) (g : ℕ → Group) → Has_groups sp s g → (posts : List Post) → AllByRecursion (λ (post : Post). Carried g post.packet) posts → Grouped sp s.placed (s.posts ++ posts) s.ledger.decided g
more_posts sp s g G posts all = record {
  reached = G.reached;
  peers = G.peers;
  letters = λ k post at. elim (get_either s.posts posts k post at) [
    | inl old ↦ G.letters k post old
    | inr new ↦ all_at (λ (q : Post). Carried g q.packet) posts all new.0 post new.1
  ];
  lists = G.lists;
}

module _ (sp : Space) (is_space : IsSpace sp) (s : State) (g : ℕ → Group) (G : Has_groups sp s g) where
  comes : (post : Post) (k : ℕ) → slice_get s.posts k ≡ Some post → (p y : ℕ) → resolve s.table post.packet.to ≡ AtPeer p y → IsInput (g p) p y (input.Sent post.packet)
  comes post k at p y here = carried_comes g s.table p y post.packet.from post.packet.to post.packet.body (G.letters k post at) here

  -- a packet is delivered
  grouped_received : (k : ℕ) (post : Post) → slice_get s.posts k ≡ Some post → (site : Site) → resolve s.table post.packet.to ≡ site → MayAt sp s (event.Deliver k) site
      → Has_groups sp (after_at sp s (event.Deliver k) (Some post) site) (groups_at sp s g (event.Deliver k) (Some post) site)
  grouped_received k post at (AtClient c) here may = G
  grouped_received k post at (AtPeer p y) here may = grouped_packet sp is_space s g G p y may k post (comes post k at p y here)
  grouped_received k post at Nowhere here may = absurd may

  -- what holds of the packet that stands there holds of what is found there
  by_post : (e : Event) (post : Post) (o : Option Post) → o ≡ Some post
      → Has_groups sp (after_at sp s e (Some post) (core_by s.table e (Some post))) (groups_at sp s g e (Some post) (core_by s.table e (Some post)))
      → Has_groups sp (after_at sp s e o (core_by s.table e o)) (groups_at sp s g e o (core_by s.table e o))
  by_post e post o at holds = subst (λ x. Has_groups sp (after_at sp s e x (core_by s.table e x)) (groups_at sp s g e x (core_by s.table e x))) (sym at) holds

  grouped_stopped : (p y : ℕ) (c : Cause) → Lawful sp s (event.StepCrash p y c) → Has_groups sp (after sp s (event.StepCrash p y c)) (groups_after sp s g (event.StepCrash p y c))
  grouped_stopped p y (cause.Tick t) may = grouped_stop_tick sp is_space s g G p y may.core t
  grouped_stopped p y (cause.Sent k) may = by_post (event.StepCrash p y (cause.Sent k)) may.mail.post (slice_get s.posts k) may.mail.sent
      (grouped_stop_packet sp is_space s g G p y may.core k may.mail.post (comes may.mail.post k may.mail.sent p y (subst (ComesTo s p y) may.mail.sent may.rest)))

  grouped_round : (c : ℕ) (call : Option Open) → Grouped sp s.placed (posts_and s.posts (asks_again call)) s.ledger.decided g
  grouped_round c None = G
  grouped_round c (Some call) = more_posts sp s g G (post_of (request_of (counted call)) ∷ []) (tt, tt)

  pub grouped_after : (e : Event) → Lawful sp s e → Has_groups sp (after sp s e) (groups_after sp s g e)
  grouped_after (event.Invoke id op) may = more_posts sp s g G (post_of (request_of (call_of id (asked_at (s.callers id.client) op))) ∷ []) (tt, tt)
  grouped_after (event.Deliver k) may = by_post (event.Deliver k) may.mail.post (slice_get s.posts k) may.mail.sent
      (grouped_received k may.mail.post may.mail.sent (resolve s.table may.mail.post.packet.to) refl (subst (λ o. MayAt sp s (event.Deliver k) (core_by s.table (event.Deliver k) o)) may.mail.sent may.core))
  grouped_after (event.Lose k) may = G
  grouped_after (event.Tick p y t) may = grouped_tick sp is_space s g G p y may.core t
  grouped_after (event.Crash p y) may = grouped_crashed sp is_space s g G p y may.core
  grouped_after (event.StepCrash p y c) may = grouped_stopped p y c may
  grouped_after (event.Restart p y took) may = grouped_restarted sp is_space s g G p y took may.core
  grouped_after (event.Place p node y first) may = grouped_place sp is_space s g G p node y first may.rest may.core
  grouped_after (event.Wipe p y) may = stands_anew sp s.placed s.posts s.ledger.decided g G p y Gone tt
  grouped_after (event.Meta body) may = G
  grouped_after (event.Round c) may = grouped_round c (s.callers c).call
  grouped_after (event.Reply id a) may = G

-- at the start each part's group is as it begins
abbrev pub groups_start : Space → ℕ → Group
groups_start sp p = group_start (sp.first p)

pub grouped_start : (sp : Space) (t : PartTable) → Has_groups sp (began t) (groups_start sp)
grouped_start sp t = record {
  reached = λ p. ([], refl);
  peers = λ p y. record { core_is = refl; member = λ among. among; new = λ apart. apart };
  letters = λ k post at. absurd (none-some post at);
  lists = λ p. refl;
}
