-- With each run of the world goes a run of each part's group.
use Rattle.std.proofs.Common.{map, List, ◌≡◌, inl, inr, ℕ, ◌++◌, Some, None, ap, sym, subst, ◌∙◌}
use Rattle.std.specs.List.{AllByRecursion}
use Rattle.raft_log.specs.declared.message.RaftMsg.{RaftMsg}
use Rattle.raft_log.specs.Majority.{is_among}
use Rattle.raft_core.specs.declared.input.RaftInput.{RaftInput}
use Rattle.raft_core.specs.declared.input.RaftInput.TheVariants.{Confirm}
use Rattle.raft_core.specs.Core.{Core}
use Rattle.raft_core.specs.Step.{stepped as raft_stepped}
use Rattle.raft_group.specs.Group.{Group, with_step}
use Rattle.raft_group.specs.Facts.{GroupFacts}
use Rattle.chain_leader.specs.Leading.{read}
use Rattle.replica_model.specs.declared.input.Input.{Input}
use Rattle.replica_model.specs.Spelling.{values_of}
use Rattle.replica_model.specs.Replica.{Replica, machine_of}
use Rattle.replica_model.specs.Asks.{Asks, Nothing, Refuses, Points, Leads, Raft, Reads, asks}
use Rattle.replica_model.specs.Stepped.{Stepped, stepped, does, message_of, leads_on}
use Rattle.world_model.specs.State.{Space, home_of, Up, Post, posted, State, now}
use Rattle.world_model.specs.After.{ledger_behind, asked_behind, posts_with}
use Rattle.world_model.specs.Grouped.{IsSpace, IsInput, IsHere, Grouped}
use Rattle.world_model.proofs.Lists.{get_either, set_at}
use Rattle.world_model.proofs.Asking.{MayAsk, may_ask}
use Rattle.world_model.proofs.Grouping.{group_behind, core_behind, facts_of, step_in_group, does_core, group_core, goes_on, step_member, others_decide, list_grows}
use Rattle.world_model.proofs.Posting.{Carried, AreCarried, carried_posts, all_at, step_carried, rules_carried, step_sends}
use Rattle.world_model.proofs.Regroup.{groups_set, placed_set, regroup}

-- the groups of a state
abbrev pub Has_groups : Space → State → (ℕ → Group) → Type 0
Has_groups sp s g = Grouped sp s.placed s.posts s.ledger.decided g

-- the world behind a step of a replica
abbrev pub after_step : Space → State → ℕ → ℕ → Replica → Stepped → State
after_step sp s p y r st = record s {
  placed = placed_set s.placed p y (Up st.replica);
  posts = posts_with (asked_behind s.asked (now s) p r.core st.replica.core p) s.posts (Some (record { before = r.core; made = st }));
  ledger = ledger_behind sp s.ledger p st.replica.core;
  asked = asked_behind s.asked (now s) p r.core st.replica.core;
}

-- What leaves in a step is carried by the groups behind it.
module _ (g : ℕ → Group) (p y : ℕ) (core : Core) (is : (g p).core y ≡ core) (me : core.me ≡ y) where
  sends_carried : (h : ℕ → Group) (i : RaftInput) → h p ≡ with_step (g p) y (raft_stepped ((g p).core y) i)
      → AllByRecursion (λ (send : ℕ × RaftMsg). Carried h (message_of p core.me send)) (raft_stepped core i).sends
  sends_carried h i e =
      subst (λ n. AllByRecursion (λ (send : ℕ × RaftMsg). Carried h (message_of p n send)) (raft_stepped core i).sends) (sym me)
      (subst (λ (c : Core). AllByRecursion (λ (send : ℕ × RaftMsg). Carried h (message_of p y send)) (raft_stepped c i).sends) is (step_sends h p y (g p) i e))

pub does_carried : (sp : Space) (g : ℕ → Group) (p y : ℕ) (r : Replica) (i : Input) → (g p).core y ≡ r.core → r.core.me ≡ y → (a : Asks)
    → AreCarried (groups_set g p (group_behind (g p) y a)) (does (home_of sp p) r i a).leaves
does_carried sp g p y r i is me (Raft asked lead sender) =
    step_carried (groups_set g p (with_step (g p) y (raft_stepped ((g p).core y) asked))) (home_of sp p) r i (raft_stepped r.core asked) lead sender None (leads_on r.core (raft_stepped r.core asked).core)
    (sends_carried g p y r.core is me (groups_set g p (with_step (g p) y (raft_stepped ((g p).core y) asked))) asked (set_at g p _))
does_carried sp g p y r i is me (Reads id query) =
    step_carried (groups_set g p (with_step (g p) y (raft_stepped ((g p).core y) Confirm))) (home_of sp p) r i (raft_stepped r.core Confirm) r.lead None (Some (record { id = id; answer = read (machine_of (home_of sp p) r) query })) (leads_on r.core (raft_stepped r.core Confirm).core)
    (sends_carried g p y r.core is me (groups_set g p (with_step (g p) y (raft_stepped ((g p).core y) Confirm))) Confirm (set_at g p _))
does_carried sp g p y r i is me Nothing = tt
does_carried sp g p y r i is me (Refuses from other) = (tt, tt)
does_carried sp g p y r i is me (Points v hint) = tt
does_carried sp g p y r i is me (Leads tk) = rules_carried (groups_set g p (g p)) (home_of sp p) r tk

module _ (sp : Space) (is_space : IsSpace sp) (s : State) (g : ℕ → Group) (G : Has_groups sp s g) where
  facts : (p : ℕ) → GroupFacts (g p)
  facts p = facts_of (sp.first p) (g p) (is_space p) (G.reached p)

  module _ (p y : ℕ) (r : Replica) (here : IsHere (g p) y r.core) where
    me_is : r.core.me ≡ y
    me_is = ap (λ (c : Core). c.me) (sym here.core_is) ∙ (facts p).named y

    module _ (i : Input) (comes : IsInput (g p) p y i) where
      abbrev asked : Asks
      asked = asks (home_of sp p) r i

      abbrev behind : Group
      behind = group_behind (g p) y asked

      may : MayAsk (g p) y asked
      may = may_ask (home_of sp p) (g p) y r i comes

      core_is : behind.core y ≡ (stepped (home_of sp p) r i).replica.core
      core_is = group_core (g p) y asked ∙ ap (λ c. core_behind c asked) here.core_is ∙ sym (does_core (home_of sp p) r i asked)

      list_is : (ledger_behind sp s.ledger p (stepped (home_of sp p) r i).replica.core).decided p ≡ values_of sp.spelling behind.decided
      list_is =
          ap (λ c. (ledger_behind sp s.ledger p c).decided p) (does_core (home_of sp p) r i asked ∙ ap (λ c. core_behind c asked) (sym here.core_is))
          ∙ list_grows sp s.ledger p (g p) y asked (G.lists p) ((facts p).agrees y).within

      -- what leaves, with the moments behind the step
      abbrev left : List Post
      left = map (posted (asked_behind s.asked (now s) p r.core (stepped (home_of sp p) r i).replica.core p (stepped (home_of sp p) r i).replica.core.term)) (stepped (home_of sp p) r i).leaves

      left_carried : AllByRecursion (λ (post : Post). Carried (groups_set g p behind) post.packet) left
      left_carried = carried_posts (groups_set g p behind) (asked_behind s.asked (now s) p r.core (stepped (home_of sp p) r i).replica.core p (stepped (home_of sp p) r i).replica.core.term) (stepped (home_of sp p) r i).leaves
          (does_carried sp g p y r i here.core_is me_is asked)

      -- A step of a replica is one of its group.
      pub grouped_step : Has_groups sp (after_step sp s p y r (stepped (home_of sp p) r i)) (groups_set g p behind)
      grouped_step = regroup sp s.placed s.posts s.ledger.decided g G p y (Up (stepped (home_of sp p) r i).replica) behind
          (step_in_group (g p) y here.member (sp.first p) (G.reached p) asked may)
          (goes_on (g p) y asked)
          (record { core_is = core_is; member = ap (is_among y) (step_member (g p) y asked) ∙ here.member })
          (s.posts ++ left)
          (λ k post at. elim (get_either s.posts left k post at) [
            | inl old ↦ inl old
            | inr new ↦ inr (all_at (λ (q : Post). Carried (groups_set g p behind) q.packet) left left_carried new.0 post new.1)
          ])
          (ledger_behind sp s.ledger p (stepped (home_of sp p) r i).replica.core).decided
          (others_decide sp s.ledger p (stepped (home_of sp p) r i).replica.core)
          list_is
