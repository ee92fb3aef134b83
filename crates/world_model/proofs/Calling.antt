-- What clients do, in the world of chains.
use Rattle.std.proofs.Common.{◌≡◌, ℕ, suc, ◌+◌, List, [], ◌∷◌, ◌++◌, Option, Some, None, true, refl, ap, sym, subst, ◌∙◌, arith, Bool, false}
use Rattle.std.specs.Prelude.{◌==◌, ◌&&◌, ◌||◌, slice_get, is_none, if◌then◌else◌}
use Rattle.std.proofs.lemmas.Bool.{cond-true, and_from, eq-eqb}
use Rattle.std.proofs.lemmas.Option.{none-some}
use Rattle.graph_model.proofs.KeyLemmas.{call_keys}
use Rattle.maps.proofs.Keys.{same_itself}
use Rattle.graph_model.specs.declared.answer.Answer.{Answer}
use Rattle.graph_model.specs.declared.answer.Answer.TheVariants.{Unknown}
use Rattle.graph_model.specs.declared.call_id.CallId.{CallId}
use Rattle.graph_model.specs.declared.op.Op.{Op}
use Rattle.raft_core.specs.Core.{is_leading}
use Rattle.raft_core.proofs.Lists.{all_weaker}
use Rattle.raft_group.specs.Group.{Group, Round}
use Rattle.chain_leader.specs.declared.body.ChainBody.TheVariants as says
use Rattle.part_keys.specs.declared.vid_kind.VidKind.{VidKind}
use Rattle.chain_world.proofs.Occurring.{after_is, ended}
use Rattle.chain_world.specs.World.{is_for}
use Rattle.graph_model.specs.Same.{is_same_answer, is_unknown}
use Rattle.graph_model.proofs.SameLemmas.{answer_itself}
use Rattle.chain_world.specs.declared.event.ChainEvent.{ChainEvent}
use Rattle.chain_world.specs.declared.event.ChainEvent.TheVariants as event
use Rattle.chain_world.specs.declared.packet.ChainEnd.{ChainEnd}
use Rattle.chain_world.specs.declared.packet.ChainEnd.TheVariants as ends
use Rattle.chain_world.specs.State.{Chains, Client, Post as ChainPost}
use Rattle.chain_world.specs.World.{is_client, is_whole, may_invoke, with_invoke, is_call, is_open_at, with_reply, after, run_from, run}
use Rattle.replica_model.specs.declared.packet.Body.TheVariants as body
use Rattle.replica_model.specs.declared.input.Input.{Input}
use Rattle.replica_model.specs.declared.input.Input.TheVariants as input
use Rattle.replica_model.specs.Replica.{Row, Replica}
use Rattle.statement_run.specs.Statement.{Asked}
use Rattle.statement_run.specs.Caller.{Caller, Open, next, next_from}
use Rattle.world_model.specs.State.{Space, Standing, Vacant, Up, Stopped, Down, Gone, Post}
use Rattle.world_model.specs.Grouped.{Has}
use Rattle.world_model.specs.Chained.{chain_post, HasInput, IsHeard, IsRow, IsReplica, StandsAs, IsDue, IsCaller, asks_of}
use Rattle.world_model.proofs.Applying.{mail_on}
use Rattle.world_model.proofs.Moments.{moment_same}

-- a run goes on
pub run_more : (ids : VidKind) (parts : ℕ) (c : Chains) (events more : List ChainEvent) → run_from ids parts c (events ++ more) ≡ run_from ids parts (run_from ids parts c events) more
run_more ids parts c [] more = refl
run_more ids parts c (e ∷ events) more = run_more ids parts (after ids parts c e) events more

pub reached_more : (ids : VidKind) (parts : ℕ) (c d : Chains) → (events : List ChainEvent) × (run ids parts events ≡ c) → (more : List ChainEvent) → run_from ids parts c more ≡ d → (events : List ChainEvent) × (run ids parts events ≡ d)
reached_more ids parts c d r more is = (r.0 ++ more, run_more ids parts _ r.0 more ∙ ap (λ x. run_from ids parts x more) r.1 ∙ is)

-- What stands of replicas and clients stands as packets are added, where the leaders are as they were.
module _ (posts more : List ChainPost) (grows : (x : ChainPost) → Has posts x → Has more x) where
  pub heard_on : (p : ℕ) (i : Input) → IsHeard posts p i → IsHeard more p i
  heard_on p (input.Sent packet) is = go packet.body is
    where
      go : (b : _) → HasInput posts p packet.from b → HasInput more p packet.from b
      go (body.Raft message) h = tt
      go (body.Chain said) h = (h.0, mail_on posts more grows packet.from _ said h.0 h.1)
  heard_on p (input.Tick t) is = tt

  pub due_on : (n number : ℕ) (a : Answer) (m : ℕ) → IsDue posts n number a m → IsDue more n number a m
  due_on n number a m is = record { from = is.from; there = grows _ is.there }

  pub caller_on : (sent others : List Post) → ((k : ℕ) (post : Post) → slice_get sent k ≡ Some post → slice_get others k ≡ Some post)
      → (n : ℕ) (caller : Caller) (client : Client) → IsCaller sent posts n caller client → IsCaller others more n caller client
  caller_on sent others stays n caller client is = record {
    last = is.last;
    asks = is.asks;
    named = is.named;
    due = λ due e. (let d = is.due due e in (
      d.0,
      d.1,
      record { post = d.2.post; there = stays due.packet d.2.post d.2.there; is = due_on n d.0.id.number due.answer d.2.post.moment d.2.is },
    ));
  }

-- A replica stands as it stood, as packets and rounds are added, where its counterpart and the moments of its rounds are as
-- they were.
module _ (sp : Space) (c d : Chains) (old new : List Round) (p : ℕ) (r : Replica) (was now : ℕ → ℕ → ℕ)
    (grows : (x : ChainPost) → Has c.posts x → Has d.posts x) (begun : (x : Round) → Has old x → Has new x) where
  pub row_on : ((round : ℕ) → now r.core.term round ≡ was r.core.term round) → (row : Row) → IsRow c.posts old (was r.core.term) r.core row → IsRow d.posts new (now r.core.term) r.core row
  row_on same row is = record {
    round = is.round;
    begun = begun is.round is.begun;
    its_term = is.its_term;
    its_number = is.its_number;
    within = is.within;
    ready = is.ready;
    seen = λ e. (let s = is.seen e in (
      s.0,
      grows _ (subst (λ m. Has c.posts (chain_post s.0 (ends.Client row.id.client) (says.Answer row.id.number row.answer) m))
          (sym (moment_same (was r.core.term) (now r.core.term) row.round (same row.round))) s.1),
    ));
  }

  pub replica_on : (is_leading r.core.role ≡ true → d.leaders p r.core.term ≡ c.leaders p r.core.term) → (is_leading r.core.role ≡ true → (round : ℕ) → now r.core.term round ≡ was r.core.term round)
      → IsReplica sp c old was p r → IsReplica sp d new now p r
  replica_on there same is = record {
    part = is.part;
    leads = λ led. (let l = is.leads led in record {
      leader = l.leader;
      is = there led ∙ l.is;
      lead = l.lead;
      applied = l.applied;
      senders = l.senders;
      ready = l.ready;
      rows = all_weaker (IsRow c.posts old (was r.core.term) r.core) (IsRow d.posts new (now r.core.term) r.core) (row_on (same led)) r.rows l.rows;
    });
    follows = is.follows;
  }

module _ (sp : Space) (c d : Chains) (g : Group) (p : ℕ) (asked : ℕ → ℕ → ℕ) (same : d.leaders p ≡ c.leaders p) (grows : (x : ChainPost) → Has c.posts x → Has d.posts x) where
  stays_up : (r : Replica) → IsReplica sp c g.rounds asked p r → IsReplica sp d g.rounds asked p r
  stays_up r is = replica_on sp c d g.rounds g.rounds p r asked asked grows (λ x has. has) (λ led. ap (λ f. f r.core.term) same) (λ led round. refl) is

  pub stands_on : (x : Standing) → StandsAs sp c g asked p x → StandsAs sp d g asked p x
  stands_on Vacant is = tt
  stands_on (Up r) is = stays_up r is
  stands_on (Stopped r i) is = (stays_up r is.0, heard_on c.posts d.posts grows p i is.1)
  stands_on (Down left) is = is
  stands_on Gone is = tt

-- a call that no other is open beside
pub no_call : (caller : Caller) (asked : Asked) → next caller ≡ Some asked → caller.call ≡ None
no_call caller asked e = go caller.call refl
  where
    go : (o : Option Open) → caller.call ≡ o → caller.call ≡ None
    go None is = is
    go (Some call) is = absurd (none-some asked (sym (ap (λ o. next_from caller.queue o) is) ∙ e))

module _ (ids : VidKind) (parts : ℕ) (c : Chains) (id : CallId) (client : is_client id.client ≡ true) where
  -- Invoke
  pub invoke_one : (op : Op) (sent : List Post) (posts : List ChainPost) (caller : Caller) → IsCaller sent posts id.client caller (c.clients id.client) → caller.call ≡ None → id.number ≡ suc caller.last → is_whole ids parts id op ≡ true
      → after ids parts c (event.Invoke id op) ≡ with_invoke parts c id op
  invoke_one op sent posts caller is free number whole =
      let asks = (c.clients id.client).asks in
      let last = (c.clients id.client).last in
      after_is ids parts c (event.Invoke id op)
      ∙ cond-true (is_client id.client) (if may_invoke ids parts (c.clients id.client) id op then with_invoke parts c id op else c) c client
      ∙ cond-true (may_invoke ids parts (c.clients id.client) id op) (with_invoke parts c id op) c
      (and_from (is_none asks && (id.number == last + 1)) (is_whole ids parts id op)
      (and_from (is_none asks) (id.number == last + 1) (ap is_none (is.asks ∙ ap asks_of free))
      (eq-eqb id.number (last + 1) (let l = is.last in omega arith)))
      whole)

  is_open : (o : Option (CallId × Op)) (op : Op) → o ≡ Some (id, op) → is_call id o ≡ true
  is_open o op e = ap (is_call id) e ∙ same_itself call_keys id

  -- Reply
  pub reply_one : (op : Op) (k : ℕ) (from : ChainEnd) (a : Answer) (m : ℕ) → (c.clients id.client).asks ≡ Some (id, op)
      → slice_get c.posts k ≡ Some (chain_post from (ends.Client id.client) (says.Answer id.number a) m) → after ids parts c (event.Reply id a k) ≡ with_reply c id a m
  reply_one op k from a m open_is at =
      after_is ids parts c (event.Reply id a k)
      ∙ cond-true (is_client id.client) (if is_open_at c id then ended c id a (slice_get c.posts k) else c) c client
      ∙ cond-true (is_open_at c id) (ended c id a (slice_get c.posts k)) c (is_open (c.clients id.client).asks op open_is)
      ∙ ap (ended c id a) at
      ∙ cond-true (is_unknown a || (is_for id (ends.Client id.client) id.number && is_same_answer a a)) (with_reply c id a m) c (by_test (is_unknown a)
      (and_from ((id.client == id.client) && (id.number == id.number)) (is_same_answer a a)
      (and_from (id.client == id.client) (id.number == id.number) (eq-eqb id.client id.client refl) (eq-eqb id.number id.number refl)) (answer_itself a)))
    where
      by_test : (b : Bool) {x : Bool} → x ≡ true → (b || x) ≡ true
      by_test true e = refl
      by_test false e = e

  pub unknown_one : (op : Op) → (c.clients id.client).asks ≡ Some (id, op) → after ids parts c (event.Reply id Unknown 0) ≡ with_reply c id Unknown 0
  unknown_one op open_is =
      after_is ids parts c (event.Reply id Unknown 0)
      ∙ cond-true (is_client id.client) (if is_open_at c id then ended c id Unknown (slice_get c.posts 0) else c) c client
      ∙ cond-true (is_open_at c id) (ended c id Unknown (slice_get c.posts 0)) c (is_open (c.clients id.client).asks op open_is)
