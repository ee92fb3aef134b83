-- What clients do and hear, in the world of chains.
use Rattle.std.proofs.Common.{◌≡◌, ◌⊎◌, inl, inr, ℕ, zero, suc, ◌<◌, List, [], ◌∷◌, ◌++◌, Option, Some, None, Bool, true, false, cond, refl, ap, sym, subst, ◌∙◌, arith, eqb-true}
use Rattle.std.specs.Prelude.{◌==◌, ◌||◌, not, nat_lt, nat_le, slice_get}
use Rattle.std.specs.Option.{is_some}
use Rattle.std.proofs.lemmas.Bool.{cond_both, and_parts, false≢true, cases_lt, leb-true}
use Rattle.std.proofs.lemmas.Option.{same_Some, none-some}
use Rattle.graph_model.specs.declared.answer.Answer.{Answer}
use Rattle.graph_model.specs.declared.answer.Answer.TheVariants as said
use Rattle.graph_model.specs.declared.call_id.CallId.{CallId}
use Rattle.graph_model.specs.declared.op.Op.{Op}
use Rattle.part_keys.specs.declared.entry.PartEntry.{PartEntry}
use Rattle.chain_leader.specs.Calls.{entry_of, part_of_op}
use Rattle.chain_leader.specs.declared.body.About.{About}
use Rattle.chain_leader.specs.declared.body.About.TheVariants as about
use Rattle.chain_leader.specs.declared.body.ChainBody.{ChainBody}
use Rattle.chain_leader.specs.declared.body.ChainBody.TheVariants as says
use Rattle.raft_group.specs.Group.{Group}
use Rattle.chain_world.specs.declared.event.ChainEvent.{ChainEvent}
use Rattle.chain_world.specs.declared.event.ChainEvent.TheVariants as event
use Rattle.chain_world.specs.declared.packet.ChainEnd.TheVariants as ends
use Rattle.chain_world.specs.Ledger.{Ledger, invokes, replies}
use Rattle.chain_world.specs.State.{Chains, Client, Post as ChainPost, made_by, made_by_leader}
use Rattle.chain_world.specs.World.{after, run, with_invoke, with_reply, request_of}
use Rattle.replica_model.specs.declared.packet.Place.{Place}
use Rattle.replica_model.specs.declared.packet.Place.TheVariants as place
use Rattle.replica_model.specs.declared.packet.To.{To}
use Rattle.replica_model.specs.declared.packet.To.TheVariants as to
use Rattle.replica_model.specs.declared.packet.Body.{Body}
use Rattle.replica_model.specs.declared.packet.Body.TheVariants as body
use Rattle.replica_model.specs.Letters.{to_part}
use Rattle.replica_model.specs.declared.input.Tick.{Tick}
use Rattle.statement_run.specs.Statement.{Statement, parts_in}
use Rattle.statement_run.specs.Caller.{Due, Caller, Open, owes, call_of, counted, invoked, request_of as client_request, rounded, rounded_from, answers, fits, hears, hears_by, hears_of, hinted_of, replied, next_from, queued}
use Rattle.world_model.specs.declared.event.Event.TheVariants as world
use Rattle.world_model.specs.State.{Space, Post, post_of, State, resolve, AtClient}
use Rattle.world_model.specs.After.{asked_at, asks_again, posts_and, client_after, moment_at, moment_of}
use Rattle.world_model.specs.Lawful.{all_below, IsQuiet, IsDue as AnswerIsDue, MayInvoke, MayReply, GivesUp}
use Rattle.world_model.specs.Grouped.{Has}
use Rattle.world_model.specs.Chained.{HasDue, IsRouted, chain_post, end_of, HasMail, HasLike, IsCaller, asks_of, Chained}
use Rattle.world_model.proofs.Lists.{get_left, get_either, has_left, has_right}
use Rattle.world_model.proofs.Applying.{like_on}
use Rattle.statement_run.proofs.Queues.{all_unended, all_told, all_queued, parts_next}
use Rattle.world_model.proofs.Calling.{reached_more, caller_on, stands_on, no_call, invoke_one, reply_one, unknown_one}
use Rattle.world_model.proofs.Joining.{Has_chains, Has_some, ended}
use Rattle.world_model.proofs.Backed.{Backed}

-- a client, with the Request of its open call
pub record IsClient (sp : Space) (sent : List Post) (posts : List ChainPost) (n : ℕ) (caller : Caller) (client : Client) : Type 0 where
  pub caller_is : IsCaller sent posts n caller client
  pub request : (call : Open) → caller.call ≡ Some call → Has posts (request_of sp.parts call.id call.op)
  pub routed : IsRouted sp.parts caller

-- its open call, with another count or hint
recalled : (sp : Space) (sent : List Post) (posts : List ChainPost) (n : ℕ) (caller : Caller) (client : Client) → IsClient sp sent posts n caller client → (call other : Open) → caller.call ≡ Some call → other.id ≡ call.id → other.op ≡ call.op → other.parts ≡ call.parts
    → IsClient sp sent posts n (record caller { call = Some other }) client
recalled sp sent posts n caller client is call other its same_id same_op same_parts = record {
  caller_is = record {
    last = is.caller_is.last;
    asks = is.caller_is.asks ∙ ap asks_of its ∙ ap (λ i. Some (i, call.op)) (sym same_id) ∙ ap (λ o. Some (other.id, o)) (sym same_op);
    named = λ x e. ap (λ (k : Open). k.id.client) (sym (same_Some other x e)) ∙ ap (λ (i : CallId). i.client) same_id ∙ is.caller_is.named call its;
    due = λ due e. (let d = is.caller_is.due due e in (
      other,
      refl,
      subst (λ (i : CallId). HasDue sent posts n i.number due) (ap (λ (k : Open). k.id) (same_Some d.0 call (sym d.1 ∙ its)) ∙ sym same_id) d.2,
    ));
  };
  request = λ x e. subst (λ (k : Open). Has posts (request_of sp.parts k.id k.op)) (same_Some other x e)
      (subst (λ i. Has posts (request_of sp.parts i other.op)) (sym same_id) (subst (λ o. Has posts (request_of sp.parts call.id o)) (sym same_op) (is.request call its)));
  routed = record { queue = is.routed.queue; call = λ x e. ap (λ (k : Open). k.parts) (sym (same_Some other x e)) ∙ same_parts ∙ is.routed.call call its };
}

module _ (sp : Space) (sent : List Post) (posts : List ChainPost) (n : ℕ) (caller : Caller) (client : Client) (is : IsClient sp sent posts n caller client) where
  abbrev Is : Caller → Type 0
  Is x = IsClient sp sent posts n x client

  -- a Round
  rounded_is : (o : Option Open) → caller.call ≡ o → Is (rounded_from caller o)
  rounded_is None e = is
  rounded_is (Some call) e = recalled sp sent posts n caller client is call (record (counted call) { hint = 0 }) e refl refl refl

  -- an Answer of the open call
  answered_is : (from : Place) (k : ℕ) (post : Post) → slice_get sent k ≡ Some post → (call : Open) → caller.call ≡ Some call → (number : ℕ) (answer : Answer)
      → HasMail posts from (ends.Client n) (says.Answer number answer) post.moment → answers call number answer ≡ true → Is (record caller { due = Some (record { answer = answer; packet = k }) })
  answered_is from k post at call its number answer mail fit = record {
    caller_is = record {
      last = is.caller_is.last;
      asks = is.caller_is.asks;
      named = is.caller_is.named;
      due = λ due e. (
        call,
        its,
        subst (HasDue sent posts n call.id.number) (same_Some (record { answer = answer; packet = k }) due e)
            (record {
              post = post;
              there = at;
              is = record {
                from = mail.from;
                there = subst (λ i. Has posts (chain_post mail.from (ends.Client n) (says.Answer i answer) post.moment)) (eqb-true number call.id.number (and_parts (number == call.id.number) (fits answer call.op) fit).0) mail.there;
              };
            }),
      );
    };
    request = is.request;
    routed = record { queue = is.routed.queue; call = is.routed.call };
  }

  told_is : (call : Open) → caller.call ≡ Some call → (other : About) (hint : ℕ) → Is (hinted_of caller call other hint)
  told_is call its (about.Call number) hint = cond_both (number == call.id.number) (record caller { call = Some (record call { hint = hint }) }) caller Is
      (λ own. recalled sp sent posts n caller client is call (record call { hint = hint }) its refl refl refl) (λ other. is)
  told_is call its (about.Chain v) hint = is

  hears_call : (from : Place) (k : ℕ) (post : Post) → slice_get sent k ≡ Some post → (call : Open) → caller.call ≡ Some call → (said : ChainBody) → HasMail posts from (ends.Client n) said post.moment
      → Is (hears_of caller call k said)
  hears_call from k post at call its (says.Answer number answer) mail = cond_both (answers call number answer) (record caller { due = Some (record { answer = answer; packet = k }) }) caller Is
      (λ fit. answered_is from k post at call its number answer mail fit) (λ unfit. is)
  hears_call from k post at call its (says.NotLeader other q hint) mail = told_is call its other hint
  hears_call from k post at call its (says.Request number x) mail = is
  hears_call from k post at call its (says.Remote t v list) mail = is
  hears_call from k post at call its (says.Done t v) mail = is
  hears_call from k post at call its (says.Stale t v above) mail = is
  hears_call from k post at call its (says.Fence t v edges) mail = is
  hears_call from k post at call its (says.Fenced t v written) mail = is
  hears_call from k post at call its (says.Resume t after) mail = is

  -- a packet comes
  hears_is : (from : Place) (whom : To) (k : ℕ) (post : Post) → slice_get sent k ≡ Some post → (o : Option Open) → caller.call ≡ o → (due : Option Due) (b : Body) → ((said : ChainBody) → end_of whom said ≡ ends.Client n)
      → HasLike posts from whom b post.moment → Is (hears_by caller o due k b)
  hears_is from whom k post at (Some call) e None (body.Chain said) end like = hears_call from k post at call e said (subst (λ w. HasMail posts from w said post.moment) (end said) like)
  hears_is from whom k post at (Some call) e None (body.Raft message) end like = is
  hears_is from whom k post at (Some call) e (Some due) b end like = is
  hears_is from whom k post at None e due b end like = is

-- a Request that a client sends, by whatever try or hint
asked_like : (posts : List ChainPost) (client p tries hint number : ℕ) (x : PartEntry) → Has posts (chain_post (ends.Client client) (ends.Part p) (says.Request number x) 0)
    → HasLike posts (place.Client client) (to_part p tries hint) (body.Chain (says.Request number x)) 0
asked_like posts client p tries hint number x there = cond_both (hint == 0) (to.Part p tries) (to.Peer p hint) (λ w. HasLike posts (place.Client client) w (body.Chain (says.Request number x)) 0)
    (λ none. record { from = ends.Client client; sent = tt; there = there }) (λ some. record { from = ends.Client client; sent = tt; there = there })

-- what holds below a number
pub below_at : (n : ℕ) (holds : ℕ → Bool) → all_below n holds ≡ true → (k : ℕ) → k < n → holds k ≡ true
below_at zero holds all k low = absurd (let l = low in omega arith)
below_at (suc n) holds all k low = elim (cases_lt k n) [
  | inl lower ↦ below_at n holds (and_parts (holds n) (all_below n holds) all).1 k lower
  | inr last ↦ subst (λ m. holds m ≡ true) (let same : n ≡ k = (let a = low in let b = last in omega arith) in same) (and_parts (holds n) (all_below n holds) all).0
]

module _ (sp : Space) (told : ℕ → Tick → Type 0) (s : State) (g : ℕ → Group) (c : Chains) (C : Has_chains sp s g c) where
  client_at : (n : ℕ) → IsClient sp s.posts c.posts n (s.callers n) (c.clients n)
  client_at n = record { caller_is = C.calls n; request = C.requests n; routed = C.routed n }

  -- what was sent stays in the list
  abbrev Stays : List Post → Type 0
  Stays posts = (k : ℕ) (post : Post) → slice_get s.posts k ≡ Some post → slice_get posts k ≡ Some post

  -- Clients move, and the chains with them; all leaders are as they were.
  module _ (d : Chains) (reached : (events : List ChainEvent) × (run sp.ids sp.parts events ≡ d)) (leaders : d.leaders ≡ c.leaders) (founded : d.founded ≡ c.founded) (grows : (x : ChainPost) → Has c.posts x → Has d.posts x) where
    made_same : (q u : ℕ) → made_by d q u ≡ made_by c q u
    made_same q u = ap (λ n. cond (u == 0) (n q) (made_by_leader (d.leaders q u))) founded ∙ ap (λ o. cond (u == 0) (c.founded q) (made_by_leader (o q u))) leaders

    clients_move : (ledger : Ledger) → d.ledger ≡ ledger → (callers : ℕ → Caller) → (posts : List Post) → ((n : ℕ) → IsClient sp posts d.posts n (callers n) (d.clients n))
        → ((k : ℕ) (post : Post) → slice_get posts k ≡ Some post → (slice_get s.posts k ≡ Some post) ⊎ HasLike d.posts post.packet.from post.packet.to post.packet.body post.moment)
        → Chained sp s.placed callers posts ledger s.asked g d
    clients_move ledger ledger_is callers posts calls known = record {
      reached = reached;
      ledger_is = ledger_is;
      made = λ q is k l at. C.made q is k l at ∙ sym (made_same q l.term);
      led = λ q is k l at above. (let old = C.led q is k l at above in (old.0, ap (λ o. o q l.term) leaders ∙ old.1));
      unled = λ q t none. ap (λ o. o q t) leaders ∙ C.unled q t none;
      stand = λ q z. stands_on sp c d (g q) q (s.asked q) (ap (λ o. o q) leaders) grows (s.placed q z) (C.stand q z);
      calls = λ n. (calls n).caller_is;
      mail = λ k post at. elim (known k post at) [
        | inl old ↦ like_on c.posts d.posts grows post.packet.from post.packet.to post.packet.body post.moment (C.mail k post old)
        | inr new ↦ new
      ];
      requests = λ n. (calls n).request;
      routed = λ n. (calls n).routed;
    }

    client_on : (posts : List Post) → Stays posts → (n : ℕ) → d.clients n ≡ c.clients n → IsClient sp posts d.posts n (s.callers n) (d.clients n)
    client_on posts stays n same = subst (IsClient sp posts d.posts n (s.callers n)) (sym same)
        (record { caller_is = caller_on c.posts d.posts grows s.posts posts stays n (s.callers n) (c.clients n) (C.calls n); request = λ call its. grows _ (C.requests n call its); routed = C.routed n })

  -- one client alone, and maybe a packet of it
  one_moves : (n : ℕ) (caller : Caller) (posts : List Post) → Stays posts → IsClient sp posts c.posts n caller (c.clients n) → ((k : ℕ) (post : Post) → slice_get posts k ≡ Some post → (slice_get s.posts k ≡ Some post) ⊎ HasLike c.posts post.packet.from post.packet.to post.packet.body post.moment)
      → Chained sp s.placed (λ m. cond (m == n) caller (s.callers m)) posts s.ledger s.asked g c
  one_moves n caller posts stays is known = clients_move c C.reached refl refl (λ x has. has) s.ledger C.ledger_is (λ m. cond (m == n) caller (s.callers m)) posts (λ m. go m (m == n) refl) known
    where
      go : (m : ℕ) (b : Bool) → m == n ≡ b → IsClient sp posts c.posts m (cond b caller (s.callers m)) (c.clients m)
      go m true e = subst (λ k. IsClient sp posts c.posts k caller (c.clients k)) (sym (eqb-true m n e)) is
      go m false e = client_on c C.reached refl refl (λ x has. has) posts stays m refl

  -- a packet comes to a client
  pub chained_hears : (k n : ℕ) (post : Post) → slice_get s.posts k ≡ Some post → resolve s.table post.packet.to ≡ AtClient n → Has_chains sp (client_after sp s (world.Deliver k) (Some post) n) g c
  chained_hears k n post at here = one_moves n (hears (s.callers n) post.packet k) s.posts (λ j other there. there)
      (hears_is sp s.posts c.posts n (s.callers n) (c.clients n) (client_at n) post.packet.from post.packet.to k post at (s.callers n).call refl (s.callers n).due post.packet.body
      (λ said. ended s.table post.packet.to said (AtClient n) here) (C.mail k post at))
      (λ j other there. inl there)

  -- a statement is queued
  pub chained_queued : (n : ℕ) (statement : Statement) → statement.parts ≡ sp.parts → Chained sp s.placed (λ m. cond (m == n) (queued (s.callers n) statement) (s.callers m)) s.posts s.ledger s.asked g c
  chained_queued n statement parts =
      (let is = client_at n in
      one_moves n (queued (s.callers n) statement) s.posts (λ j other there. there)
      (record {
        caller_is = record { last = is.caller_is.last; asks = is.caller_is.asks; named = is.caller_is.named; due = is.caller_is.due };
        request = is.request;
        routed = record { queue = all_queued (λ (x : Statement). x.parts ≡ sp.parts) (s.callers n).queue statement is.routed.queue parts; call = is.routed.call };
      })
      (λ j other there. inl there))

  -- the Requests that a client sends
  abbrev again_of : Open → Post
  again_of call = post_of (client_request (counted call))

  abbrev asking_of : CallId → Op → Post
  asking_of id op = post_of (client_request (call_of id (asked_at (s.callers id.client) op)))

  -- a Round
  chained_repeat : (n : ℕ) (o : Option Open) → (s.callers n).call ≡ o → Chained sp s.placed (λ m. cond (m == n) (rounded (s.callers n)) (s.callers m)) (posts_and s.posts (asks_again o)) s.ledger s.asked g c
  chained_repeat n None its = one_moves n (rounded (s.callers n)) s.posts (λ j other there. there)
      (rounded_is sp s.posts c.posts n (s.callers n) (c.clients n) (client_at n) (s.callers n).call refl) (λ j other there. inl there)
  chained_repeat n (Some call) its = one_moves n (rounded (s.callers n)) (s.posts ++ again_of call ∷ []) stays
      (rounded_is sp (s.posts ++ again_of call ∷ []) c.posts n (s.callers n) (c.clients n) (client_on c C.reached refl refl (λ x has. has) (s.posts ++ again_of call ∷ []) stays n refl) (s.callers n).call refl)
      (λ k post at. elim (get_either s.posts (again_of call ∷ []) k post at) [
        | inl old ↦ inl old
        | inr new ↦ inr (subst (λ (x : Post). HasLike c.posts x.packet.from x.packet.to x.packet.body x.moment) (only _ post new)
            (subst (λ parts. HasLike c.posts (place.Client call.id.client) (to_part (part_of_op parts call.op) (counted call).count call.hint) (body.Chain (says.Request call.id.number (entry_of call.id call.op))) 0) (sym ((C.routed n).call call its))
            (asked_like c.posts call.id.client (part_of_op sp.parts call.op) (counted call).count call.hint call.id.number (entry_of call.id call.op) (C.requests n call its))))
      ])
    where
      stays : Stays (s.posts ++ again_of call ∷ [])
      stays k post at = get_left s.posts (again_of call ∷ []) k post at

      only : (x post : Post) → Has (x ∷ []) post → x ≡ post
      only x post (zero, e) = same_Some x post e
      only x post (suc k, e) = absurd (none-some post e)

  pub chained_round : (n : ℕ) → Has_chains sp (client_after sp s (world.Round n) None n) g c
  chained_round n = chained_repeat n (s.callers n).call refl

  abbrev invoked_chains : CallId → Op → Chains
  invoked_chains id op = with_invoke sp.parts c id op

  abbrev replied_chains : CallId → Answer → ℕ → Chains
  replied_chains id a m = with_reply c id a m

  -- Invoke
  pub chained_invoke : (id : CallId) (op : Op) → MayInvoke sp (s.callers id.client) id op → Has_some sp told c (client_after sp s (world.Invoke id op) None id.client) g
  chained_invoke id op may = (
    (invoked_chains id op),
    clients_move (invoked_chains id op) reached refl refl grows (invokes s.ledger id op) (ap (λ (l : Ledger). invokes l id op) C.ledger_is)
        (λ n. cond (n == id.client) (invoked (s.callers id.client) id (asked_at (s.callers id.client) op)) (s.callers n)) (s.posts ++ asking_of id op ∷ []) (λ n. go n (n == id.client) refl)
        (λ k post at. elim (get_either s.posts (asking_of id op ∷ []) k post at) [
          | inl old ↦ inl old
          | inr new ↦ inr (subst (λ (x : Post). HasLike (invoked_chains id op).posts x.packet.from x.packet.to x.packet.body x.moment) (only _ post new)
              (subst (λ parts. HasLike (invoked_chains id op).posts (place.Client id.client) (to_part (part_of_op parts op) 0 0) (body.Chain (says.Request id.number (entry_of id op))) 0) (sym routed)
              (asked_like (invoked_chains id op).posts id.client (part_of_op sp.parts op) 0 0 id.number (entry_of id op) its)))
        ]),
    record { events = event.Invoke id op ∷ []; is = invoked_is; backed = (tt, tt) },
  )
    where
      only : (x post : Post) → Has (x ∷ []) post → x ≡ post
      only x post (zero, e) = same_Some x post e
      only x post (suc k, e) = absurd (none-some post e)

      -- no other call is open, and its statement is routed by the space's parts
      free : (s.callers id.client).call ≡ None
      free = no_call (s.callers id.client) (record { parts = may.parts; op = op }) may.its

      routed : (asked_at (s.callers id.client) op).parts ≡ sp.parts
      routed =
          ap parts_in may.its
          ∙ parts_next sp.parts (s.callers id.client).queue (C.routed id.client).queue (record { parts = may.parts; op = op })
          (sym (ap (λ o. next_from (s.callers id.client).queue o) free) ∙ may.its)

      its : Has (invoked_chains id op).posts (request_of sp.parts id op)
      its = has_right c.posts (request_of sp.parts id op ∷ []) (request_of sp.parts id op) (0, refl)

      grows : (x : ChainPost) → Has c.posts x → Has (invoked_chains id op).posts x
      grows x has = has_left c.posts (request_of sp.parts id op ∷ []) x has

      invoked_is : after sp.ids sp.parts c (event.Invoke id op) ≡ invoked_chains id op
      invoked_is = (invoke_one sp.ids sp.parts c id may.client op s.posts c.posts (s.callers id.client) (C.calls id.client) free may.number may.whole)

      reached : (events : List ChainEvent) × (run sp.ids sp.parts events ≡ (invoked_chains id op))
      reached = reached_more sp.ids sp.parts c (invoked_chains id op) C.reached (event.Invoke id op ∷ []) invoked_is

      begun : (n : ℕ) → n ≡ id.client → IsClient sp (s.posts ++ asking_of id op ∷ []) (invoked_chains id op).posts n (invoked (s.callers id.client) id (asked_at (s.callers id.client) op)) (record { last = id.number; asks = Some (id, op) })
      begun n e = record {
        caller_is = record {
          last = refl;
          asks = refl;
          named = λ call is. ap (λ (k : Open). k.id.client) (sym (same_Some (call_of id (asked_at (s.callers id.client) op)) call is)) ∙ sym e;
          due = λ due is. (let x = (C.calls id.client).due due is in absurd (none-some x.0 (sym free ∙ x.1)));
        };
        request = λ call is. subst (λ (k : Open). Has (invoked_chains id op).posts (request_of sp.parts k.id k.op)) (same_Some (call_of id (asked_at (s.callers id.client) op)) call is) its;
        routed = record {
          queue = all_unended (λ (x : Statement). x.parts ≡ sp.parts) (s.callers id.client).queue (C.routed id.client).queue;
          call = λ call is. ap (λ (k : Open). k.parts) (sym (same_Some (call_of id (asked_at (s.callers id.client) op)) call is)) ∙ routed;
        };
      }

      go : (n : ℕ) (b : Bool) → n == id.client ≡ b → IsClient sp (s.posts ++ asking_of id op ∷ []) (invoked_chains id op).posts n (cond b (invoked (s.callers id.client) id (asked_at (s.callers id.client) op)) (s.callers n)) (cond b (record { last = id.number; asks = Some (id, op) }) (c.clients n))
      go n true e = begun n (eqb-true n id.client e)
      go n false e = record { caller_is = caller_on c.posts (invoked_chains id op).posts grows s.posts (s.posts ++ asking_of id op ∷ []) (λ k post at. get_left s.posts (asking_of id op ∷ []) k post at) n (s.callers n) (c.clients n) (C.calls n); request = λ call is. grows _ (C.requests n call is); routed = C.routed n }

  -- Reply
  module _ (id : CallId) (a : Answer) where
    ends_call : (m : ℕ) → (e : ChainEvent) → after sp.ids sp.parts c e ≡ with_reply c id a m → Backed told e → moment_of s.posts (s.callers id.client).due ≡ m → Has_some sp told c (client_after sp s (world.Reply id a) None id.client) g
    ends_call m e is plain moment = (
      (replied_chains id a m),
      clients_move (replied_chains id a m) (reached_more sp.ids sp.parts c (replied_chains id a m) C.reached (e ∷ []) is) refl refl (λ x has. has) (replies s.ledger id a (moment_of s.posts (s.callers id.client).due))
          (ap (λ (l : Ledger). replies l id a m) C.ledger_is ∙ ap (λ k. replies s.ledger id a k) (sym moment))
          (λ n. cond (n == id.client) (replied (s.callers id.client) a) (s.callers n)) s.posts (λ n. go n (n == id.client) refl) (λ k post at. inl at),
      record { events = e ∷ []; is = is; backed = (plain, tt) },
    )
      where
        go : (n : ℕ) (b : Bool) → n == id.client ≡ b → IsClient sp s.posts c.posts n (cond b (replied (s.callers id.client) a) (s.callers n)) (cond b (record { last = (c.clients id.client).last; asks = None }) (c.clients n))
        go n true e = record {
          caller_is = record { last = (C.calls id.client).last; asks = refl; named = λ call is. absurd (none-some call is); due = λ due is. absurd (none-some due is) };
          request = λ call is. absurd (none-some call is);
          routed = record { queue = all_told (λ (x : Statement). x.parts ≡ sp.parts) a (s.callers id.client).queue (C.routed id.client).queue; call = λ call is. absurd (none-some call is) };
        }
        go n false e = client_at n

    module _ (may : MayReply (s.callers id.client) id a) where
      asks_is : (c.clients id.client).asks ≡ Some (id, may.call.op)
      asks_is = (C.calls id.client).asks ∙ ap asks_of may.its ∙ ap (λ i. Some (i, may.call.op)) may.same

      by_answer : (due : Due) → (s.callers id.client).due ≡ Some due → due.answer ≡ a → Has_some sp told c (client_after sp s (world.Reply id a) None id.client) g
      by_answer due is same =
          let x = (C.calls id.client).due due is in
          let m = x.2.post.moment in
          let call = same_Some x.0 may.call (sym x.1 ∙ may.its) in
          let there = subst (λ k. Has c.posts (chain_post x.2.is.from (ends.Client id.client) (says.Answer k a) m)) (ap (λ (k : Open). k.id.number) call ∙ ap (λ (i : CallId). i.number) may.same)
          (subst (λ b. Has c.posts (chain_post x.2.is.from (ends.Client id.client) (says.Answer x.0.id.number b) m)) same x.2.is.there) in
          ends_call m (event.Reply id a there.0) (reply_one sp.ids sp.parts c id may.client may.call.op there.0 x.2.is.from a m asks_is there.1) tt (ap (moment_of s.posts) is ∙ ap moment_at x.2.there)

      by_none : GivesUp may.call a → IsQuiet s → Has_some sp told c (client_after sp s (world.Reply id a) None id.client) g
      by_none up quiet = ends_call 0 (event.Reply id said.Unknown 0) (unknown_one sp.ids sp.parts c id may.client may.call.op asks_is ∙ ap (λ x. with_reply c id x 0) (sym up.unknown)) tt (go (s.callers id.client).due refl)
        where
          low : id.client < 65
          low = (let l = leb-true id.client 64 (and_parts (nat_lt 0 id.client) (nat_le id.client 64) may.client).1 in omega arith)

          owes_not : not (owes (s.callers id.client)) ≡ true
          owes_not = below_at 65 (λ n. not (owes (s.callers n))) quiet.1 id.client low

          go : (o : Option Due) → (s.callers id.client).due ≡ o → moment_of s.posts (s.callers id.client).due ≡ 0
          go None e = ap (moment_of s.posts) e
          go (Some x) e = absurd (owed (s.callers id.client).due x e (s.callers id.client).left owes_not)
            where
              owed : (o : Option Due) (x : Due) → o ≡ Some x → (rest : Bool) → not (is_some o || rest) ≡ true → ⊥
              owed None x same rest f = none-some x same
              owed (Some z) x same rest f = false≢true f

    pub chained_reply : MayReply (s.callers id.client) id a → AnswerIsDue (s.callers id.client) a ⊎ IsQuiet s → Has_some sp told c (client_after sp s (world.Reply id a) None id.client) g
    chained_reply may rest = elim rest [
      | inl due ↦ by_answer may due.0 due.1 due.2
      | inr quiet ↦ elim may.ends [ inl due ↦ by_answer may due.0 due.1 due.2 | inr up ↦ by_none may up quiet ]
    ]
