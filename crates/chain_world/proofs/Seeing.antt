-- A leader answers a read, and a call ends with the answer that a packet brings, or without one.
use Rattle.graph_model.specs.declared.answer.Answer.{Answer}
use Rattle.std.proofs.Common.{◌≡◌, inl, inr, ℕ, List, [], ◌∷◌, length, Option, Some, None, true, refl, ap, sym, subst, ◌∙◌, eqb-true, Bool, ◌||◌}
use Rattle.std.specs.Prelude.{◌==◌, if◌then◌else◌, slice_get}
use Rattle.std.specs.Option.{option_or}
use Rattle.std.specs.Ordering.{eq_by_cmp}
use Rattle.std.proofs.lemmas.Bool.{false≢true, cond_both, and_parts, cases_Bool}
use Rattle.std.proofs.lemmas.Option.{same_Some, none-some}
use Rattle.maps.proofs.Keys.{same_is}
use Rattle.graph_model.specs.Keys.{call_cmp}
use Rattle.graph_model.proofs.KeyLemmas.{call_keys}
use Rattle.graph_model.specs.declared.answer.Answer.TheVariants as said
use Rattle.graph_model.specs.declared.call_id.CallId.{CallId}
use Rattle.graph_model.specs.declared.op.Op.{Op}
use Rattle.graph_model.specs.declared.query.Query.{Query}
use Rattle.graph_model.specs.declared.op.Op.TheVariants.{PutEdges, DelEdges, PutVertex, DelVertex, Read as ReadOp}
use Rattle.graph_model.specs.Same.{is_same_answer, is_unknown}
use Rattle.graph_model.proofs.SameLemmas.{answer_is}
use Rattle.part_keys.specs.Routing.{routes_to, part_of_query}
use Rattle.part_keys.specs.declared.entry.PartEntry.{PartEntry}
use Rattle.part_keys.specs.declared.entry.PartEntry.TheVariants as entry
use Rattle.part_rules.specs.View.{view}
use Rattle.chain_leader.specs.declared.body.ChainBody.{ChainBody}
use Rattle.chain_leader.specs.declared.body.ChainBody.TheVariants as says
use Rattle.chain_leader.specs.Calls.{entry_of, part_of_op}
use Rattle.chain_world.specs.declared.packet.ChainEnd.{ChainEnd}
use Rattle.chain_world.specs.declared.packet.ChainEnd.TheVariants as ends
use Rattle.chain_world.specs.Places.{Among}
use Rattle.chain_world.specs.Invariant.Discipline.{IsInvoked, IsRightReply, WasSeen}
use Rattle.chain_world.specs.State.{Post, Leader, Chains, decided_machine}
use Rattle.chain_world.specs.World.{query_in, asked_in, is_at, asked_by, first_asked, knows_all, is_call, is_open_at, with_reply, is_for, answers, brings, moment_of, holds_of}
use Rattle.chain_world.proofs.Occurring.{showing, sees, may_end, ended, shown_to}
use Rattle.chain_world.specs.Invariant.Protocol.{IsMeant, IsMeantBy, IsAsked}
use Rattle.chain_world.specs.Invariant.Safe.{IsSafe}
use Rattle.chain_world.proofs.Ledgers.{sees_now}
use Rattle.chain_world.proofs.Members.{among_at}
use Rattle.chain_world.proofs.Staying.{is_chains}
use Rattle.chain_world.proofs.Telling.{told_kept}
use Rattle.chain_world.proofs.Asking.{reply_safe}

-- a query in a Request of the call, to the part
query_of_entry : (id : CallId) (x : PartEntry) (q : Query) → query_in id x ≡ Some q → x ≡ entry.Read id q
query_of_entry id (entry.Read call query) q = cond_both (eq_by_cmp call_cmp call id) (Some query) None (λ (o : Option Query). o ≡ Some q → entry.Read call query ≡ entry.Read id q)
    (λ same e. ap (λ (i : CallId). entry.Read i query) (same_is call_keys call id same) ∙ ap (entry.Read id) (same_Some query q e)) (λ other e. absurd (none-some q e))
query_of_entry id (entry.Prime call list absent) q = λ e. absurd (none-some q e)
query_of_entry id (entry.Local v) q = λ e. absurd (none-some q e)
query_of_entry id (entry.Double v) q = λ e. absurd (none-some q e)
query_of_entry id (entry.Close v) q = λ e. absurd (none-some q e)
query_of_entry id (entry.Abort v) q = λ e. absurd (none-some q e)
query_of_entry id (entry.Remote p t v list) q = λ e. absurd (none-some q e)
query_of_entry id (entry.Fence p t v edges) q = λ e. absurd (none-some q e)
query_of_entry id (entry.Vertex call op) q = λ e. absurd (none-some q e)

-- the op whose entry is a Read
read_op : (id other : CallId) (o : Op) (q : Query) → entry.Read id q ≡ entry_of other o → (o ≡ ReadOp q) × (other ≡ id)
read_op id other (PutEdges rows absent) q e = absurd (let f : entry.Read id q ≡ entry_of other (PutEdges rows absent) = e in cc)
read_op id other (DelEdges edges) q e = absurd (let f : entry.Read id q ≡ entry_of other (DelEdges edges) = e in cc)
read_op id other (PutVertex v tag row absent) q e = absurd (let f : entry.Read id q ≡ entry.Vertex other (PutVertex v tag row absent) = e in cc)
read_op id other (DelVertex v) q e = absurd (let f : entry.Read id q ≡ entry.Vertex other (DelVertex v) = e in cc)
read_op id other (ReadOp query) q e = let f : entry.Read id q ≡ entry.Read other query = e in ((let g : query ≡ q = cc in ap ReadOp g), (let g : other ≡ id = cc in g))

-- the answer that is Unknown
pub unknown_is : (a : Answer) → is_unknown a ≡ true → a ≡ said.Unknown
unknown_is said.Unknown e = refl
unknown_is said.Fine e = absurd (false≢true e)
unknown_is said.Skipped e = absurd (false≢true e)
unknown_is said.Pending e = absurd (false≢true e)
unknown_is (said.Conflict other) e = absurd (false≢true e)
unknown_is said.Cancelled e = absurd (false≢true e)
unknown_is (said.Shown view) e = absurd (false≢true e)

module _ (parts : ℕ) (s : Chains) (safe : IsSafe parts s) where
  -- what was asked of a part was invoked, and is of that part
  pub record IsAskedOf (p : ℕ) (id : CallId) (q : Query) : Type 0 where
    pub invoked : IsInvoked s.ledger.steps id (ReadOp q)
    pub home : part_of_query parts q ≡ p

  asked_at : (p : ℕ) (id : CallId) (q : Query) (x : PartEntry) → x ≡ entry.Read id q → IsAsked parts s p x → IsAskedOf p id q
  asked_at p id q x is a =
      let r = read_op id a.id a.op q (sym is ∙ a.entry) in
      let routed = a.routed in
      record {
        invoked = subst (λ (i : CallId). IsInvoked s.ledger.steps i (ReadOp q)) r.1 (subst (IsInvoked s.ledger.steps a.id) r.0 a.invoked);
        home = eqb-true (part_of_query parts q) p (ap (λ (n : ℕ). part_of_query parts q == n) (sym a.part) ∙ ap (routes_to parts (part_of_op parts a.op)) (sym is ∙ a.entry) ∙ routed);
      }

  pub asked_post : (p : ℕ) (id : CallId) (q : Query) (m : ℕ) (from to : ChainEnd) (b : ChainBody) → is_at p to ≡ true → asked_in id b ≡ Some q → IsMeantBy parts s safe.courses m from to b → IsAskedOf p id q
  asked_post p id q m from to (says.Request number x) at e i =
      let here : i.part ≡ p = eqb-true i.part p (ap (is_at p) (sym i.receiver) ∙ at) in
      asked_at p id q x (query_of_entry id x q e) (subst (λ (n : ℕ). IsAsked parts s n x) here i.asked)
  asked_post p id q m from to (says.Answer number answer) at e i = absurd (none-some q e)
  asked_post p id q m from to (says.NotLeader about o hint) at e i = absurd (none-some q e)
  asked_post p id q m from to (says.Remote t v list) at e i = absurd (none-some q e)
  asked_post p id q m from to (says.Done t v) at e i = absurd (none-some q e)
  asked_post p id q m from to (says.Stale t v above) at e i = absurd (none-some q e)
  asked_post p id q m from to (says.Fence t v edges) at e i = absurd (none-some q e)
  asked_post p id q m from to (says.Fenced t v written) at e i = absurd (none-some q e)
  asked_post p id q m from to (says.Resume t behind) at e i = absurd (none-some q e)

  pub first_is_asked : (p : ℕ) (id : CallId) (q : Query) (posts : List Post) → ((post : Post) → Among post posts → IsMeant parts s safe.courses post) → first_asked p id posts ≡ Some q → IsAskedOf p id q
  first_is_asked p id q [] meant e = absurd (none-some q e)
  first_is_asked p id q (post ∷ posts) meant e = by_post (first_is_asked p id q posts (λ other among. meant other (inr among))) (asked_by p id post) refl e
    where
      by_post : (first_asked p id posts ≡ Some q → IsAskedOf p id q) → (o : Option Query) → asked_by p id post ≡ o → option_or o (first_asked p id posts) ≡ Some q → IsAskedOf p id q
      by_post rest None is f = rest f
      by_post rest (Some r) is f = cond_both (is_at p post.packet.to) (asked_in id post.packet.body) None (λ (o : Option Query). o ≡ Some r → IsAskedOf p id q)
          (λ at g. asked_post p id q post.moment post.packet.from post.packet.to post.packet.body at (g ∙ f) (meant post (inl refl))) (λ other g. absurd (none-some r g)) is

  -- See
  see_safe : (p t : ℕ) (id : CallId) (o : Option Query) → ((q : Query) → o ≡ Some q → IsAskedOf p id q) → IsSafe parts (showing parts s p t id o)
  see_safe p t id None asked = safe
  see_safe p t id (Some q) asked =
      let a = asked q refl in
      let seen : WasSeen s.ledger id (view q (decided_machine parts s p)) (length s.ledger.steps) = sees_now parts s.ledger safe.courses safe.ledger id q a.invoked p a.home in
      record {
        courses = safe.courses;
        kept = told_kept parts s safe.courses safe.kept s.ledger.steps (shown_to parts s p t id q ∷ []) s.clients
            (λ post among. elim among [ inl same ↦ ap (λ (x : Post). is_chains x.packet.body) same | inr none ↦ absurd none ])
            (λ i o h. h) (λ i b m r. r)
            (λ post among. elim among [ inl same ↦ subst (IsMeant parts _ safe.courses) (sym same) (record { id = id; receiver = refl; its = refl; right = seen; known = refl }) | inr none ↦ absurd none ]);
        ledger = safe.ledger;
        asking = record { asks = safe.asking.asks; invoked = safe.asking.invoked; replied = safe.asking.replied };
        founded = safe.founded;
        last = safe.last;
      }

  pub see_event : (p t : ℕ) (id : CallId) → IsSafe parts (sees parts s p t id (s.leaders p t))
  see_event p t id = by_leader (s.leaders p t)
    where
      by_leader : (o : Option Leader) → IsSafe parts (sees parts s p t id o)
      by_leader None = safe
      by_leader (Some l) = cond_both (knows_all s p l) (showing parts s p t id (first_asked p id s.posts)) s (IsSafe parts)
          (λ _. see_safe p t id (first_asked p id s.posts) (λ q e. first_is_asked p id q s.posts safe.kept.meant e)) (λ _. safe)

  -- the call that is open
  open_is : (id : CallId) (o : Option (CallId × Op)) → is_call id o ≡ true → (op : Op) × (o ≡ Some (id, op))
  open_is id None e = absurd (false≢true e)
  open_is id (Some call) e = (call.1, ap (λ (i : CallId). Some (i, call.1)) (same_is call_keys call.0 id e))

  -- Reply
  same_call : (i id : CallId) → is_for id (ends.Client i.client) i.number ≡ true → i ≡ id
  same_call i id e = let a = and_parts (i.client == id.client) (i.number == id.number) e in
      ap (λ (c : ℕ). record { client = c; number = i.number }) (eqb-true i.client id.client a.0) ∙ ap (λ (n : ℕ). record { client = id.client; number = n }) (eqb-true i.number id.number a.1)

  -- an answer that a packet brings is right
  brought : (id : CallId) (a : Answer) (m : ℕ) (from to : ChainEnd) (b : ChainBody) → IsMeantBy parts s safe.courses m from to b → answers id a to b ≡ true → IsRightReply parts s.ledger id a m
  brought id a m from to (says.Answer number answer) i its =
      let both = and_parts (is_for id to number) (is_same_answer a answer) its in
      let same : i.id ≡ id = same_call i.id id (ap (λ (e : ChainEnd). is_for id e i.id.number) (sym i.receiver) ∙ ap (is_for id to) (sym i.its) ∙ both.0) in
      subst (λ (b : Answer). IsRightReply parts s.ledger id b m) (sym (answer_is a answer both.1)) (subst (λ (c : CallId). IsRightReply parts s.ledger c answer m) same i.right)
  brought id a m from to (says.Request number x) i its = absurd (false≢true its)
  brought id a m from to (says.NotLeader about q hint) i its = absurd (false≢true its)
  brought id a m from to (says.Remote t v list) i its = absurd (false≢true its)
  brought id a m from to (says.Done t v) i its = absurd (false≢true its)
  brought id a m from to (says.Stale t v above) i its = absurd (false≢true its)
  brought id a m from to (says.Fence t v edges) i its = absurd (false≢true its)
  brought id a m from to (says.Fenced t v written) i its = absurd (false≢true its)
  brought id a m from to (says.Resume t behind) i its = absurd (false≢true its)

  -- so is Unknown
  right_of : (id : CallId) (a : Answer) (n : ℕ) (o : Option Post) → slice_get s.posts n ≡ o → may_end id a o ≡ true → IsRightReply parts s.ledger id a (moment_of o)
  right_of id a n o e may = elim (cases_Bool (is_unknown a)) [
    | inl unknown ↦ subst (λ (b : Answer). IsRightReply parts s.ledger id b (moment_of o)) (sym (unknown_is a unknown)) tt
    | inr known ↦ by_post o e (sym (ap (λ (b : Bool). b || holds_of (λ (x : Post). brings id a x) o) known) ∙ may)
  ]
    where
      by_post : (o : Option Post) → slice_get s.posts n ≡ o → holds_of (λ (x : Post). brings id a x) o ≡ true → IsRightReply parts s.ledger id a (moment_of o)
      by_post None e its = absurd (false≢true its)
      by_post (Some post) e its = brought id a post.moment post.packet.from post.packet.to post.packet.body (safe.kept.meant post (among_at post s.posts n e)) its

  pub reply_event : (id : CallId) (a : Answer) (n : ℕ) → IsSafe parts (if is_open_at s id then ended s id a (slice_get s.posts n) else s)
  reply_event id a n = cond_both (is_open_at s id) (ended s id a (slice_get s.posts n)) s (IsSafe parts)
      (λ is_it. (let o = open_is id (s.clients id.client).asks is_it in
      cond_both (may_end id a (slice_get s.posts n)) (with_reply s id a (moment_of (slice_get s.posts n))) s (IsSafe parts)
      (λ may. reply_safe parts s safe id o.0 o.1 a (moment_of (slice_get s.posts n)) (right_of id a n (slice_get s.posts n) refl may)) (λ _. safe)))
      (λ _. safe)
