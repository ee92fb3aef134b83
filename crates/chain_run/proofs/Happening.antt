-- An event that isn't lawful changes nothing, and one that is has its effect: what each leaves in memory is the world behind it.
use Rattle.std.proofs.Common.{◌≡◌, ℕ, zero, suc, map, List, [], ◌∷◌, ◌++◌, Option, None, Some, Bool, true, false, length, refl, ap, sym, ◌∙◌}
use Rattle.std.specs.Prelude.{◌&&◌, ◌==◌, if◌then◌else◌, is_some, slice_get, nat_le}
use Rattle.std.specs.FinMap.{get, insert, remove}
use Rattle.std.specs.Option.{option_map}
use Rattle.std.proofs.lemmas.Bool.{and_from, cond-true, cond-false, eq-eqb}
use Rattle.graph_model.specs.declared.call_id.CallId.{CallId}
use Rattle.graph_model.specs.declared.query.Query.{Query}
use Rattle.part_keys.specs.declared.proposal.Proposal.{Proposal}
use Rattle.part_keys.specs.declared.vid_kind.VidKind.{VidKind}
use Rattle.chain_leader.specs.Leader.{leads}
use Rattle.chain_leader.specs.Leading.{given_up, pulsed}
use Rattle.chain_world.specs.declared.event.ChainEvent.{ChainEvent}
use Rattle.chain_world.specs.declared.event.ChainEvent.TheVariants as event
use Rattle.raft_log.specs.declared.config.Config.{Config}
use Rattle.part_keys.specs.declared.proposal.Proposal.TheVariants.{Members}
use Rattle.chain_run.specs.declared.posts.ChainPost.{ChainPost}
use Rattle.chain_world.specs.Events.{with_made, is_unfounded, may_decide, with_decided, is_part, holds_of, where_some, is_led, is_to, with_taken, taking, next_entry, applying, knows_all, first_asked, shown_by}
use Rattle.chain_world.specs.State.{Post, Leader, Chains as World, made_by, with_leader, with_founded, with_posts, posts_of}
use Rattle.chain_world.specs.World.{rule, after}
use Rattle.chain_run.specs.declared.chains.Chains.{Chains}
use Rattle.chain_run.specs.declared.leaders.Seated.{Seated}
use Rattle.chain_run.specs.Shows.{list_in, posted, post_in, leader_of, seat, leader_in, client_in, world_of}
use Rattle.chain_run.proofs.Keeping.{seated_again}

module _ (ids : VidKind) (parts : ℕ) (s : World) (e : ChainEvent) where
  pub nothing : (rule ids parts s e).lawful ≡ false → s ≡ after ids parts s e
  nothing isnt = sym (cond-false (rule ids parts s e).lawful (rule ids parts s e).effect s isnt)

  pub happens : (now : World) → (rule ids parts s e).lawful ≡ true → now ≡ (rule ids parts s e).effect → now ≡ after ids parts s e
  happens now may is = is ∙ sym (cond-true (rule ids parts s e).lawful (rule ids parts s e).effect s may)

-- what is kept is a world, field by field
pub same_world : (n : Chains) (w : World) → n.steps ≡ w.ledger.steps → list_in n.decided ≡ w.ledger.decided → list_in n.founded ≡ w.founded → leader_in n.leaders ≡ w.leaders → posted n.posts ≡ w.posts → client_in n.callers ≡ w.clients → world_of n ≡ w
same_world n w a b c d e f = λ i. record { ledger = record { steps = a i; decided = b i }; founded = c i; leaders = d i; posts = e i; clients = f i }

-- what fails in one of its parts fails
pub fails_left : (a b : Bool) → a ≡ false → (a && b) ≡ false
fails_left a b isnt = ap (λ x. x && b) isnt

pub fails_right : (a b : Bool) → b ≡ false → (a && b) ≡ false
fails_right true b isnt = isnt
fails_right false b isnt = refl

get_map : {A B : Type 0} (f : A → B) (xs : List A) (k : ℕ) → slice_get (map f xs) k ≡ option_map f (slice_get xs k)
get_map f [] k = refl
get_map f (x ∷ xs) zero = refl
get_map f (x ∷ xs) (suc k) = get_map f xs k

-- the packet of a number
pub post_at : (c : Chains) (k : ℕ) → slice_get (posted c.posts) k ≡ option_map post_in (slice_get c.posts k)
post_at c k = get_map post_in c.posts k

is_some_map : {A B : Type 0} (f : A → B) (o : Option A) → is_some (option_map f o) ≡ is_some o
is_some_map f None = refl
is_some_map f (Some x) = refl

-- whether a leader is there
pub led_is : (c : Chains) (p t : ℕ) → is_led (world_of c) p t ≡ is_some (get c.leaders (seat p t))
led_is c p t = is_some_map leader_of (get c.leaders (seat p t))

-- a leader that is there behind what it took, with its packets
pub took : (c n : Chains) (p t : ℕ) (l : Seated) (made : Leader) (more : List Post) → n.steps ≡ c.steps → list_in n.decided ≡ list_in c.decided → list_in n.founded ≡ list_in c.founded → client_in n.callers ≡ client_in c.callers
    → n.leaders ≡ insert (remove c.leaders (seat p t)) (seat p t) l → leader_of l ≡ made → posted n.posts ≡ posted c.posts ++ more
    → world_of n ≡ with_posts (with_leader (world_of c) p t made) more
took c n p t l made more steps decided founded clients leaders is posts =
    same_world n (with_posts (with_leader (world_of c) p t made) more) steps decided founded
    (ap leader_in leaders ∙ seated_again c.leaders p t l ∙ (λ i (q u : ℕ). if (q == p) && (u == t) then Some (is i) else leader_in c.leaders q u))
    posts clients

module _ (ids : VidKind) (parts : ℕ) (c : Chains) (p t : ℕ) (l : Seated) (part : is_part parts p ≡ true) (there : get c.leaders (seat p t) ≡ Some l) where
  abbrev s : World
  s = world_of c

  at : leader_in c.leaders p t ≡ Some (leader_of l)
  at = ap (option_map leader_of) there

  led : is_led s p t ≡ true
  led = ap is_some at

  pub gave_up : (now : World) (id : CallId) → now ≡ with_taken s p t (leader_of l) (given_up (leads l.lead) id) None → now ≡ after ids parts s (event.GiveUp p t id)
  gave_up now id is = happens ids parts s (event.GiveUp p t id) now (and_from _ _ part led) (is ∙ ap (λ o. where_some s o (λ l. with_taken s p t l (given_up l.lead id) None)) (sym at))

  pub pulsed_on : (now : World) → now ≡ with_posts s (posts_of p t None (pulsed (leads l.lead))) → now ≡ after ids parts s (event.Pulse p t)
  pulsed_on now is = happens ids parts s (event.Pulse p t) now (and_from _ _ part led) (is ∙ ap (λ o. where_some s o (λ l. with_posts s (posts_of p t None (pulsed l.lead)))) (sym at))

  pub took_packet : (now : World) (k : ℕ) (post : ChainPost) → slice_get c.posts k ≡ Some post → is_to p t post.packet.to ≡ true → now ≡ taking ids parts s p t (leader_of l) post.packet → now ≡ after ids parts s (event.Take p t k)
  took_packet now k post is to left =
      let here : slice_get (posted c.posts) k ≡ Some (post_in post) = post_at c k ∙ ap (option_map post_in) is in
      happens ids parts s (event.Take p t k) now (and_from _ _ part (and_from _ _ led (ap (holds_of (λ post. is_to p t post.packet.to)) here ∙ to)))
      (left ∙ sym (ap (λ o. where_some s o (λ l. where_some s (slice_get s.posts k) (λ post. taking ids parts s p t l post.packet))) at ∙ ap (λ o. where_some s o (λ post. taking ids parts s p t (leader_of l) post.packet)) here))

  pub applied_next : (now : World) (d : ℕ × Proposal) → slice_get (list_in c.decided p) l.applied ≡ Some d → nat_le d.0 t ≡ true → now ≡ applying parts s p t (leader_of l) d → now ≡ after ids parts s (event.Apply p t)
  applied_next now d is below left =
      happens ids parts s (event.Apply p t) now
      (and_from _ _ part (ap (holds_of (λ l. holds_of (λ (d : ℕ × Proposal). nat_le d.0 t) (next_entry s p l))) at ∙ ap (holds_of (λ (d : ℕ × Proposal). nat_le d.0 t)) is ∙ below))
      (left ∙ sym (ap (λ o. where_some s o (λ l. where_some s (next_entry s p l) (λ d. applying parts s p t l d))) at ∙ ap (λ o. where_some s o (λ d. applying parts s p t (leader_of l) d)) is))

  pub saw : (now : World) (id : CallId) (query : Query) → l.lead.ready ≡ true → l.applied ≡ length (list_in c.decided p) → first_asked p id (posted c.posts) ≡ Some query → now ≡ with_posts s (shown_by parts s p t (leader_of l) id query ∷ []) → now ≡ after ids parts s (event.See p t id)
  saw now id query ready all is left =
      happens ids parts s (event.See p t id) now
      (and_from _ _ part (and_from _ _ (ap (holds_of (λ l. knows_all s p l)) at ∙ and_from _ _ ready (eq-eqb l.applied (length (list_in c.decided p)) all)) (ap is_some is)))
      (left ∙ sym (ap (λ o. where_some s o (λ l. where_some s (first_asked p id s.posts) (λ query. with_posts s (shown_by parts s p t l id query ∷ [])))) at ∙ ap (λ o. where_some s o (λ query. with_posts s (shown_by parts s p t (leader_of l) id query ∷ []))) is))

  pub proposed_on : (now : World) (config : Config) → (t == 0) ≡ false → now ≡ with_leader s p t (with_made (leader_of l) (Members config ∷ [])) → now ≡ after ids parts s (event.Members p t config)
  proposed_on now config above left =
      happens ids parts s (event.Members p t config) now (and_from _ _ part (cond-false (t == 0) (is_unfounded s p) (is_led s p t) above ∙ led))
      (left ∙ sym (cond-false (t == 0) (with_founded s p (Members config ∷ [])) (where_some s (s.leaders p t) (λ l. with_leader s p t (with_made l (Members config ∷ [])))) above
      ∙ ap (λ o. where_some s o (λ l. with_leader s p t (with_made l (Members config ∷ [])))) at))

module _ (ids : VidKind) (parts : ℕ) (s : World) (p t : ℕ) (part : is_part parts p ≡ true) where
  pub decided_next : (now : World) (n : ℕ) (x : Proposal) → may_decide s p t n ≡ true → slice_get (made_by s p t) n ≡ Some x → now ≡ with_decided parts s p t x → now ≡ after ids parts s (event.Decide p t n)
  decided_next now n x may is left =
      happens ids parts s (event.Decide p t n) now (and_from _ _ part (and_from _ _ may (ap is_some is))) (left ∙ sym (ap (λ o. where_some s o (λ x. with_decided parts s p t x)) is))

  pub founded_on : (now : World) (config : Config) → t ≡ 0 → is_unfounded s p ≡ true → now ≡ with_founded s p (Members config ∷ []) → now ≡ after ids parts s (event.Members p t config)
  founded_on now config first unfounded left =
      let is : (t == 0) ≡ true = eq-eqb t 0 first in
      happens ids parts s (event.Members p t config) now (and_from _ _ part (cond-true (t == 0) (is_unfounded s p) (is_led s p t) is ∙ unfounded))
      (left ∙ sym (cond-true (t == 0) (with_founded s p (Members config ∷ [])) (where_some s (s.leaders p t) (λ l. with_leader s p t (with_made l (Members config ∷ [])))) is))
