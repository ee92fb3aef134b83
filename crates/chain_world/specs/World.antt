-- What may happen next in a world of parts, as a table: a row an event, with where it is lawful and its effect. An event
-- that isn't lawful changes nothing; what an effect doesn't name stays. `specs/Events` has the words of each row.
use Rattle.std.specs.Prelude.{ℕ, ◌==◌, nat_le, List, [], ◌∷◌, None, Bool, ◌&&◌, ◌||◌, if◌then◌else◌, slice_get, is_some}
use Rattle.graph_model.specs.Same.{is_unknown}
use Rattle.part_keys.specs.declared.proposal.Proposal.TheVariants.{Members}
use Rattle.part_keys.specs.declared.vid_kind.VidKind.{VidKind}
use Rattle.chain_leader.specs.Leading.{given_up, pulsed}
use Rattle.chain_world.specs.declared.event.ChainEvent.{ChainEvent}
use Rattle.chain_world.specs.declared.event.ChainEvent.TheVariants as event
use Rattle.chain_world.specs.State.{Chains, start, made_by, with_leader, with_founded, with_posts, posts_of}
pub use Rattle.chain_world.specs.Events.{most_clients, is_part, is_client, holds_of, where_some, is_led, is_whole, may_invoke, request_of, with_invoke, is_unfounded, with_made, are_below, may_lead, new_leader, is_to, part_from, kept_sender, sender_of, behind_taking, with_taken, taking, are_at_most, may_decide, with_decided, next_entry, own_sender, with_applied, applying, query_in, asked_in, is_at, asked_by, first_asked, knows_all, shown_by, is_call, is_open_at, is_for, answers, brings, moment_of, with_reply}

-- a row of the table: where the event is lawful, and its effect
pub record Rule : Type 0 where
  pub lawful : Bool
  pub effect : Chains

-- the table
abbrev pub rule : VidKind → ℕ → Chains → ChainEvent → Rule
-- a client that has no open call makes its next one, and its Request is sent
rule ids parts s (event.Invoke id op) = record {
  lawful = is_client id.client && may_invoke ids parts (s.clients id.client) id op;
  effect = with_invoke parts s id op;
}
-- a leader's next proposal is a configuration; at term 0, which has no leader, it is the first one, and the only proposal
rule ids parts s (event.Members p t config) = record {
  lawful = is_part parts p && (if t == 0 then is_unfounded s p else is_led s p t);
  effect = if t == 0 then with_founded s p (Members config ∷ []) else where_some s (s.leaders p t) (λ l. with_leader s p t (with_made l (Members config ∷ [])));
}
-- a part gets a leader of a new term, beside those that it has
rule ids parts s (event.Lead p t policy a) = record {
  lawful = is_part parts p && may_lead s p t a;
  effect = with_leader s p t (new_leader policy a);
}
-- a leader takes a packet that was sent to its part or to it
rule ids parts s (event.Take p t k) = record {
  lawful = is_part parts p && (is_led s p t && holds_of (λ post. is_to p t post.packet.to) (slice_get s.posts k));
  effect = where_some s (s.leaders p t) (λ l. where_some s (slice_get s.posts k) (λ post. taking ids parts s p t l post.packet));
}
-- the next proposal of a term is decided, where no decided one's is greater
rule ids parts s (event.Decide p t n) = record {
  lawful = is_part parts p && (may_decide s p t n && is_some (slice_get (made_by s p t) n));
  effect = where_some s (slice_get (made_by s p t) n) (λ x. with_decided parts s p t x);
}
-- a leader applies the next decided entry, where its term isn't above the leader's
rule ids parts s (event.Apply p t) = record {
  lawful = is_part parts p && holds_of (λ l. holds_of (λ e. nat_le e.0 t) (next_entry s p l)) (s.leaders p t);
  effect = where_some s (s.leaders p t) (λ l. where_some s (next_entry s p l) (λ e. applying parts s p t l e));
}
-- a leader is told that a call's client waits no longer
rule ids parts s (event.GiveUp p t id) = record {
  lawful = is_part parts p && is_led s p t;
  effect = where_some s (s.leaders p t) (λ l. with_taken s p t l (given_up l.lead id) None);
}
-- a leader is told to take up its chains again
rule ids parts s (event.Pulse p t) = record {
  lawful = is_part parts p && is_led s p t;
  effect = where_some s (s.leaders p t) (λ l. with_posts s (posts_of p t None (pulsed l.lead)));
}
-- a leader that is ready and has applied all that is decided answers a read
rule ids parts s (event.See p t id) = record {
  lawful = is_part parts p && (holds_of (λ l. knows_all s p l) (s.leaders p t) && is_some (first_asked p id s.posts));
  effect = where_some s (s.leaders p t) (λ l. where_some s (first_asked p id s.posts) (λ query. with_posts s (shown_by parts s p t l id query ∷ [])));
}
-- an open call ends with the answer that a packet brings it, or with none
rule ids parts s (event.Reply id a k) = record {
  lawful = is_client id.client && (is_open_at s id && (is_unknown a || holds_of (λ post. brings id a post) (slice_get s.posts k)));
  effect = with_reply s id a (moment_of (slice_get s.posts k));
}

-- the world behind an event
abbrev pub after : VidKind → ℕ → Chains → ChainEvent → Chains
after ids parts s e = if (rule ids parts s e).lawful then (rule ids parts s e).effect else s

abbrev pub run_from : VidKind → ℕ → Chains → List ChainEvent → Chains
run_from ids parts s [] = s
run_from ids parts s (e ∷ events) = run_from ids parts (after ids parts s e) events

-- the world behind these events
abbrev pub run : VidKind → ℕ → List ChainEvent → Chains
run ids parts events = run_from ids parts start events
