-- A call, from its invocation to its reply.
use Rattle.std.proofs.Common.{◌≡◌, ℕ, ◌+◌, ◌<◌, length, List, [], ◌∷◌, ◌++◌, Option, Some, None, true, refl, ap, sym, subst, ◌∙◌, arith}
use Rattle.std.specs.Prelude.{IsSome, slice_get}
use Rattle.first_graph.specs.declared.answer.Answer.{Answer}
use Rattle.first_graph.specs.declared.call_id.CallId.{CallId}
use Rattle.first_graph.specs.declared.op.Op.{Op}
use Rattle.first_part.specs.declared.entry.PartEntry.{PartEntry}
use Rattle.nebstore_app.specs.declared.event.Event.{Event}
use Rattle.nebstore_app.specs.declared.event.Event.TheVariants.{Invoke, Deliver, Reply}
use Rattle.nebstore_app.specs.declared.packet.Packet.{Packet}
use Rattle.nebstore_app.specs.Packets.{the_client, request_of, entry_in}
use Rattle.nebstore_app.specs.World.{World, start, after, done, delivered, received, invoked, next_call, last_call, answer_due, Lawful, Run, IsReached}
use Rattle.nebstore_app.specs.Calls.{calls_of, replies_of, IsQuiet, HasCalled, HasStopped}
use Rattle.nebstore_app.proofs.Counted.{delivered-last}

run-append : (u : World) (events : List Event) (w : World) (e : Event) → Run u events w → Lawful w e → Run u (events ++ e ∷ []) (after w e)
run-append u [] w e r h = (subst (λ x. Lawful x e) r h, ap (λ x. after x e) r)
run-append u (x ∷ events) w e r h = (r.0, run-append (after u x) events w e r.1 h)

received-events : (w : World) (k : ℕ) (p : Packet) (x : Option (ℕ × PartEntry)) → (received w k p x).events ≡ w.events
received-events w k p None = refl
received-events w k p (Some x) = refl

received-calling : (w : World) (k : ℕ) (p : Packet) (x : Option (ℕ × PartEntry)) → (received w k p x).calling ≡ w.calling
received-calling w k p None = refl
received-calling w k p (Some x) = refl

delivered-events : (w : World) (p : Option Packet) → (delivered w p).events ≡ w.events
delivered-events w None = refl
delivered-events w (Some p) = received-events _ (length w.passed) p (entry_in p)

delivered-calling : (w : World) (p : Option Packet) → (delivered w p).calling ≡ w.calling
delivered-calling w None = refl
delivered-calling w (Some p) = received-calling _ (length w.passed) p (entry_in p)

invoked-events : (w : World) (id : CallId) (p : Option Packet) → (invoked w id p).events ≡ w.events
invoked-events w id None = refl
invoked-events w id (Some p) = refl

done-events : (w : World) (e : Event) → (done w e).events ≡ w.events
done-events w (Invoke id op) = invoked-events w id (request_of id op)
done-events w (Deliver k) = delivered-events w (slice_get w.waiting 0)
done-events w (Reply id a) = refl

-- an event is noted
after-events : (w : World) (e : Event) → (after w e).events ≡ w.events ++ e ∷ []
after-events w e = ap (λ events. events ++ e ∷ []) (done-events w e)

pub reached_more : (w : World) (e : Event) → IsReached w → Lawful w e → IsReached (after w e)
reached_more w e r h = subst (λ events. Run start events (after w e)) (sym (after-events w e)) (run-append start w.events w e r h)

calls-append : (xs ys : List Event) → calls_of (xs ++ ys) ≡ calls_of xs ++ calls_of ys
calls-append [] ys = refl
calls-append (Invoke id op ∷ xs) ys = ap (λ cs. (id, op) ∷ cs) (calls-append xs ys)
calls-append (Deliver k ∷ xs) ys = calls-append xs ys
calls-append (Reply id a ∷ xs) ys = calls-append xs ys

replies-append : (xs ys : List Event) → replies_of (xs ++ ys) ≡ replies_of xs ++ replies_of ys
replies-append [] ys = refl
replies-append (Invoke id op ∷ xs) ys = replies-append xs ys
replies-append (Deliver k ∷ xs) ys = replies-append xs ys
replies-append (Reply id a ∷ xs) ys = ap (λ cs. (id, a) ∷ cs) (replies-append xs ys)

none_more : {A : Type 0} (xs : List A) → xs ++ [] ≡ xs
none_more [] = refl
none_more (x ∷ xs) = ap (λ ys. x ∷ ys) (none_more xs)

calls_after : (w : World) (e : Event) → calls_of (after w e).events ≡ calls_of w.events ++ calls_of (e ∷ [])
calls_after w e = ap calls_of (after-events w e) ∙ calls-append w.events (e ∷ [])

replies_after : (w : World) (e : Event) → replies_of (after w e).events ≡ replies_of w.events ++ replies_of (e ∷ [])
replies_after w e = ap replies_of (after-events w e) ∙ replies-append w.events (e ∷ [])

-- the call is made, and isn't answered yet
pub record IsMade (w v : World) (op : Op) : Type 0 where
  pub reached : IsReached v
  pub calling : v.calling ≡ true
  pub last : v.last ≡ w.last + 1
  pub calls : calls_of v.events ≡ calls_of w.events ++ (next_call w, op) ∷ []
  pub replies : replies_of v.events ≡ replies_of w.events

calling_made : (w : World) (id : CallId) (p : Option Packet) → IsSome p → (invoked w id p).calling ≡ true
calling_made w id None h = cc
calling_made w id (Some p) h = refl

last_made : (w : World) (id : CallId) (p : Option Packet) → IsSome p → (invoked w id p).last ≡ id.number
last_made w id None h = cc
last_made w id (Some p) h = refl

pub made : (w : World) (op : Op) → IsQuiet w → IsSome (request_of (next_call w) op) → IsMade w (after w (Invoke (next_call w) op)) op
made w op q served = record {
  reached = reached_more w (Invoke (next_call w) op) q.reached (q.resting, refl, served);
  calling = calling_made w (next_call w) (request_of (next_call w) op) served;
  last = last_made w (next_call w) (request_of (next_call w) op) served;
  calls = calls_after w (Invoke (next_call w) op);
  replies = replies_after w (Invoke (next_call w) op) ∙ none_more (replies_of w.events);
}

pub still_made : (w v : World) (op : Op) → IsMade w v op → 0 < length v.waiting → IsMade w (after v (Deliver (length v.passed))) op
still_made w v op m busy = record {
  reached = reached_more v (Deliver (length v.passed)) m.reached (refl, busy);
  calling = delivered-calling v (slice_get v.waiting 0) ∙ m.calling;
  last = delivered-last v (slice_get v.waiting 0) ∙ m.last;
  calls = calls_after v (Deliver (length v.passed)) ∙ none_more (calls_of v.events) ∙ m.calls;
  replies = replies_after v (Deliver (length v.passed)) ∙ none_more (replies_of v.events) ∙ m.replies;
}

pub has_called : (w v : World) (op : Op) (a : Answer) → IsMade w v op → v.waiting ≡ [] → answer_due v ≡ Some a → HasCalled w (after v (Reply (last_call v) a)) op a
has_called w v op a m nobody due = record {
  quiet = record { reached = reached_more v (Reply (last_call v) a) m.reached (due, refl); resting = refl; nobody = nobody };
  last = m.last;
  calls = calls_after v (Reply (last_call v) a) ∙ none_more (calls_of v.events) ∙ m.calls;
  replies = replies_after v (Reply (last_call v) a) ∙ (ap (λ rs. rs ++ (last_call v, a) ∷ []) m.replies ∙ ap (λ n. replies_of w.events ++ (record { client = the_client; number = n }, a) ∷ []) m.last);
}

pub stopped_made : (w v : World) (op : Op) → IsMade w v op → HasStopped w v op
stopped_made w v op m = record { reached = m.reached; made = 1; calls = m.calls; replies = m.replies }

pub stopped_quiet : (w : World) (op : Op) → IsQuiet w → HasStopped w w op
stopped_quiet w op q = record { reached = q.reached; made = 0; calls = sym (none_more (calls_of w.events)); replies = refl }

pub nobody_left : (w : World) → ¬ (0 < length w.waiting) → w.waiting ≡ []
nobody_left w none = empty_of w.waiting none
  where
    empty_of : (ps : List Packet) → ¬ (0 < length ps) → ps ≡ []
    empty_of [] h = refl
    empty_of (p ∷ ps) h = absurd (h (omega arith))
