-- The trace of the graph steps of events.
use Rattle.std.proofs.Common.{◌≡◌, ℕ, List, [], ◌∷◌, ◌++◌, Option, Some, None, Bool, true, false, refl, ap, ◌∙◌}
use Rattle.std.specs.Prelude.{if◌then◌else◌, slice_get}
use Rattle.first_graph.specs.Run.{trace}
use Rattle.first_graph.specs.declared.answer.Answer.{Answer}
use Rattle.first_graph.specs.declared.answer.Answer.TheVariants.{Fine, Skipped, Pending, Conflict, Cancelled, Unknown, Shown}
use Rattle.first_graph.specs.declared.call_id.CallId.{CallId}
use Rattle.first_graph.specs.declared.edge_id.EdgeId.{EdgeId}
use Rattle.first_graph.specs.declared.graph_step.GStep.{GStep}
use Rattle.first_graph.specs.declared.graph_step.GStep.TheVariants.{Invoke as GInvoke, Begin, Skip, Refuse, InHalf, OutHalf, Settle, Cancel, Vertex, Read as GRead, Reply as GReply}
use Rattle.first_part.specs.Part.{Part, is_fresh}
use Rattle.first_part.specs.declared.entry.PartEntry.{PartEntry}
use Rattle.first_part.specs.declared.entry.PartEntry.TheVariants.{Prime, Local, Double, Close, Abort, Remote, Fence, Vertex as VertexEntry, Read}
use Rattle.first_part.specs.declared.applied.Applied.{Applied}
use Rattle.first_part.specs.declared.applied.Applied.TheVariants.{Old, Again, Conflict as ConflictThen, Skipped as SkippedThen, Begun, Settled, Done, Shown as ShownThen, Nothing}
use Rattle.nebstore_app.specs.declared.packet.Packet.{Packet}
use Rattle.nebstore_app.specs.declared.event.Event.{Event}
use Rattle.nebstore_app.specs.declared.event.Event.TheVariants.{Invoke, Deliver, Reply}
use Rattle.nebstore_app.specs.Replica.{answer_to}
use Rattle.nebstore_app.specs.Packets.{entry_in}
use Rattle.nebstore_app.specs.World.{World, replica_of, after}
use Rattle.nebstore_app.specs.Steps.{Tally, steps_of_entry, steps_at, steps_of_delivery, steps_of_reply, steps_from, tallied, trace_of, moment_of}

pub trace-append : (xs ys : List GStep) → trace (xs ++ ys) ≡ trace xs ++ trace ys
trace-append [] ys = refl
trace-append (GInvoke id op ∷ xs) ys = ap (λ s. GInvoke id op ∷ s) (trace-append xs ys)
trace-append (Begin id ∷ xs) ys = trace-append xs ys
trace-append (Skip id ∷ xs) ys = trace-append xs ys
trace-append (Refuse id ∷ xs) ys = trace-append xs ys
trace-append (InHalf e ∷ xs) ys = trace-append xs ys
trace-append (OutHalf e ∷ xs) ys = trace-append xs ys
trace-append (Settle e ∷ xs) ys = trace-append xs ys
trace-append (Cancel e ∷ xs) ys = trace-append xs ys
trace-append (Vertex id ∷ xs) ys = trace-append xs ys
trace-append (GRead id m ∷ xs) ys = trace-append xs ys
trace-append (GReply id a ∷ xs) ys = ap (λ s. GReply id a ∷ s) (trace-append xs ys)

fresh_silent : (b : Bool) (e : EdgeId) → trace (if b then InHalf e ∷ [] else []) ≡ []
fresh_silent true e = refl
fresh_silent false e = refl

prime_silent : (p : Part) (entry : PartEntry) (a : Applied) → trace (steps_of_entry p entry a) ≡ []
prime_silent p (Prime id e half absent) Old = refl
prime_silent p (Prime id e half absent) (Again outcome) = refl
prime_silent p (Prime id e half absent) (ConflictThen other) = refl
prime_silent p (Prime id e half absent) SkippedThen = refl
prime_silent p (Prime id e half absent) (Begun v) = refl
prime_silent p (Prime id e half absent) (Settled other) = refl
prime_silent p (Prime id e half absent) Done = refl
prime_silent p (Prime id e half absent) (ShownThen other view) = refl
prime_silent p (Prime id e half absent) Nothing = refl
prime_silent p (Local e v) Old = refl
prime_silent p (Local e v) (Again outcome) = refl
prime_silent p (Local e v) (ConflictThen other) = refl
prime_silent p (Local e v) SkippedThen = refl
prime_silent p (Local e v) (Begun n) = refl
prime_silent p (Local e v) (Settled other) = refl
prime_silent p (Local e v) Done = refl
prime_silent p (Local e v) (ShownThen other view) = refl
prime_silent p (Local e v) Nothing = refl
prime_silent p (Remote i term e v half) a = fresh_silent (is_fresh p e v) e
prime_silent p (Read id query) a = refl
prime_silent p (Double e v) a = refl
prime_silent p (Close e v) a = refl
prime_silent p (Abort e v) a = refl
prime_silent p (Fence i term e v) a = refl
prime_silent p (VertexEntry id change) a = refl

entry_silent : (w : World) (x : Option (ℕ × PartEntry)) → trace (steps_at w x) ≡ []
entry_silent w None = refl
entry_silent w (Some x) = prime_silent (replica_of w x.0).machine x.1 (answer_to (replica_of w x.0) x.1)

delivery_silent : (w : World) (p : Option Packet) → trace (steps_of_delivery w p) ≡ []
delivery_silent w None = refl
delivery_silent w (Some p) = entry_silent w (entry_in p)

reply_told : (m : ℕ) (id : CallId) (a : Answer) → trace (steps_of_reply m id a) ≡ GReply id a ∷ []
reply_told m id Fine = refl
reply_told m id Skipped = refl
reply_told m id Pending = refl
reply_told m id (Conflict other) = refl
reply_told m id Cancelled = refl
reply_told m id Unknown = refl
reply_told m id (Shown view) = refl

-- the trace is the invokes and replies of the events
pub same_trace : (w : World) (t : Tally) (events : List Event) → trace (steps_from w t events) ≡ trace_of events
same_trace w t [] = refl
same_trace w t (Invoke id op ∷ events) = ap (λ s. GInvoke id op ∷ s) (same_trace (after w (Invoke id op)) (tallied w t (Invoke id op)) events)
same_trace w t (Deliver k ∷ events) =
    trace-append (steps_of_delivery w (slice_get w.waiting 0)) (steps_from (after w (Deliver k)) (tallied w t (Deliver k)) events)
    ∙ (ap (λ s. s ++ trace (steps_from (after w (Deliver k)) (tallied w t (Deliver k)) events)) (delivery_silent w (slice_get w.waiting 0))
    ∙ same_trace (after w (Deliver k)) (tallied w t (Deliver k)) events)
same_trace w t (Reply id a ∷ events) =
    trace-append (steps_of_reply (moment_of t w.due) id a) (steps_from (after w (Reply id a)) (tallied w t (Reply id a)) events)
    ∙ (ap (λ s. s ++ trace (steps_from (after w (Reply id a)) (tallied w t (Reply id a)) events)) (reply_told (moment_of t w.due) id a)
    ∙ ap (λ s. GReply id a ∷ s) (same_trace (after w (Reply id a)) (tallied w t (Reply id a)) events))
