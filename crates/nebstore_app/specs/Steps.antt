-- The graph steps of a journal.
use Rattle.std.specs.Prelude.{◌≡◌, ℕ, ◌+◌, ◌-◌, List, [], ◌∷◌, ◌++◌, length, replicate, slice_index, slice_get, Option, None, Some, if◌then◌else◌}
use Rattle.first_graph.specs.declared.call_id.CallId.{CallId}
use Rattle.first_graph.specs.declared.answer.Answer.{Answer}
use Rattle.first_graph.specs.declared.answer.Answer.TheVariants.{Fine, Skipped as SkippedAnswer, Pending, Conflict as ConflictAnswer, Cancelled, Unknown, Shown as ShownAnswer}
use Rattle.first_graph.specs.declared.graph_step.GStep.{GStep}
use Rattle.first_graph.specs.declared.graph_step.GStep.TheVariants as step
use Rattle.first_graph.specs.Machine.{Machine, start as nothing_yet}
use Rattle.first_graph.specs.Run.{Run as GraphRun, trace}
use Rattle.first_part.specs.declared.entry.PartEntry.{PartEntry}
use Rattle.first_part.specs.declared.entry.PartEntry.TheVariants.{Prime, Local, Double, Close, Abort, Remote, Fence, Vertex, Read}
use Rattle.first_part.specs.declared.applied.Applied.{Applied}
use Rattle.first_part.specs.declared.applied.Applied.TheVariants.{Conflict, Skipped, Begun, Settled}
use Rattle.first_part.specs.Part.{Part, is_fresh}
use Rattle.nebstore_app.specs.declared.due.Due.{Due}
use Rattle.nebstore_app.specs.declared.event.Event.{Event}
use Rattle.nebstore_app.specs.declared.event.Event.TheVariants.{Invoke, Deliver, Reply}
use Rattle.nebstore_app.specs.declared.packet.Packet.{Packet}
use Rattle.nebstore_app.specs.Replica.{answer_to}
use Rattle.nebstore_app.specs.Packets.{entry_in}
use Rattle.nebstore_app.specs.World.{World, start, replica_of, after}

-- the graph steps of an entry that is decided now, by its answer: a Prime begins its chain, is skipped or refused;
-- a Remote that writes gives the in-half; a Local that settles gives the out-half and the end of the chain
abbrev pub steps_of_entry : Part → PartEntry → Applied → List GStep
steps_of_entry p (Prime id e half absent) (Begun v) = step.Begin id ∷ []
steps_of_entry p (Prime id e half absent) Skipped = step.Skip id ∷ []
steps_of_entry p (Prime id e half absent) (Conflict other) = step.Refuse id ∷ []
steps_of_entry p (Prime id e half absent) _ = []
steps_of_entry p (Remote i term e v half) answer = if is_fresh p e v then step.InHalf e ∷ [] else []
steps_of_entry p (Local e v) (Settled id) = step.OutHalf e ∷ step.Settle e ∷ []
steps_of_entry p (Local e v) _ = []
steps_of_entry p (Read id query) answer = []
steps_of_entry p (Double e v) answer = []
steps_of_entry p (Close e v) answer = []
steps_of_entry p (Abort e v) answer = []
steps_of_entry p (Fence i term e v) answer = []
steps_of_entry p (Vertex id change) answer = []

abbrev pub steps_at : World → Option (ℕ × PartEntry) → List GStep
steps_at w None = []
steps_at w (Some x) = let r = replica_of w x.0 in steps_of_entry r.machine x.1 (answer_to r x.1)

-- the graph steps of the first packet under way
abbrev pub steps_of_delivery : World → Option Packet → List GStep
steps_of_delivery w None = []
steps_of_delivery w (Some p) = steps_at w (entry_in p)

-- the moment of each packet: how many graph steps were given before the event that sent it. `given` counts them all
pub record Tally : Type 0 where
  pub moments : List ℕ
  pub given : ℕ

abbrev pub at_start : Tally
at_start = record { moments = []; given = 0 }

-- the moment of the packet that ended the call
abbrev pub moment_of : Tally → Option Due → ℕ
moment_of t None = 0
moment_of t (Some d) = slice_index t.moments d.packet

-- a read that was answered is the read at that moment and then the reply; any other reply is the reply alone
abbrev pub steps_of_reply : ℕ → CallId → Answer → List GStep
steps_of_reply m id (ShownAnswer view) = step.Read id m ∷ step.Reply id (ShownAnswer view) ∷ []
steps_of_reply m id Fine = step.Reply id Fine ∷ []
steps_of_reply m id SkippedAnswer = step.Reply id SkippedAnswer ∷ []
steps_of_reply m id Pending = step.Reply id Pending ∷ []
steps_of_reply m id (ConflictAnswer other) = step.Reply id (ConflictAnswer other) ∷ []
steps_of_reply m id Cancelled = step.Reply id Cancelled ∷ []
steps_of_reply m id Unknown = step.Reply id Unknown ∷ []

-- the graph steps of an event
abbrev pub steps_of_event : World → Tally → Event → List GStep
steps_of_event w t (Invoke id op) = step.Invoke id op ∷ []
steps_of_event w t (Deliver k) = steps_of_delivery w (slice_get w.waiting 0)
steps_of_event w t (Reply id a) = steps_of_reply (moment_of t w.due) id a

-- how many packets were sent so far
abbrev pub sent_so_far : World → ℕ
sent_so_far w = length w.passed + length w.waiting

-- the packets of an event have the moment before it
abbrev pub tallied : World → Tally → Event → Tally
tallied w t e =
    record {
      moments = t.moments ++ replicate (sent_so_far (after w e) - sent_so_far w) t.given;
      given = t.given + length (steps_of_event w t e);
    }

-- the graph steps of events, from a world on
abbrev pub steps_from : World → Tally → List Event → List GStep
steps_from w t [] = []
steps_from w t (e ∷ events) = steps_of_event w t e ++ steps_from (after w e) (tallied w t e) events

-- the graph steps of events, from the start of the world
abbrev pub steps_of : List Event → List GStep
steps_of events = steps_from start at_start events

-- the invokes and replies among events, as graph steps
abbrev pub trace_of : List Event → List GStep
trace_of [] = []
trace_of (Invoke id op ∷ events) = step.Invoke id op ∷ trace_of events
trace_of (Deliver k ∷ events) = trace_of events
trace_of (Reply id a ∷ events) = step.Reply id a ∷ trace_of events

-- the graph steps of events are a run of the graph machine, and its trace is the events' invokes and replies
abbrev pub IsGraphRun : List Event → Type 0
IsGraphRun events = (g : Machine) × GraphRun nothing_yet (steps_of events) g × (trace (steps_of events) ≡ trace_of events)
