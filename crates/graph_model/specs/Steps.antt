-- The steps of the graph machine, as a table: a row a step. Its conditions are tested from left to right, and the
-- first that fails is the misfit; its effect says what changes. What an effect doesn't name stays.
use Rattle.std.specs.Prelude.{◌+◌, Bool, false, not, ◌&&◌, if◌then◌else◌, List, [], ◌∷◌, ◌++◌, Option, None, Some, Result, Ok, Err}
use Rattle.std.specs.FinMap.{get, insert, remove, contains_key}
use Rattle.graph_model.specs.declared.call_id.CallId.{CallId}
use Rattle.graph_model.specs.declared.edge_id.EdgeId.{EdgeId}
use Rattle.graph_model.specs.declared.half.Half.{Half}
use Rattle.graph_model.specs.declared.op.Op.{Op}
use Rattle.graph_model.specs.declared.op.Op.TheVariants.{PutVertex, DelVertex}
use Rattle.graph_model.specs.declared.answer.Answer.{Answer}
use Rattle.graph_model.specs.declared.answer.Answer.TheVariants.{Fine, Skipped, Conflict, Cancelled, Shown}
use Rattle.graph_model.specs.declared.call.CallState.{CallState}
use Rattle.graph_model.specs.declared.call.CallState.TheVariants.{Open, Begun, Done}
use Rattle.graph_model.specs.declared.call.Call.{Call}
use Rattle.graph_model.specs.declared.graph_step.GStep.{GStep}
use Rattle.graph_model.specs.declared.graph_step.GStep.TheVariants.{Invoke, Begin, Skip, Refuse, InHalf, OutHalf, Settle, Cancel, Vertex, Read, Reply}
use Rattle.graph_model.specs.declared.misfit.Misfit.{Misfit}
use Rattle.graph_model.specs.declared.misfit.Misfit.TheVariants.{KnownId, NotOpen, WrongKind, EdgePending, NotPending, RowThere, NoRow, HalfDone, HalfMissing, BadMoment, WrongAnswer}
use Rattle.graph_model.specs.Contents.{out_written, in_written, tag_written, tags_removed}
use Rattle.graph_model.specs.Ops.{is_edge_op, is_careful, is_vertex_op}
use Rattle.graph_model.specs.State.{GraphState, now, with_state, with_shown, with_said, with_in_done, with_out_done}
use Rattle.graph_model.specs.Lookups.{is_open, does, is_free, all_here, takes, is_met, met_by, is_under_way, list, in_done, out_done, asks, is_within, view, is_unsaid, may_say}
use Rattle.maps.specs.Maps.{altered}

-- effects that several rows have

-- the call is in this state
abbrev pub moved : GraphState → CallId → CallState → GraphState
moved g id state = record g { calls = altered g.calls id (with_state state) }

-- a chain of the call is under way on these edges, with none of its halves written
abbrev pub chained : GraphState → CallId → List (EdgeId × Half) → GraphState
chained g id list = record (moved g id Begun) { pend = insert g.pend id (record { list = list; in_done = false; out_done = false }) }

-- the call's chain is no longer under way, and the call has this answer
abbrev pub unchained : GraphState → CallId → Answer → GraphState
unchained g id a = record g { pend = remove g.pend id; calls = altered g.calls id (with_state (Done a)) }

-- PutVertex with IF NOT EXISTS over a present row is skipped; else the tag is written, or all tags are removed
abbrev pub vertex_written : GraphState → CallId → Op → GraphState
vertex_written g id (PutVertex v t row absent) =
    if absent && contains_key g.contents.verts (record { vid = v; tag = t })
    then moved g id (Done Skipped)
    else record (moved g id (Done Fine)) { contents = tag_written g.contents v t row }
vertex_written g id (DelVertex v) = record (moved g id (Done Fine)) { contents = tags_removed g.contents v }
vertex_written g id others = g

abbrev pub vertex_of_call : GraphState → CallId → Option Call → GraphState
vertex_of_call g id None = g
vertex_of_call g id (Some call) = vertex_written g id call.op

-- a row of the table: the conditions, each with its misfit, and the effect
pub record Rule : Type 0 where
  pub conditions : List (Bool × Misfit)
  pub effect : GraphState

-- the table
abbrev pub rule : GraphState → GStep → Rule
-- a client makes a call whose id is new
rule g (Invoke id op) = record {
  conditions = (not (contains_key g.calls id), KnownId) ∷ [];
  effect = record g { calls = insert g.calls id (record { op = op; moment = now g + 1; state = Open; shown = false; said = false }) };
}
-- the chain of an open call on edges begins, on the edges that it takes; with IF NOT EXISTS one of them must be missing
rule g (Begin id) = record {
  conditions = (is_open g id, NotOpen) ∷ (does g id is_edge_op, WrongKind) ∷ (is_free g id, EdgePending) ∷ (not (does g id is_careful && all_here g id), RowThere) ∷ [];
  effect = chained g id (takes g id);
}
-- with IF NOT EXISTS, where all of its edges are there, a call is done and leaves them
rule g (Skip id) = record {
  conditions = (is_open g id, NotOpen) ∷ (does g id is_careful, WrongKind) ∷ (is_free g id, EdgePending) ∷ (all_here g id, NoRow) ∷ [];
  effect = moved g id (Done Skipped);
}
-- a call that meets another call's chain on one of its edges is done, and told the first that it meets
rule g (Refuse id) = record {
  conditions = (is_open g id, NotOpen) ∷ (does g id is_edge_op, WrongKind) ∷ (is_met g id, NotPending) ∷ [];
  effect = moved g id (Done (Conflict (met_by g id)));
}
-- a chain writes its in-halves, all at once
rule g (InHalf id) = record {
  conditions = (is_under_way g id, NotPending) ∷ (not (in_done g id), HalfDone) ∷ [];
  effect = record g { contents = in_written g.contents (list g id); pend = altered g.pend id with_in_done };
}
-- a chain writes its out-halves, all at once; its call is shown
rule g (OutHalf id) = record {
  conditions = (is_under_way g id, NotPending) ∷ (not (out_done g id), HalfDone) ∷ [];
  effect = record g { contents = out_written g.contents (list g id); pend = altered g.pend id with_out_done; calls = altered g.calls id with_shown };
}
-- a chain with all of its halves written ends, and its call is done
rule g (Settle id) = record {
  conditions = (is_under_way g id, NotPending) ∷ (in_done g id && out_done g id, HalfMissing) ∷ [];
  effect = unchained g id Fine;
}
-- a chain with none of its halves written ends, and its call is done in vain
rule g (Cancel id) = record {
  conditions = (is_under_way g id, NotPending) ∷ (not (in_done g id) && not (out_done g id), HalfDone) ∷ [];
  effect = unchained g id Cancelled;
}
-- a call on a vertex is done at once
rule g (Vertex id) = record {
  conditions = (is_open g id, NotOpen) ∷ (does g id is_vertex_op, WrongKind) ∷ [];
  effect = vertex_of_call g id (get g.calls id);
}
-- a read sees the graph as it was at a moment since its Invoke
rule g (Read id m) = record {
  conditions = (is_open g id, NotOpen) ∷ (asks g id, WrongKind) ∷ (is_within g id m, BadMoment) ∷ [];
  effect = moved g id (Done (Shown (view g id m)));
}
-- a client is told what its call is done with, or Pending where the call is shown, or Unknown at any time
rule g (Reply id a) = record {
  conditions = (is_unsaid g id, NotOpen) ∷ (may_say g id a, WrongAnswer) ∷ [];
  effect = record g { calls = altered g.calls id with_said };
}

-- the state after a step, or why it isn't taken
abbrev pub Outcome : Type 0
Outcome = Result GraphState Misfit

-- the first misfit, or this state
abbrev pub checked : List (Bool × Misfit) → GraphState → Outcome
checked [] h = Ok h
checked (c ∷ cs) h = if c.0 then checked cs h else Err c.1

-- a step adds the contents before it to the past
abbrev pub noted : GraphState → GraphState → GraphState
noted g h = record h { past = g.past ++ g.contents ∷ [] }

-- what a step gives
abbrev pub step : GraphState → GStep → Outcome
step g s = checked (rule g s).conditions (noted g (rule g s).effect)
