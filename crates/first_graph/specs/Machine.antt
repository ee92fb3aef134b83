-- The graph machine: its state, and what each step makes of it.
use Rattle.std.specs.Prelude.{◌≡◌, ℕ, ◌+◌, nat_le, List, [], ◌∷◌, ◌++◌, length, take, Option, None, Some, Result, Ok, Err, Bool, true, false, not, ◌&&◌, ◌⊎◌, ◌↔◌, IsTrue, if◌then◌else◌}
use Rattle.std.specs.FinMap.{FinMap, empty, get, insert, remove, contains_key}
use Rattle.first_graph.specs.Keys.{edge_cmp, call_cmp}
use Rattle.first_graph.specs.Maps.{altered}
use Rattle.first_graph.specs.Marks.{with_in_done, with_out_done, with_state, with_shown, with_said}
use Rattle.first_graph.specs.Contents.{Contents, nothing, changed, contents_after}
use Rattle.first_graph.specs.Views.{view_of}
use Rattle.first_graph.specs.declared.edge_id.EdgeId.{EdgeId}
use Rattle.first_graph.specs.declared.call_id.CallId.{CallId}
use Rattle.first_graph.specs.declared.half.Half.{Half}
use Rattle.first_graph.specs.declared.half.Half.TheVariants.{Absent, Here}
use Rattle.first_graph.specs.declared.query.Query.{Query}
use Rattle.first_graph.specs.declared.change.Change.{Change}
use Rattle.first_graph.specs.declared.change.Change.TheVariants.{Nothing, Tag, Gone, Out, In}
use Rattle.first_graph.specs.declared.op.Op.{Op}
use Rattle.first_graph.specs.declared.op.Op.TheVariants.{PutEdge, DelEdge, PutVertex, DelVertex, Read as ReadOp}
use Rattle.first_graph.specs.declared.answer.Answer.{Answer}
use Rattle.first_graph.specs.declared.answer.Answer.TheVariants.{Fine, Skipped, Pending, Conflict, Cancelled, Unknown, Shown}
use Rattle.first_graph.specs.declared.call.CallState.{CallState}
use Rattle.first_graph.specs.declared.call.CallState.TheVariants.{Open, Begun, Done}
use Rattle.first_graph.specs.declared.call.Call.{Call}
use Rattle.first_graph.specs.declared.chain.Chain.{Chain}
use Rattle.first_graph.specs.declared.graph_step.GStep.{GStep}
use Rattle.first_graph.specs.declared.graph_step.GStep.TheVariants.{Invoke, Begin, Skip, Refuse, InHalf, OutHalf, Settle, Cancel, Vertex, Read, Reply}
use Rattle.first_graph.specs.declared.misfit.StepRefused.{StepRefused}
use Rattle.first_graph.specs.declared.misfit.StepRefused.TheVariants.{Misfit as MisfitOf, NoMemory}
use Rattle.first_graph.specs.declared.misfit.Misfit.{Misfit}
use Rattle.first_graph.specs.declared.misfit.Misfit.TheVariants.{KnownId, NotOpen, WrongKind, EdgePending, NotPending, RowThere, NoRow, HalfDone, HalfMissing, BadMoment, WrongAnswer}

-- the contents now, the chains under way, the calls, and what each step so far changed of the contents
pub record Machine : Type 0 where
  pub contents : Contents
  pub pend : FinMap edge_cmp Chain
  pub calls : FinMap call_cmp Call
  pub past : List Change

abbrev pub start : Machine
start = record { contents = nothing; pend = empty; calls = empty; past = [] }

-- the contents after the first m steps
abbrev pub contents_at : Machine → ℕ → Contents
contents_at g m = contents_after (take m g.past)

-- what a step leaves that has these chains, these calls and this change
abbrev pub taken : Machine → FinMap edge_cmp Chain → FinMap call_cmp Call → Change → Machine
taken g pend calls change = record { contents = changed g.contents change; pend = pend; calls = calls; past = g.past ++ change ∷ [] }

abbrev pub Outcome : Type 0
Outcome = Result Machine Misfit

-- what comes next where the condition holds, and else the misfit
abbrev pub where_true : Bool → Misfit → Outcome → Outcome
where_true true misfit next = next
where_true false misfit next = Err misfit

-- the call, where there is one and it is open
abbrev pub where_state_open : CallState → Outcome → Outcome
where_state_open Open next = next
where_state_open Begun next = Err NotOpen
where_state_open (Done a) next = Err NotOpen

abbrev pub where_open : Option Call → (Call → Outcome) → Outcome
where_open None next = Err NotOpen
where_open (Some call) next = where_state_open call.state (next call)

-- the chain, where there is one
abbrev pub where_pending : Option Chain → (Chain → Outcome) → Outcome
where_pending None next = Err NotPending
where_pending (Some chain) next = next chain

-- the edge, its new half and the flag, where the call writes an edge
abbrev pub where_edge_op : Op → (EdgeId → Half → Bool → Outcome) → Outcome
where_edge_op (PutEdge e row absent) next = next e (Here row) absent
where_edge_op (DelEdge e) next = next e Absent false
where_edge_op (PutVertex v t row absent) next = Err WrongKind
where_edge_op (DelVertex v) next = Err WrongKind
where_edge_op (ReadOp q) next = Err WrongKind

-- the edge, where the call puts one if it does not exist
abbrev pub where_careful : Op → (EdgeId → Outcome) → Outcome
where_careful (PutEdge e row true) next = next e
where_careful (PutEdge e row false) next = Err WrongKind
where_careful (DelEdge e) next = Err WrongKind
where_careful (PutVertex v t row absent) next = Err WrongKind
where_careful (DelVertex v) next = Err WrongKind
where_careful (ReadOp q) next = Err WrongKind

abbrev pub where_read : Op → (Query → Outcome) → Outcome
where_read (PutEdge e row absent) next = Err WrongKind
where_read (DelEdge e) next = Err WrongKind
where_read (PutVertex v t row absent) next = Err WrongKind
where_read (DelVertex v) next = Err WrongKind
where_read (ReadOp q) next = next q

-- an end of a call: its state is the answer
abbrev pub done : Machine → CallId → Answer → Change → Machine
done g id answer change = taken g g.pend (altered g.calls id (with_state (Done answer))) change

abbrev pub invoked : Machine → CallId → Op → Outcome
invoked g id op =
    where_true (not (contains_key g.calls id)) KnownId
    (Ok (taken g g.pend (insert g.calls id (record { op = op; moment = length g.past + 1; state = Open; shown = false; said = false })) Nothing))

-- a chain begins on an edge
abbrev pub begun_on : Machine → CallId → EdgeId → Half → Bool → Outcome
begun_on g id e half absent =
    where_true (not (contains_key g.pend e)) EdgePending (
    where_true (not (absent && contains_key g.contents.out e)) RowThere
    (Ok (taken g (insert g.pend e (record { id = id; half = half; in_done = false; out_done = false })) (altered g.calls id (with_state Begun)) Nothing)))

abbrev pub begun_by : Machine → CallId → Call → Outcome
begun_by g id call = where_edge_op call.op (begun_on g id)

abbrev pub begun : Machine → CallId → Outcome
begun g id = where_open (get g.calls id) (begun_by g id)

-- a row is there already, and is left
abbrev pub skipped_on : Machine → CallId → EdgeId → Outcome
skipped_on g id e =
    where_true (not (contains_key g.pend e)) EdgePending (
    where_true (contains_key g.contents.out e) NoRow
    (Ok (done g id Skipped Nothing)))

abbrev pub skipped_by : Machine → CallId → Call → Outcome
skipped_by g id call = where_careful call.op (skipped_on g id)

abbrev pub skipped : Machine → CallId → Outcome
skipped g id = where_open (get g.calls id) (skipped_by g id)

-- another call's chain is on the edge
abbrev pub refused_on : Machine → CallId → EdgeId → Half → Bool → Outcome
refused_on g id e half absent = where_pending (get g.pend e) (λ chain. Ok (done g id (Conflict chain.id) Nothing))

abbrev pub refused_by : Machine → CallId → Call → Outcome
refused_by g id call = where_edge_op call.op (refused_on g id)

abbrev pub refused : Machine → CallId → Outcome
refused g id = where_open (get g.calls id) (refused_by g id)

abbrev pub in_written : Machine → EdgeId → Outcome
in_written g e =
    where_pending (get g.pend e) (λ chain. where_true (not chain.in_done) HalfDone
    (Ok (taken g (altered g.pend e with_in_done) g.calls (In e chain.half))))

abbrev pub out_written : Machine → EdgeId → Outcome
out_written g e =
    where_pending (get g.pend e) (λ chain. where_true (not chain.out_done) HalfDone
    (Ok (taken g (altered g.pend e with_out_done) (altered g.calls chain.id with_shown) (Out e chain.half))))

abbrev pub settled : Machine → EdgeId → Outcome
settled g e =
    where_pending (get g.pend e) (λ chain. where_true (chain.in_done && chain.out_done) HalfMissing
    (Ok (taken g (remove g.pend e) (altered g.calls chain.id (with_state (Done Fine))) Nothing)))

abbrev pub cancelled : Machine → EdgeId → Outcome
cancelled g e =
    where_pending (get g.pend e) (λ chain. where_true (not chain.in_done && not chain.out_done) HalfDone
    (Ok (taken g (remove g.pend e) (altered g.calls chain.id (with_state (Done Cancelled))) Nothing)))

-- a call that writes a vertex, at once; where a row is not to be replaced, it is skipped
abbrev pub vertex_put : Machine → CallId → Op → Outcome
vertex_put g id (PutVertex v t row absent) =
    Ok (if absent && contains_key g.contents.verts (record { vid = v; tag = t })
    then done g id Skipped Nothing
    else done g id Fine (Tag (record { vid = v; tag = t }) row))
vertex_put g id (DelVertex v) = Ok (done g id Fine (Gone v))
vertex_put g id (PutEdge e row absent) = Err WrongKind
vertex_put g id (DelEdge e) = Err WrongKind
vertex_put g id (ReadOp q) = Err WrongKind

abbrev pub vertex_by : Machine → CallId → Call → Outcome
vertex_by g id call = vertex_put g id call.op

abbrev pub vertex_written : Machine → CallId → Outcome
vertex_written g id = where_open (get g.calls id) (vertex_by g id)

-- a query is answered from the contents at a moment since its call
abbrev pub read_of : Machine → CallId → ℕ → ℕ → Query → Outcome
read_of g id m since q =
    where_true (nat_le since m && nat_le m (length g.past)) BadMoment
    (Ok (done g id (Shown (view_of q (contents_at g m))) Nothing))

abbrev pub read_by : Machine → CallId → ℕ → Call → Outcome
read_by g id m call = where_read call.op (read_of g id m call.moment)

abbrev pub read_at : Machine → CallId → ℕ → Outcome
read_at g id m = where_open (get g.calls id) (read_by g id m)

-- an answer that a call may be given
abbrev pub IsRight : Answer → Call → Type 0
IsRight a call = (call.state ≡ Done a) ⊎ (((a ≡ Pending) × (call.shown ≡ true)) ⊎ (a ≡ Unknown))

abbrev pub IsRightAt : Answer → Option Call → Type 0
IsRightAt a None = ⊥
IsRightAt a (Some call) = IsRight a call

-- a call that was not said, where there is one
abbrev pub where_unsaid : Option Call → Outcome → Outcome
where_unsaid None next = Err NotOpen
where_unsaid (Some call) next = where_true (not call.said) NotOpen next

abbrev pub replied : Machine → CallId → Bool → Outcome
replied g id right = where_unsaid (get g.calls id) (where_true right WrongAnswer (Ok (taken g g.pend (altered g.calls id with_said) Nothing)))

-- what a step gives: the machine after it, or its first condition that does not hold
abbrev pub Step : Machine → GStep → Outcome → Type 0
Step g (Invoke id op) r = invoked g id op ≡ r
Step g (Begin id) r = begun g id ≡ r
Step g (Skip id) r = skipped g id ≡ r
Step g (Refuse id) r = refused g id ≡ r
Step g (InHalf e) r = in_written g e ≡ r
Step g (OutHalf e) r = out_written g e ≡ r
Step g (Settle e) r = settled g e ≡ r
Step g (Cancel e) r = cancelled g e ≡ r
Step g (Vertex id) r = vertex_written g id ≡ r
Step g (Read id m) r = read_at g id m ≡ r
Step g (Reply id a) r = (right : Bool) × (IsTrue right ↔ IsRightAt a (get g.calls id)) × (replied g id right ≡ r)

-- the misfit is the one that the machine gives
abbrev pub RefusedAs : Outcome → StepRefused → Type 0
RefusedAs r (MisfitOf m) = r ≡ Err m
RefusedAs r NoMemory = Unit {0}

-- the step has this misfit
abbrev pub StepRefuses : Machine → GStep → StepRefused → Type 0
StepRefuses g s (MisfitOf m) = Step g s (Err m)
StepRefuses g s NoMemory = Unit {0}
