-- What holds of every run of the graph machine.
use Rattle.std.specs.Prelude.{◌≡◌, ℕ, ◌<◌, ◌≤◌, List, [], ◌∷◌, length, slice_get, count_by, Option, None, Some, Bool, true, false, ◌&&◌, ◌⊎◌}
use Rattle.std.specs.FinMap.{get}
use Rattle.graph_model.specs.declared.call_id.CallId.{CallId}
use Rattle.graph_model.specs.declared.edge_id.EdgeId.{EdgeId}
use Rattle.graph_model.specs.declared.half.Half.{Half}
use Rattle.graph_model.specs.declared.found.Found.{Found}
use Rattle.graph_model.specs.declared.query.Query.{Query}
use Rattle.graph_model.specs.declared.op.Op.{Op}
use Rattle.graph_model.specs.declared.op.Op.TheVariants.{Read as ReadOp}
use Rattle.graph_model.specs.declared.answer.Answer.{Answer}
use Rattle.graph_model.specs.declared.answer.Answer.TheVariants.{Fine, Pending, Cancelled, Shown}
use Rattle.graph_model.specs.declared.call.CallState.TheVariants.{Done}
use Rattle.graph_model.specs.declared.call.Call.{Call}
use Rattle.graph_model.specs.declared.graph_step.GStep.{GStep}
use Rattle.graph_model.specs.declared.graph_step.GStep.TheVariants.{Invoke, Begin, Skip, Refuse, Settle, Cancel, Vertex, Read, Reply}
use Rattle.graph_model.specs.Keys.{edge_cmp}
use Rattle.graph_model.specs.Same.{is_same_call}
use Rattle.graph_model.specs.Contents.{Contents, out_half, in_half}
use Rattle.graph_model.specs.Views.{view_of}
use Rattle.graph_model.specs.State.{GraphState, contents_at, pending_on}
use Rattle.graph_model.specs.Lookups.{takes_of}
use Rattle.graph_model.specs.Run.{Run, call_of}
use Rattle.maps.specs.Lists.{at_key}

-- Equal halves: an edge in no pending call has equal halves
abbrev pub HasEqualHalves : GraphState → Type 0
HasEqualHalves g = (e : EdgeId) → pending_on g e ≡ None → out_half g.contents e ≡ in_half g.contents e

-- whether a step is one that a call may have once: Begin, Skip, Refuse, Vertex or Read
abbrev pub is_move : GStep → Bool
is_move (Begin id) = true
is_move (Skip id) = true
is_move (Refuse id) = true
is_move (Vertex id) = true
is_move (Read id m) = true
is_move others = false

-- whether a step answers a call
abbrev pub is_reply : GStep → Bool
is_reply (Reply id a) = true
is_reply others = false

-- the step is a move of this call, or answers it
abbrev pub moves : CallId → GStep → Bool
moves id s = is_same_call id (call_of s) && is_move s

abbrev pub replies : CallId → GStep → Bool
replies id s = is_same_call id (call_of s) && is_reply s

-- Once each: a call has at most one move, and at most one reply
abbrev pub HasEachOnce : List GStep → Type 0
HasEachOnce steps = (id : CallId) → (count_by (moves id) steps ≤ 1) × (count_by (replies id) steps ≤ 1)

-- the step stands among these
abbrev pub Stands : GStep → List GStep → Type 0
Stands s [] = ⊥
Stands s (x ∷ steps) = (x ≡ s) ⊎ Stands s steps

-- the answer says that the write stands, or may stand
abbrev pub IsAssuring : Answer → Type 0
IsAssuring a = (a ≡ Fine) ⊎ (a ≡ Pending)

abbrev pub IsCancelledAt : Option Call → Type 0
IsCancelledAt None = ⊥
IsCancelledAt (Some call) = call.state ≡ Done Cancelled

-- the call was cancelled
abbrev pub IsCancelled : GraphState → CallId → Type 0
IsCancelled g id = IsCancelledAt (get g.calls id)

-- Acknowledged is never cancelled: a call that is answered Fine or Pending before g or after it is not cancelled at g
abbrev pub CancelsNoneAcknowledged : List GStep → GraphState → List GStep → Type 0
CancelsNoneAcknowledged before g after =
    (id : CallId) (a : Answer) → IsAssuring a → Stands (Reply id a) before ⊎ Stands (Reply id a) after → ¬ (IsCancelled g id)

-- the call with this op was invoked before this place
abbrev pub IsInvokedBefore : List GStep → ℕ → CallId → Op → Type 0
IsInvokedBefore steps place id op = (called : ℕ) × (called < place) × (slice_get steps called ≡ Some (Invoke id op))

-- at this place stands the Begin of a call with this op; h is the state at the end
pub record BeginsAt (steps : List GStep) (id : CallId) (op : Op) (place : ℕ) : Type 0 where
  pub invoked : IsInvokedBefore steps place id op
  pub begins : slice_get steps place ≡ Some (Begin id)

-- the edges that a chain took that began at this place, each with its new half
abbrev pub taken_at : GraphState → ℕ → Op → List (EdgeId × Half)
taken_at h place op = takes_of (contents_at h place) op

-- the list has this half for the edge
abbrev pub Has : List (EdgeId × Half) → EdgeId → Half → Type 0
Has list e half = at_key edge_cmp e list ≡ Some half

-- no Settle and no Cancel of the call stands from one place up to before another
abbrev pub IsUnderWay : List GStep → CallId → ℕ → ℕ → Type 0
IsUnderWay steps id since until = (place : ℕ) → since ≤ place → place < until → ¬ (slice_get steps place ≡ Some (Settle id)) × ¬ (slice_get steps place ≡ Some (Cancel id))

-- all of the list's edges have their new halves, or all have the halves that they had
abbrev pub AllNewOrOld : (Contents → EdgeId → Half) → List (EdgeId × Half) → Contents → Contents → Type 0
AllNewOrOld half_in list was now = ((e : EdgeId) (half : Half) → Has list e half → half_in now e ≡ half) ⊎ ((e : EdgeId) (half : Half) → Has list e half → half_in now e ≡ half_in was e)

-- Halves change together: at each moment between a call's Begin and its end, the out-halves of its chain are all new or
-- all as at its Begin, and so are its in-halves
abbrev pub ChangesTogether : List GStep → GraphState → Type 0
ChangesTogether steps h =
    (id : CallId) (op : Op) (begin m : ℕ) → BeginsAt steps id op begin → begin < m → m ≤ length steps → IsUnderWay steps id begin m
    → AllNewOrOld out_half (taken_at h begin op) (contents_at h begin) (contents_at h m) × AllNewOrOld in_half (taken_at h begin op) (contents_at h begin) (contents_at h m)

-- a view that a read shows: the read was invoked, then read at a moment that lies between its Invoke and its Read
pub record ShowsAMoment (steps : List GStep) (h : GraphState) (id : CallId) (view : List Found) (reply : ℕ) : Type 0 where
  pub query : Query
  pub call : ℕ
  pub invoked : slice_get steps call ≡ Some (Invoke id (ReadOp query))
  pub m : ℕ
  pub since : call < m
  pub read : ℕ
  pub until : m ≤ read
  pub reads : slice_get steps read ≡ Some (Read id m)
  pub before : read < reply
  pub is : view ≡ view_of query (contents_at h m)

-- What is shown: a read that is answered with a view is shown the graph as it was at one moment between its Invoke and its Reply
abbrev pub ShowsMoments : List GStep → GraphState → Type 0
ShowsMoments steps h = (id : CallId) (view : List Found) (reply : ℕ) → slice_get steps reply ≡ Some (Reply id (Shown view)) → ShowsAMoment steps h id view reply

-- the call has ended
pub record HasEnded (h : GraphState) (id : CallId) : Type 0 where
  pub call : Call
  pub known : get h.calls id ≡ Some call
  pub answer : Answer
  pub ended : call.state ≡ Done answer

-- further steps that end the call
pub record CanEnd (g : GraphState) (id : CallId) : Type 0 where
  pub steps : List GStep
  pub h : GraphState
  pub run : Run g steps h
  pub ends : HasEnded h id

-- Nothing is stuck: each call that was invoked can be brought to its end
abbrev pub IsNotStuck : GraphState → Type 0
IsNotStuck g = (id : CallId) (call : Call) → get g.calls id ≡ Some call → CanEnd g id
