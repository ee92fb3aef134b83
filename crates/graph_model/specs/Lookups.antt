-- What the graph knows of a call, and of a chain that is under way for it.
use Rattle.std.specs.Prelude.{ℕ, nat_le, Bool, true, false, not, ◌&&◌, ◌||◌, if◌then◌else◌, List, [], Option, None, Some}
use Rattle.std.specs.FinMap.{get, contains_key}
use Rattle.std.specs.Option.{is_some, unwrap_or}
use Rattle.graph_model.specs.declared.edge_id.EdgeId.{EdgeId}
use Rattle.graph_model.specs.declared.half.Half.{Half}
use Rattle.graph_model.specs.declared.found.Found.{Found}
use Rattle.graph_model.specs.declared.query.Query.{Query}
use Rattle.graph_model.specs.declared.call_id.CallId.{CallId}
use Rattle.graph_model.specs.declared.op.Op.{Op}
use Rattle.graph_model.specs.declared.answer.Answer.{Answer}
use Rattle.graph_model.specs.declared.call.CallState.{CallState}
use Rattle.graph_model.specs.declared.call.CallState.TheVariants.{Open, Done}
use Rattle.graph_model.specs.declared.call.Call.{Call}
use Rattle.graph_model.specs.declared.chain.Chain.{Chain}
use Rattle.graph_model.specs.Contents.{Contents}
use Rattle.graph_model.specs.Ops.{halves_of, edges_in, is_careful, query_of}
use Rattle.graph_model.specs.Same.{is_same_answer, is_pending, is_unknown}
use Rattle.graph_model.specs.Views.{view_of}
use Rattle.graph_model.specs.State.{GraphState, now, contents_at, first_pending}
use Rattle.maps.specs.Lists.{has_all, missing}

-- whether there is the call, and this holds of it
abbrev pub holds_of : (Call → Bool) → Option Call → Bool
holds_of test None = false
holds_of test (Some call) = test call

-- whether a state is Open
abbrev pub is_open_state : CallState → Bool
is_open_state Open = true
is_open_state others = false

-- the call was invoked, and nothing was done for it yet
abbrev pub is_open : GraphState → CallId → Bool
is_open g id = holds_of (λ call. is_open_state call.state) (get g.calls id)

-- the call's op is of this kind
abbrev pub does : GraphState → CallId → (Op → Bool) → Bool
does g id kind = holds_of (λ call. kind call.op) (get g.calls id)

-- the edges that a call is to write, each with its new half
abbrev pub halves_at : Option Call → List (EdgeId × Half)
halves_at None = []
halves_at (Some call) = halves_of call.op

abbrev pub halves : GraphState → CallId → List (EdgeId × Half)
halves g id = halves_at (get g.calls id)

abbrev pub edges : GraphState → CallId → List EdgeId
edges g id = edges_in (halves g id)

-- those that its chain takes: with IF NOT EXISTS only those whose out-half is Absent
abbrev pub takes_of : Contents → Op → List (EdgeId × Half)
takes_of c op = if is_careful op then missing c.out (halves_of op) else halves_of op

abbrev pub takes_at : Contents → Option Call → List (EdgeId × Half)
takes_at c None = []
takes_at c (Some call) = takes_of c call.op

abbrev pub takes : GraphState → CallId → List (EdgeId × Half)
takes g id = takes_at g.contents (get g.calls id)

-- the moment of its Invoke
abbrev pub moment_at : Option Call → ℕ
moment_at None = 0
moment_at (Some call) = call.moment

-- the view that a read has at a moment
abbrev pub view_for : Option Query → GraphState → ℕ → List Found
view_for None g m = []
view_for (Some q) g m = view_of q (contents_at g m)

abbrev pub view_at : Option Call → GraphState → ℕ → List Found
view_at None g m = []
view_at (Some call) g m = view_for (query_of call.op) g m

-- whether a state is Done with this answer
abbrev pub is_done_with : Answer → CallState → Bool
is_done_with a (Done b) = is_same_answer a b
is_done_with a others = false

-- an answer that a call may be given: its Done answer, or Pending where it is shown, or Unknown
abbrev pub is_right : Answer → Call → Bool
is_right a call = is_done_with a call.state || ((is_pending a && call.shown) || is_unknown a)

-- the edges of the chain under way for a call, each with its new half
abbrev pub list_at : Option Chain → List (EdgeId × Half)
list_at None = []
list_at (Some chain) = chain.list

abbrev pub list : GraphState → CallId → List (EdgeId × Half)
list g id = list_at (get g.pend id)

-- whether its in-halves are written
abbrev pub is_in_done : Option Chain → Bool
is_in_done None = false
is_in_done (Some chain) = chain.in_done

abbrev pub in_done : GraphState → CallId → Bool
in_done g id = is_in_done (get g.pend id)

-- whether its out-halves are written
abbrev pub is_out_done : Option Chain → Bool
is_out_done None = false
is_out_done (Some chain) = chain.out_done

abbrev pub out_done : GraphState → CallId → Bool
out_done g id = is_out_done (get g.pend id)

-- the conditions of the table, said of a call and of a chain

-- no edge of the call is in a chain under way
abbrev pub is_free : GraphState → CallId → Bool
is_free g id = not (is_some (first_pending g (edges g id)))

-- one of its edges is in a chain under way
abbrev pub is_met : GraphState → CallId → Bool
is_met g id = is_some (first_pending g (edges g id))

-- the out-half of each of its edges is Here
abbrev pub all_here : GraphState → CallId → Bool
all_here g id = has_all g.contents.out (edges g id)

-- the id of the call whose chain is on the first of its edges that has one
abbrev pub met_by : GraphState → CallId → CallId
met_by g id = unwrap_or (first_pending g (edges g id)) id

-- the call has a chain under way
abbrev pub is_under_way : GraphState → CallId → Bool
is_under_way g id = contains_key g.pend id

-- the call asks
abbrev pub asks : GraphState → CallId → Bool
asks g id = does g id (λ op. is_some (query_of op))

-- the moment is at least that of its Invoke, and at most now
abbrev pub is_within : GraphState → CallId → ℕ → Bool
is_within g id m = nat_le (moment_at (get g.calls id)) m && nat_le m (now g)

-- what its query finds in the graph at a moment
abbrev pub view : GraphState → CallId → ℕ → List Found
view g id m = view_at (get g.calls id) g m

-- the call was invoked and not replied
abbrev pub is_unsaid : GraphState → CallId → Bool
is_unsaid g id = holds_of (λ call. not call.said) (get g.calls id)

-- the answer is one that the call may be given
abbrev pub may_say : GraphState → CallId → Answer → Bool
may_say g id a = holds_of (is_right a) (get g.calls id)
