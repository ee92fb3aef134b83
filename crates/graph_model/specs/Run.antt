-- Runs of the graph machine, and their traces.
use Rattle.std.specs.Prelude.{◌≡◌, List, [], ◌∷◌, Ok, Bool, true, false}
use Rattle.std.specs.List.{filter}
use Rattle.graph_model.specs.declared.call_id.CallId.{CallId}
use Rattle.graph_model.specs.declared.graph_step.GStep.{GStep}
use Rattle.graph_model.specs.declared.graph_step.GStep.TheVariants.{Invoke, Begin, Skip, Refuse, InHalf, OutHalf, Settle, Cancel, Vertex, Read, Reply}
use Rattle.graph_model.specs.State.{GraphState}
use Rattle.graph_model.specs.Steps.{Outcome, step}

-- the step gives this outcome
abbrev pub Step : GraphState → GStep → Outcome → Type 0
Step g s r = step g s ≡ r

-- the steps lead from one state to another, each taken as the table says
abbrev pub Run : GraphState → List GStep → GraphState → Type 0
Run g [] h = h ≡ g
Run g (s ∷ steps) h = (mid : GraphState) × Step g s (Ok mid) × Run mid steps h

-- the call of a step
abbrev pub call_of : GStep → CallId
call_of (Invoke id op) = id
call_of (Begin id) = id
call_of (Skip id) = id
call_of (Refuse id) = id
call_of (InHalf id) = id
call_of (OutHalf id) = id
call_of (Settle id) = id
call_of (Cancel id) = id
call_of (Vertex id) = id
call_of (Read id m) = id
call_of (Reply id a) = id

-- whether a client takes part in the step: it makes a call, or is answered
abbrev pub is_outward : GStep → Bool
is_outward (Invoke id op) = true
is_outward (Reply id a) = true
is_outward others = false

-- the Invokes and Replies among the steps, in their order
abbrev pub trace : List GStep → List GStep
trace steps = filter is_outward steps
