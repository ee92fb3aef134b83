-- Runs of the graph machine, and their traces.
use Rattle.std.specs.Prelude.{◌≡◌, List, [], ◌∷◌, Option, None, Some, Ok, Bool, true, false}
use Rattle.std.specs.List.{filter}
use Rattle.first_graph.specs.declared.edge_id.EdgeId.{EdgeId}
use Rattle.first_graph.specs.declared.half.Half.{Half}
use Rattle.first_graph.specs.declared.half.Half.TheVariants.{Absent, Here}
use Rattle.first_graph.specs.declared.op.Op.{Op}
use Rattle.first_graph.specs.declared.op.Op.TheVariants.{PutEdge, DelEdge, PutVertex, DelVertex, Read as ReadOp}
use Rattle.first_graph.specs.declared.graph_step.GStep.{GStep}
use Rattle.first_graph.specs.declared.graph_step.GStep.TheVariants.{Invoke, Begin, Skip, Refuse, InHalf, OutHalf, Settle, Cancel, Vertex, Read, Reply}
use Rattle.first_graph.specs.Machine.{Machine, Step}

-- the steps lead from one machine to another, each taken as the machine says
abbrev pub Run : Machine → List GStep → Machine → Type 0
Run g [] h = h ≡ g
Run g (s ∷ steps) h = (mid : Machine) × Step g s (Ok mid) × Run mid steps h

-- whether a client takes part in the step: it makes a call, or is answered
abbrev pub is_outward : GStep → Bool
is_outward (Invoke id op) = true
is_outward (Begin id) = false
is_outward (Skip id) = false
is_outward (Refuse id) = false
is_outward (InHalf e) = false
is_outward (OutHalf e) = false
is_outward (Settle e) = false
is_outward (Cancel e) = false
is_outward (Vertex id) = false
is_outward (Read id m) = false
is_outward (Reply id a) = true

-- the Invokes and Replies among the steps, in their order
abbrev pub trace : List GStep → List GStep
trace steps = filter is_outward steps

-- the edge that a call writes
abbrev pub edge_of_op : Op → Option EdgeId
edge_of_op (PutEdge e row absent) = Some e
edge_of_op (DelEdge e) = Some e
edge_of_op (PutVertex v t row absent) = None
edge_of_op (DelVertex v) = None
edge_of_op (ReadOp q) = None

-- the half that a call writes, to both sides of its edge
abbrev pub half_of_op : Op → Option Half
half_of_op (PutEdge e row absent) = Some (Here row)
half_of_op (DelEdge e) = Some Absent
half_of_op (PutVertex v t row absent) = None
half_of_op (DelVertex v) = None
half_of_op (ReadOp q) = None
