-- What held where a step was taken.
use Rattle.std.proofs.Common.{◌≡◌, Option, Some, None, Ok, Bool, true, false, refl}
use Rattle.std.specs.Prelude.{not, ◌&&◌}
use Rattle.first_graph.specs.declared.edge_id.EdgeId.{EdgeId}
use Rattle.first_graph.specs.declared.half.Half.{Half}
use Rattle.first_graph.specs.declared.half.Half.TheVariants.{Absent, Here}
use Rattle.first_graph.specs.declared.query.Query.{Query}
use Rattle.first_graph.specs.declared.op.Op.{Op}
use Rattle.first_graph.specs.declared.op.Op.TheVariants.{PutEdge, DelEdge, PutVertex, DelVertex, Read as ReadOp}
use Rattle.first_graph.specs.declared.call.CallState.{CallState}
use Rattle.first_graph.specs.declared.call.CallState.TheVariants.{Open, Begun, Done}
use Rattle.first_graph.specs.declared.call.Call.{Call}
use Rattle.first_graph.specs.declared.chain.Chain.{Chain}
use Rattle.first_graph.specs.declared.misfit.Misfit.{Misfit}
use Rattle.first_graph.specs.Run.{edge_of_op, half_of_op}
use Rattle.first_graph.specs.Machine.{Machine, Outcome, where_true, where_state_open, where_open, where_pending, where_edge_op, where_careful, where_read, where_unsaid}

pub true_held : (b : Bool) (m : Misfit) (next : Outcome) (h : Machine) → where_true b m next ≡ Ok h → (b ≡ true) × (next ≡ Ok h)
true_held true m next h e = (refl, e)
true_held false m next h e = cc

state_held : (s : CallState) (next : Outcome) (h : Machine) → where_state_open s next ≡ Ok h → (s ≡ Open) × (next ≡ Ok h)
state_held Open next h e = (refl, e)
state_held Begun next h e = cc
state_held (Done a) next h e = cc

pub open_held : (o : Option Call) (next : Call → Outcome) (h : Machine) → where_open o next ≡ Ok h → (call : Call) × (o ≡ Some call) × (call.state ≡ Open) × (next call ≡ Ok h)
open_held None next h e = cc
open_held (Some call) next h e = let s = state_held call.state (next call) h e in (call, refl, s.0, s.1)

pub pending_held : (o : Option Chain) (next : Chain → Outcome) (h : Machine) → where_pending o next ≡ Ok h → (chain : Chain) × (o ≡ Some chain) × (next chain ≡ Ok h)
pending_held None next h e = cc
pending_held (Some chain) next h e = (chain, refl, e)

pub edge_op_held : (op : Op) (next : EdgeId → Half → Bool → Outcome) (h : Machine) → where_edge_op op next ≡ Ok h → (e : EdgeId) × (half : Half) × (absent : Bool) × (next e half absent ≡ Ok h) × (edge_of_op op ≡ Some e) × (half_of_op op ≡ Some half)
edge_op_held (PutEdge e row absent) next h is = (e, Here row, absent, is, refl, refl)
edge_op_held (DelEdge e) next h is = (e, Absent, false, is, refl, refl)
edge_op_held (PutVertex v t row absent) next h is = cc
edge_op_held (DelVertex v) next h is = cc
edge_op_held (ReadOp q) next h is = cc

pub careful_held : (op : Op) (next : EdgeId → Outcome) (h : Machine) → where_careful op next ≡ Ok h → (e : EdgeId) × (next e ≡ Ok h)
careful_held (PutEdge e row true) next h is = (e, is)
careful_held (PutEdge e row false) next h is = cc
careful_held (DelEdge e) next h is = cc
careful_held (PutVertex v t row absent) next h is = cc
careful_held (DelVertex v) next h is = cc
careful_held (ReadOp q) next h is = cc

pub read_held : (op : Op) (next : Query → Outcome) (h : Machine) → where_read op next ≡ Ok h → (q : Query) × (next q ≡ Ok h)
read_held (PutEdge e row absent) next h is = cc
read_held (DelEdge e) next h is = cc
read_held (PutVertex v t row absent) next h is = cc
read_held (DelVertex v) next h is = cc
read_held (ReadOp q) next h is = (q, is)

pub unsaid_held : (o : Option Call) (next : Outcome) (h : Machine) → where_unsaid o next ≡ Ok h → (call : Call) × (o ≡ Some call) × (not call.said ≡ true) × (next ≡ Ok h)
unsaid_held None next h e = cc
unsaid_held (Some call) next h e = let s = true_held (not call.said) _ next h e in (call, refl, s.0, s.1)

pub not_true : (b : Bool) → not b ≡ true → b ≡ false
not_true true e = cc
not_true false e = refl

pub both_true : (a b : Bool) → (a && b) ≡ true → (a ≡ true) × (b ≡ true)
both_true true true e = (refl, refl)
both_true true false e = cc
both_true false b e = cc

pub same_ok : (x y : Machine) → ◌≡◌ {A = Outcome} (Ok x) (Ok y) → x ≡ y
same_ok x y e = cc
