-- Whether two answers are the same, found by looking at them.
use Rattle.std.specs.Prelude.{◌==◌, Bool, true, false, not, cond, ◌&&◌, List, Option, None, Some}
use Rattle.std.specs.Ordering.{int_eq, eq_by_cmp}
use Rattle.std.specs.Cmp.Lexicographic.{pointwise}
use Rattle.graph_model.specs.declared.val.Val.{Val}
use Rattle.graph_model.specs.declared.val.Val.TheVariants.{Null, Int, Flag, Words}
use Rattle.graph_model.specs.declared.edge_id.EdgeId.{EdgeId}
use Rattle.graph_model.specs.declared.call_id.CallId.{CallId}
use Rattle.graph_model.specs.declared.found.Found.{Found}
use Rattle.graph_model.specs.declared.answer.Answer.{Answer}
use Rattle.graph_model.specs.declared.answer.Answer.TheVariants.{Fine, Skipped, Pending, Conflict, Cancelled, Unknown, Shown}
use Rattle.graph_model.specs.Keys.{edge_cmp, call_cmp}

-- whether two ids of calls are the same
abbrev pub is_same_call : CallId → CallId → Bool
is_same_call a b = eq_by_cmp call_cmp a b

-- whether two values are the same
abbrev pub is_same_val : Val → Val → Bool
is_same_val Null Null = true
is_same_val (Int a) (Int b) = int_eq a b
is_same_val (Flag a) (Flag b) = cond a b (not b)
is_same_val (Words a) (Words b) = pointwise (λ x y. x == y) a b
is_same_val one another = false

-- whether two rows have the same edge, or none
abbrev pub is_same_edge : Option EdgeId → Option EdgeId → Bool
is_same_edge None None = true
is_same_edge None (Some b) = false
is_same_edge (Some a) None = false
is_same_edge (Some a) (Some b) = eq_by_cmp edge_cmp a b

-- whether two found rows are the same
abbrev pub is_same_found : Found → Found → Bool
is_same_found a b = is_same_edge a.edge b.edge && (cond a.inward b.inward (not b.inward) && pointwise is_same_val a.row b.row)

-- whether a call was answered with the conflict with this other call
abbrev pub is_conflict : CallId → Answer → Bool
is_conflict id (Conflict other) = is_same_call id other
is_conflict id others = false

-- whether a call was shown this view
abbrev pub is_view : List Found → Answer → Bool
is_view found (Shown view) = pointwise is_same_found found view
is_view found others = false

abbrev pub is_fine : Answer → Bool
is_fine Fine = true
is_fine others = false

abbrev pub is_skipped : Answer → Bool
is_skipped Skipped = true
is_skipped others = false

abbrev pub is_pending : Answer → Bool
is_pending Pending = true
is_pending others = false

abbrev pub is_cancelled : Answer → Bool
is_cancelled Cancelled = true
is_cancelled others = false

abbrev pub is_unknown : Answer → Bool
is_unknown Unknown = true
is_unknown others = false

-- whether two answers are the same
abbrev pub is_same_answer : Answer → Answer → Bool
is_same_answer Fine a = is_fine a
is_same_answer Skipped a = is_skipped a
is_same_answer Pending a = is_pending a
is_same_answer (Conflict id) a = is_conflict id a
is_same_answer Cancelled a = is_cancelled a
is_same_answer Unknown a = is_unknown a
is_same_answer (Shown view) a = is_view view a
