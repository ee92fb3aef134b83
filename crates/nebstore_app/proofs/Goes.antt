-- Steps of the graph machine that are taken: what holds before, and what comes of it.
use Rattle.std.proofs.Common.{◌≡◌, ℕ, ◌+◌, ◌≤◌, length, List, [], ◌∷◌, ◌++◌, Option, Some, None, Ok, Bool, true, false, refl, ap, sym, subst, ◌∙◌, inl, inr, arith}
use Rattle.std.specs.Prelude.{not, ◌&&◌, nat_le}
use Rattle.std.specs.FinMap.{get, insert, remove}
use Rattle.first_graph.specs.declared.val.Val.{Val}
use Rattle.first_graph.specs.declared.edge_id.EdgeId.{EdgeId}
use Rattle.first_graph.specs.declared.call_id.CallId.{CallId}
use Rattle.first_graph.specs.declared.half.Half.{Half}
use Rattle.first_graph.specs.declared.half.Half.TheVariants.{Here}
use Rattle.first_graph.specs.declared.query.Query.{Query}
use Rattle.first_graph.specs.declared.change.Change.TheVariants.{Nothing, Out, In}
use Rattle.first_graph.specs.declared.op.Op.{Op}
use Rattle.first_graph.specs.declared.op.Op.TheVariants.{PutEdge, Read as ReadOp}
use Rattle.first_graph.specs.declared.answer.Answer.{Answer}
use Rattle.first_graph.specs.declared.answer.Answer.TheVariants.{Fine, Shown}
use Rattle.first_graph.specs.declared.call.CallState.TheVariants.{Open, Begun, Done}
use Rattle.first_graph.specs.declared.call.Call.{Call}
use Rattle.first_graph.specs.declared.chain.Chain.{Chain}
use Rattle.first_graph.specs.declared.graph_step.GStep.TheVariants.{Invoke, Begin, InHalf, OutHalf, Settle, Read, Reply}
use Rattle.first_graph.specs.declared.misfit.Misfit.TheVariants.{HalfDone, HalfMissing, NotOpen, WrongAnswer}
use Rattle.first_graph.specs.Maps.{altered}
use Rattle.first_graph.specs.Marks.{with_in_done, with_out_done, with_state, with_shown, with_said}
use Rattle.first_graph.specs.Views.{view_of}
use Rattle.first_graph.specs.Machine.{Machine, Step, IsRightAt, taken, contents_at, invoked, begun, begun_by, begun_on, in_written, out_written, settled, read_at, replied}
use Rattle.first_graph.specs.Machine as machine

-- the machine after a call was invoked
abbrev pub then_invoked : Machine → CallId → Op → Machine
then_invoked g id op = taken g g.pend (insert g.calls id (record { op = op; moment = length g.past + 1; state = Open; shown = false; said = false })) Nothing

pub invoke_goes : (g : Machine) (id : CallId) (op : Op) → get g.calls id ≡ None → Step g (Invoke id op) (Ok (then_invoked g id op))
invoke_goes g id op fresh = rw fresh refl

abbrev pub chain_of : CallId → Half → Bool → Bool → Chain
chain_of id half in_done out_done = record { id = id; half = half; in_done = in_done; out_done = out_done }

-- the machine after a chain began
abbrev pub then_begun : Machine → CallId → EdgeId → Half → Machine
then_begun g id e half = taken g (insert g.pend e (chain_of id half false false)) (altered g.calls id (with_state Begun)) Nothing

begin_op : (g : Machine) (id : CallId) (op : Op) (e : EdgeId) (row : List Val) → op ≡ PutEdge e row false → get g.pend e ≡ None → machine.where_edge_op op (begun_on g id) ≡ Ok (then_begun g id e (Here row))
begin_op g id op e row is none = rw (is, none) refl

pub begin_goes : (g : Machine) (id : CallId) (call : Call) (e : EdgeId) (row : List Val) → get g.calls id ≡ Some call → call.state ≡ Open → call.op ≡ PutEdge e row false → get g.pend e ≡ None → Step g (Begin id) (Ok (then_begun g id e (Here row)))
begin_goes g id call e row known open_then is none =
    ap (λ o. machine.where_open o (begun_by g id)) known ∙ ap (λ s. machine.where_state_open s (begun_by g id call)) open_then ∙ begin_op g id call.op e row is none

-- the machine after the in-half was written
abbrev pub then_in : Machine → EdgeId → Half → Machine
then_in g e half = taken g (altered g.pend e with_in_done) g.calls (In e half)

pub in_goes : (g : Machine) (e : EdgeId) (id : CallId) (half : Half) (out_done : Bool) → get g.pend e ≡ Some (chain_of id half false out_done) → Step g (InHalf e) (Ok (then_in g e half))
in_goes g e id half out_done found = ap (λ o. machine.where_pending o (λ chain. machine.where_true (not chain.in_done) HalfDone (Ok (taken g (altered g.pend e with_in_done) g.calls (In e chain.half))))) found

-- the machine after the out-half was written
abbrev pub then_out : Machine → EdgeId → CallId → Half → Machine
then_out g e id half = taken g (altered g.pend e with_out_done) (altered g.calls id with_shown) (Out e half)

pub out_goes : (g : Machine) (e : EdgeId) (id : CallId) (half : Half) (in_done : Bool) → get g.pend e ≡ Some (chain_of id half in_done false) → Step g (OutHalf e) (Ok (then_out g e id half))
out_goes g e id half in_done found = ap (λ o. machine.where_pending o (λ chain. machine.where_true (not chain.out_done) HalfDone (Ok (taken g (altered g.pend e with_out_done) (altered g.calls chain.id with_shown) (Out e chain.half))))) found

-- the machine after the chain was settled
abbrev pub then_settled : Machine → EdgeId → CallId → Machine
then_settled g e id = taken g (remove g.pend e) (altered g.calls id (with_state (Done Fine))) Nothing

pub settle_goes : (g : Machine) (e : EdgeId) (id : CallId) (half : Half) → get g.pend e ≡ Some (chain_of id half true true) → Step g (Settle e) (Ok (then_settled g e id))
settle_goes g e id half found = ap (λ o. machine.where_pending o (λ chain. machine.where_true (chain.in_done && chain.out_done) HalfMissing (Ok (taken g (remove g.pend e) (altered g.calls chain.id (with_state (Done Fine))) Nothing)))) found

-- the machine after a call ended with an answer and no change
abbrev pub then_done : Machine → CallId → Answer → Machine
then_done g id a = taken g g.pend (altered g.calls id (with_state (Done a))) Nothing

le_true : (a b : ℕ) → a ≤ b → nat_le a b ≡ true
le_true a b h = search (Rattle.std.proofs.Common.rules)

pub read_goes : (g : Machine) (id : CallId) (call : Call) (q : Query) → get g.calls id ≡ Some call → call.state ≡ Open → call.op ≡ ReadOp q → call.moment ≤ length g.past
    → Step g (Read id (length g.past)) (Ok (then_done g id (Shown (view_of q (contents_at g (length g.past))))))
read_goes g id call q known open_then is since =
    ap (λ o. machine.where_open o (machine.read_by g id (length g.past))) known
    ∙ ap (λ s. machine.where_state_open s (machine.read_by g id (length g.past) call)) open_then
    ∙ ap (λ o. machine.where_read o (machine.read_of g id (length g.past) call.moment)) is
    ∙ rw (le_true call.moment (length g.past) since, le_true (length g.past) (length g.past) (omega arith)) refl

abbrev pub then_said : Machine → CallId → Machine
then_said g id = taken g g.pend (altered g.calls id with_said) Nothing

said_of : (g : Machine) (id : CallId) (call : Call) → get g.calls id ≡ Some call → call.said ≡ false → replied g id true ≡ Ok (then_said g id)
said_of g id call known unsaid =
    ap (λ o. machine.where_unsaid o (machine.where_true true WrongAnswer (Ok (then_said g id)))) known ∙ ap (λ b. machine.where_true (not b) NotOpen (Ok (then_said g id))) unsaid

pub reply_goes : (g : Machine) (id : CallId) (call : Call) (a : Answer) → get g.calls id ≡ Some call → call.state ≡ Done a → call.said ≡ false → Step g (Reply id a) (Ok (then_said g id))
reply_goes g id call a known ended unsaid =
    let right : IsRightAt a (get g.calls id) = subst (IsRightAt a) (sym known) (inl ended) in
    (true, ((λ _. right), (λ _. refl)), said_of g id call known unsaid)
