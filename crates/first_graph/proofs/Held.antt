-- What held before each step that was taken, and what it left.
use Rattle.std.proofs.Common.{◌≡◌, ℕ, ◌+◌, length, Some, None, Ok, Bool, true, false, sym, leb-true}
use Rattle.std.specs.Prelude.{not, ◌≤◌, nat_le}
use Rattle.std.specs.FinMap.{get, insert, remove, contains_key}
use Rattle.first_graph.specs.declared.edge_id.EdgeId.{EdgeId}
use Rattle.first_graph.specs.declared.call_id.CallId.{CallId}
use Rattle.first_graph.specs.declared.half.Half.{Half}
use Rattle.first_graph.specs.declared.query.Query.{Query}
use Rattle.first_graph.specs.declared.change.Change.TheVariants.{Nothing, Out, In}
use Rattle.first_graph.specs.declared.op.Op.{Op}
use Rattle.first_graph.specs.declared.answer.Answer.{Answer}
use Rattle.first_graph.specs.declared.answer.Answer.TheVariants.{Fine, Skipped, Conflict, Cancelled, Shown}
use Rattle.first_graph.specs.declared.call.CallState.TheVariants.{Open, Begun, Done}
use Rattle.first_graph.specs.declared.call.Call.{Call}
use Rattle.first_graph.specs.declared.chain.Chain.{Chain}
use Rattle.first_graph.specs.declared.graph_step.GStep.TheVariants.{Reply}
use Rattle.first_graph.specs.declared.misfit.Misfit.TheVariants.{KnownId, EdgePending, NoRow, WrongAnswer}
use Rattle.first_graph.specs.Maps.{altered}
use Rattle.first_graph.specs.Marks.{with_in_done, with_out_done, with_state, with_shown, with_said}
use Rattle.first_graph.specs.Views.{view_of}
use Rattle.first_graph.specs.Machine.{Machine, Step, contents_at, IsRightAt, taken, done, where_true, invoked, begun, begun_by, begun_on, skipped, skipped_by, skipped_on, refused, refused_by, refused_on, in_written, out_written, settled, cancelled, vertex_put, vertex_written, vertex_by, read_at, read_by, read_of}
use Rattle.first_graph.specs.Run.{edge_of_op, half_of_op}
use Rattle.first_graph.proofs.Updates.{none_there}
use Rattle.first_graph.proofs.Inversion.{true_held, open_held, pending_held, edge_op_held, careful_held, read_held, unsaid_held, not_true, both_true, same_ok}

pub record Invoked (g : Machine) (id : CallId) (op : Op) (h : Machine) : Type 0 where
  pub fresh : get g.calls id ≡ None
  pub is : h ≡ taken g g.pend (insert g.calls id (record { op = op; moment = length g.past + 1; state = Open; shown = false; said = false })) Nothing

pub invoke_held : (g : Machine) (id : CallId) (op : Op) (h : Machine) → invoked g id op ≡ Ok h → Invoked g id op h
invoke_held g id op h e = let t = true_held (not (contains_key g.calls id)) KnownId _ h e in record { fresh = none_there _ t.0; is = sym (same_ok _ h t.1) }

pub record Began (g : Machine) (id : CallId) (h : Machine) : Type 0 where
  pub call : Call
  pub known : get g.calls id ≡ Some call
  pub open_then : call.state ≡ Open
  pub edge : EdgeId
  pub aims : edge_of_op call.op ≡ Some edge
  pub half : Half
  pub writes : half_of_op call.op ≡ Some half
  pub fresh : get g.pend edge ≡ None
  pub is : h ≡ taken g (insert g.pend edge (record { id = id; half = half; in_done = false; out_done = false })) (altered g.calls id (with_state Begun)) Nothing

begun_on_held : (g : Machine) (id : CallId) (e : EdgeId) (half : Half) (absent : Bool) (h : Machine) → begun_on g id e half absent ≡ Ok h
    → (get g.pend e ≡ None) × (h ≡ taken g (insert g.pend e (record { id = id; half = half; in_done = false; out_done = false })) (altered g.calls id (with_state Begun)) Nothing)
begun_on_held g id e half absent h is =
    let c = true_held _ _ _ h is in
    let d = true_held _ _ _ h c.1 in
    (none_there _ c.0, sym (same_ok _ h d.1))

pub begin_held : (g : Machine) (id : CallId) (h : Machine) → begun g id ≡ Ok h → Began g id h
begin_held g id h is =
    let a = open_held (get g.calls id) (begun_by g id) h is in
    let b = edge_op_held a.0.op (begun_on g id) h a.3 in
    let c = begun_on_held g id b.0 b.1 b.2 h b.3 in
    record { call = a.0; known = a.1; open_then = a.2; edge = b.0; aims = b.4; half = b.1; writes = b.5; fresh = c.0; is = c.1 }

-- a step that ends an open call, and changes nothing else
pub record Ended (g : Machine) (id : CallId) (h : Machine) : Type 0 where
  pub call : Call
  pub known : get g.calls id ≡ Some call
  pub open_then : call.state ≡ Open
  pub answer : Answer
  pub unfine : ¬ (answer ≡ Fine)
  pub is : h ≡ done g id answer Nothing

skipped_on_held : (g : Machine) (id : CallId) (e : EdgeId) (h : Machine) → skipped_on g id e ≡ Ok h → h ≡ done g id Skipped Nothing
skipped_on_held g id e h is =
    let c = true_held (not (contains_key g.pend e)) EdgePending (where_true (contains_key g.contents.out e) NoRow (Ok (done g id Skipped Nothing))) h is in
    let d = true_held (contains_key g.contents.out e) NoRow (Ok (done g id Skipped Nothing)) h c.1 in
    sym (same_ok _ h d.1)

pub skip_held : (g : Machine) (id : CallId) (h : Machine) → skipped g id ≡ Ok h → Ended g id h
skip_held g id h is =
    let a = open_held (get g.calls id) (skipped_by g id) h is in
    let b = careful_held a.0.op (skipped_on g id) h a.3 in
    record { call = a.0; known = a.1; open_then = a.2; answer = Skipped; unfine = λ e. cc; is = skipped_on_held g id b.0 h b.1 }

refused_on_held : (g : Machine) (id : CallId) (e : EdgeId) (half : Half) (absent : Bool) (h : Machine) → refused_on g id e half absent ≡ Ok h → (chain : Chain) × (h ≡ done g id (Conflict chain.id) Nothing)
refused_on_held g id e half absent h is = let c = pending_held (get g.pend e) (λ x. Ok (done g id (Conflict x.id) Nothing)) h is in (c.0, sym (same_ok _ h c.2))

pub refuse_held : (g : Machine) (id : CallId) (h : Machine) → refused g id ≡ Ok h → Ended g id h
refuse_held g id h is =
    let a = open_held (get g.calls id) (refused_by g id) h is in
    let b = edge_op_held a.0.op (refused_on g id) h a.3 in
    let c = refused_on_held g id b.0 b.1 b.2 h b.3 in
    record { call = a.0; known = a.1; open_then = a.2; answer = Conflict c.0.id; unfine = λ e. cc; is = c.1 }

read_of_held : (g : Machine) (id : CallId) (m since : ℕ) (q : Query) (h : Machine) → read_of g id m since q ≡ Ok h
    → (h ≡ done g id (Shown (view_of q (contents_at g m))) Nothing) × (nat_le since m ≡ true) × (nat_le m (length g.past) ≡ true)
read_of_held g id m since q h is = let c = true_held _ _ _ h is in let d = both_true _ _ c.0 in (sym (same_ok _ h c.1), d.0, d.1)

pub read_step_held : (g : Machine) (id : CallId) (m : ℕ) (h : Machine) → read_at g id m ≡ Ok h → Ended g id h
read_step_held g id m h is =
    let a = open_held (get g.calls id) (read_by g id m) h is in
    let b = read_held a.0.op (read_of g id m a.0.moment) h a.3 in
    let c = read_of_held g id m a.0.moment b.0 h b.1 in
    record { call = a.0; known = a.1; open_then = a.2; answer = _; unfine = λ e. cc; is = c.0 }

-- the moment of a read lies between its call and now
pub record ReadWithin (g : Machine) (id : CallId) (m : ℕ) : Type 0 where
  pub call : Call
  pub known : get g.calls id ≡ Some call
  pub since : call.moment ≤ m
  pub until : m ≤ length g.past

pub read_within : (g : Machine) (id : CallId) (m : ℕ) (h : Machine) → read_at g id m ≡ Ok h → ReadWithin g id m
read_within g id m h is =
    let a = open_held (get g.calls id) (read_by g id m) h is in
    let b = read_held a.0.op (read_of g id m a.0.moment) h a.3 in
    let c = read_of_held g id m a.0.moment b.0 h b.1 in
    record { call = a.0; known = a.1; since = leb-true _ _ c.1; until = leb-true _ _ c.2 }

pub record PutVertexHeld (g : Machine) (id : CallId) (h : Machine) : Type 0 where
  pub call : Call
  pub known : get g.calls id ≡ Some call
  pub open_then : call.state ≡ Open
  pub put : vertex_put g id call.op ≡ Ok h

pub vertex_held : (g : Machine) (id : CallId) (h : Machine) → vertex_written g id ≡ Ok h → PutVertexHeld g id h
vertex_held g id h is = let a = open_held (get g.calls id) (vertex_by g id) h is in record { call = a.0; known = a.1; open_then = a.2; put = a.3 }

pub record WroteIn (g : Machine) (e : EdgeId) (h : Machine) : Type 0 where
  pub chain : Chain
  pub found : get g.pend e ≡ Some chain
  pub undone : chain.in_done ≡ false
  pub is : h ≡ taken g (altered g.pend e with_in_done) g.calls (In e chain.half)

pub in_held : (g : Machine) (e : EdgeId) (h : Machine) → in_written g e ≡ Ok h → WroteIn g e h
in_held g e h is =
    let a = pending_held _ _ h is in
    let b = true_held _ _ _ h a.2 in
    record { chain = a.0; found = a.1; undone = not_true _ b.0; is = sym (same_ok _ h b.1) }

pub record WroteOut (g : Machine) (e : EdgeId) (h : Machine) : Type 0 where
  pub chain : Chain
  pub found : get g.pend e ≡ Some chain
  pub undone : chain.out_done ≡ false
  pub is : h ≡ taken g (altered g.pend e with_out_done) (altered g.calls chain.id with_shown) (Out e chain.half)

pub out_held : (g : Machine) (e : EdgeId) (h : Machine) → out_written g e ≡ Ok h → WroteOut g e h
out_held g e h is =
    let a = pending_held _ _ h is in
    let b = true_held _ _ _ h a.2 in
    record { chain = a.0; found = a.1; undone = not_true _ b.0; is = sym (same_ok _ h b.1) }

pub record SettledHeld (g : Machine) (e : EdgeId) (h : Machine) : Type 0 where
  pub chain : Chain
  pub found : get g.pend e ≡ Some chain
  pub in_done : chain.in_done ≡ true
  pub out_done : chain.out_done ≡ true
  pub is : h ≡ taken g (remove g.pend e) (altered g.calls chain.id (with_state (Done Fine))) Nothing

pub settle_held : (g : Machine) (e : EdgeId) (h : Machine) → settled g e ≡ Ok h → SettledHeld g e h
settle_held g e h is =
    let a = pending_held _ _ h is in
    let b = true_held _ _ _ h a.2 in
    let c = both_true _ _ b.0 in
    record { chain = a.0; found = a.1; in_done = c.0; out_done = c.1; is = sym (same_ok _ h b.1) }

pub record CancelledHeld (g : Machine) (e : EdgeId) (h : Machine) : Type 0 where
  pub chain : Chain
  pub found : get g.pend e ≡ Some chain
  pub in_undone : chain.in_done ≡ false
  pub out_undone : chain.out_done ≡ false
  pub is : h ≡ taken g (remove g.pend e) (altered g.calls chain.id (with_state (Done Cancelled))) Nothing

pub cancel_held : (g : Machine) (e : EdgeId) (h : Machine) → cancelled g e ≡ Ok h → CancelledHeld g e h
cancel_held g e h is =
    let a = pending_held _ _ h is in
    let b = true_held _ _ _ h a.2 in
    let c = both_true _ _ b.0 in
    record { chain = a.0; found = a.1; in_undone = not_true _ c.0; out_undone = not_true _ c.1; is = sym (same_ok _ h b.1) }

pub record Replied (g : Machine) (id : CallId) (a : Answer) (h : Machine) : Type 0 where
  pub call : Call
  pub known : get g.calls id ≡ Some call
  pub unsaid : call.said ≡ false
  pub right : IsRightAt a (get g.calls id)
  pub is : h ≡ taken g g.pend (altered g.calls id with_said) Nothing

pub reply_held : (g : Machine) (id : CallId) (a : Answer) (h : Machine) → Step g (Reply id a) (Ok h) → Replied g id a h
reply_held g id a h e =
    let u = unsaid_held (get g.calls id) (where_true e.0 WrongAnswer (Ok (taken g g.pend (altered g.calls id with_said) Nothing))) h e.2 in
    let c = true_held e.0 WrongAnswer (Ok (taken g g.pend (altered g.calls id with_said) Nothing)) h u.3 in
    record { call = u.0; known = u.1; unsaid = not_true _ u.2; right = e.1.0 c.0; is = sym (same_ok _ h c.1) }
