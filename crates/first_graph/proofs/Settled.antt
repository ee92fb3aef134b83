-- What a settled chain wrote stays until another chain begins on its edge.
use Rattle.std.proofs.Common.{◌≡◌, ◌⊎◌, inl, inr, List, Option, Some, None, Ok, Bool, true, false, refl, ap, sym, subst, ◌∙◌}
use Rattle.std.specs.Prelude.{if◌then◌else◌, ◌&&◌}
use Rattle.std.specs.FinMap.{get, contains_key}
use Rattle.std.specs.Ordering.{eq_by_cmp}
use Rattle.first_graph.specs.declared.call_id.CallId.{CallId}
use Rattle.first_graph.specs.declared.edge_id.EdgeId.{EdgeId}
use Rattle.first_graph.specs.declared.half.Half.{Half}
use Rattle.first_graph.specs.declared.op.Op.{Op}
use Rattle.first_graph.specs.declared.op.Op.TheVariants.{PutEdge, DelEdge, PutVertex, DelVertex, Read as ReadOp}
use Rattle.first_graph.specs.declared.call.Call.{Call}
use Rattle.first_graph.specs.declared.chain.Chain.{Chain}
use Rattle.first_graph.specs.declared.graph_step.GStep.{GStep}
use Rattle.first_graph.specs.declared.graph_step.GStep.TheVariants.{Invoke, Begin, Skip, Refuse, InHalf, OutHalf, Settle, Cancel, Vertex, Read, Reply}
use Rattle.first_graph.specs.Keys.{edge_cmp, in_key}
use Rattle.first_graph.specs.Marks.{with_in_done, with_out_done}
use Rattle.first_graph.specs.Contents.{row_of, half_of, out_half, in_half}
use Rattle.first_graph.specs.Machine.{Machine, Step, vertex_put}
use Rattle.first_graph.specs.Run.{Run}
use Rattle.first_graph.specs.Laws.{WritesEdge}
use Rattle.first_graph.specs.declared.call.CallState.TheVariants.{Open}
use Rattle.first_graph.proofs.Runs.{Met, Any, kept}
use Rattle.first_graph.proofs.KeyLemmas.{edges_total, edges_exact, ins_total}
use Rattle.first_graph.proofs.Updates.{same_or_apart, with_at_here, with_at_apart, altered_apart}
use Rattle.first_graph.proofs.Inversion.{same_ok}
use Rattle.first_graph.proofs.EqualHalves as halves
use Rattle.first_graph.proofs.EqualHalves.{SoundAt, in_keys_apart}
use Rattle.first_graph.proofs.Held.{Began, invoke_held, begin_held, skip_held, refuse_held, in_held, out_held, settle_held, cancel_held, vertex_held, read_step_held, reply_held}

-- no chain is on the edge, and both halves are n
pub record IsAt (e : EdgeId) (n : Half) (g : Machine) : Type 0 where
  pub free : get g.pend e ≡ None
  pub out : out_half g.contents e ≡ n
  pub inn : in_half g.contents e ≡ n

-- a chain on x is on another edge
apart_from : (g : Machine) (e x : EdgeId) (p : Chain) → get g.pend e ≡ None → get g.pend x ≡ Some p → eq_by_cmp edge_cmp e x ≡ false
apart_from g e x p free found =
    elim (same_or_apart edges_total edges_exact e x) [
      | inl same ↦ (let one : get g.pend e ≡ Some p = ap (get g.pend) same ∙ found in cc)
      | inr a ↦ a
    ]

either_at : (e : EdgeId) (n : Half) (b : Bool) (x y : Machine) → IsAt e n x → IsAt e n y → IsAt e n (if b then x else y)
either_at e n true x y v w = v
either_at e n false x y v w = w

vertex_at : (e : EdgeId) (n : Half) (g : Machine) (id : CallId) (op : Op) (h : Machine) → vertex_put g id op ≡ Ok h → IsAt e n g → IsAt e n h
vertex_at e n g id (PutVertex x t row absent) h is v =
    subst (IsAt e n) (same_ok _ h is) (either_at e n (absent && contains_key g.contents.verts (record { vid = x; tag = t })) _ _ (record { free = v.free; out = v.out; inn = v.inn }) (record { free = v.free; out = v.out; inn = v.inn }))
vertex_at e n g id (DelVertex x) h is v = subst (IsAt e n) (same_ok _ h is) (record { free = v.free; out = v.out; inn = v.inn })
vertex_at e n g id (PutEdge x row absent) h is v = cc
vertex_at e n g id (DelEdge x) h is v = cc
vertex_at e n g id (ReadOp q) h is v = cc

-- the step starts to write, for an open call whose op is of this kind
pub record Writes (does : CallId → GStep) (IsKind : Op → Type 0) (g : Machine) (s : GStep) (h : Machine) : Type 0 where
  pub other : CallId
  pub is : s ≡ does other
  pub call : Call
  pub known : get g.calls other ≡ Some call
  pub open_then : call.state ≡ Open
  pub kind : IsKind call.op

begin_at : (e : EdgeId) (n : Half) (g : Machine) (id : CallId) (h : Machine) → Began g id h → IsAt e n g → IsAt e n h ⊎ Writes Begin (WritesEdge e) g (Begin id) h
begin_at e n g id h t v =
    elim (same_or_apart edges_total edges_exact e t.edge) [
      | inl same ↦ inr (record { other = id; is = refl; call = t.call; known = t.known; open_then = t.open_then; kind = t.aims ∙ ap Some (sym same) })
      | inr a ↦ inl (subst (IsAt e n) (sym t.is) (record { free = with_at_apart edges_total g.pend t.edge (Some (record { id = id; half = t.half; in_done = false; out_done = false })) e a ∙ v.free; out = v.out; inn = v.inn }))
    ]

step_at : (e : EdgeId) (n : Half) (g : Machine) (s : GStep) (h : Machine) → Step g s (Ok h) → IsAt e n g → IsAt e n h ⊎ Writes Begin (WritesEdge e) g s h
step_at e n g (Invoke id op) h is v = let t = invoke_held g id op h is in inl (subst (IsAt e n) (sym t.is) (record { free = v.free; out = v.out; inn = v.inn }))
step_at e n g (Begin id) h is v = begin_at e n g id h (begin_held g id h is) v
step_at e n g (Skip id) h is v = let t = skip_held g id h is in inl (subst (IsAt e n) (sym t.is) (record { free = v.free; out = v.out; inn = v.inn }))
step_at e n g (Refuse id) h is v = let t = refuse_held g id h is in inl (subst (IsAt e n) (sym t.is) (record { free = v.free; out = v.out; inn = v.inn }))
step_at e n g (InHalf x) h is v =
    let t = in_held g x h is in
    let a = apart_from g e x t.chain v.free t.found in
    inl (subst (IsAt e n) (sym t.is) (record {
      free = altered_apart edges_total g.pend x with_in_done e a ∙ v.free;
      out = v.out;
      inn = ap half_of (with_at_apart ins_total g.contents.inn (in_key x) (row_of t.chain.half) (in_key e) (in_keys_apart e x a)) ∙ v.inn;
    }))
step_at e n g (OutHalf x) h is v =
    let t = out_held g x h is in
    let a = apart_from g e x t.chain v.free t.found in
    inl (subst (IsAt e n) (sym t.is) (record {
      free = altered_apart edges_total g.pend x with_out_done e a ∙ v.free;
      out = ap half_of (with_at_apart edges_total g.contents.out x (row_of t.chain.half) e a) ∙ v.out;
      inn = v.inn;
    }))
step_at e n g (Settle x) h is v =
    let t = settle_held g x h is in
    inl (subst (IsAt e n) (sym t.is) (record { free = with_at_apart edges_total g.pend x None e (apart_from g e x t.chain v.free t.found) ∙ v.free; out = v.out; inn = v.inn }))
step_at e n g (Cancel x) h is v =
    let t = cancel_held g x h is in
    inl (subst (IsAt e n) (sym t.is) (record { free = with_at_apart edges_total g.pend x None e (apart_from g e x t.chain v.free t.found) ∙ v.free; out = v.out; inn = v.inn }))
step_at e n g (Vertex id) h is v = let t = vertex_held g id h is in inl (vertex_at e n g id t.call.op h t.put v)
step_at e n g (Read id m) h is v = let t = read_step_held g id m h is in inl (subst (IsAt e n) (sym t.is) (record { free = v.free; out = v.out; inn = v.inn }))
step_at e n g (Reply id a) h is v = let t = reply_held g id a h is in inl (subst (IsAt e n) (sym t.is) (record { free = v.free; out = v.out; inn = v.inn }))

-- both halves stay, or another chain begins on the edge
pub halves_stay : (e : EdgeId) (n : Half) (g : Machine) (steps : List GStep) (h : Machine) → Run g steps h → IsAt e n g → IsAt e n h ⊎ Met (Writes Begin (WritesEdge e)) Any g steps h
halves_stay e n g steps h r v = kept (IsAt e n) (Writes Begin (WritesEdge e)) (step_at e n) g steps h r v

some_same : (p r : Chain) → ◌≡◌ {A = Option Chain} (Some p) (Some r) → p ≡ r
some_same p r e = cc

-- the settle of a chain leaves its half on both sides
pub settled_at : (g : Machine) (e : EdgeId) (p : Chain) (h : Machine) → halves.IsSound g → get g.pend e ≡ Some p → Step g (Settle e) (Ok h) → IsAt e p.half h
settled_at g e p h v found is =
    let t = settle_held g e h is in
    let same = some_same t.chain p (sym t.found ∙ found) in
    let was : SoundAt (Some t.chain) (out_half g.contents e) (in_half g.contents e) = subst (λ x. SoundAt x (out_half g.contents e) (in_half g.contents e)) t.found (v e) in
    let both : halves.Sound true true t.chain.half (out_half g.contents e) (in_half g.contents e) =
    subst (λ b. halves.Sound true b t.chain.half (out_half g.contents e) (in_half g.contents e)) t.out_done
    (subst (λ b. halves.Sound b t.chain.out_done t.chain.half (out_half g.contents e) (in_half g.contents e)) t.in_done was) in
    subst (IsAt e p.half) (sym t.is) (record { free = with_at_here edges_total g.pend e None; out = both.0 ∙ ap (λ x. x.half) same; inn = both.1 ∙ ap (λ x. x.half) same })
