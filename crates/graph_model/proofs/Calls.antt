-- When a step on a call is taken, and what it leaves: a record a step with its conditions, in the table's order.
use Rattle.std.proofs.Common.{◌≡◌, Option, Some, None, Ok, Bool, true, false, sym, ap, ◌∙◌}
use Rattle.std.specs.Prelude.{not, ◌&&◌, is_some}
use Rattle.std.specs.FinMap.{get, insert}
use Rattle.std.specs.Option.{unwrap_or}
use Rattle.graph_model.specs.declared.call_id.CallId.{CallId}
use Rattle.graph_model.specs.declared.op.Op.{Op}
use Rattle.graph_model.specs.declared.answer.Answer.TheVariants.{Conflict}
use Rattle.graph_model.specs.declared.call.CallState.TheVariants.{Open, Begun, Done}
use Rattle.graph_model.specs.declared.call.Call.{Call}
use Rattle.graph_model.specs.declared.graph_step.GStep.TheVariants.{Invoke, Begin, Skip, Refuse}
use Rattle.graph_model.specs.Ops.{edges_in, edges_of, is_edge_op, is_careful}
use Rattle.graph_model.specs.State.{GraphState, first_pending}
use Rattle.graph_model.specs.Lookups.{holds_of, halves_at, takes_at}
use Rattle.graph_model.specs.Steps.{step, noted, moved}
use Rattle.graph_model.specs.After.{after_invoke, after_begin, after_skip, after_refuse}
use Rattle.maps.specs.Lists.{has_all}
use Rattle.graph_model.proofs.Taking.{taken, held, not_there, there, not_true, of_known, open_known, open_call}
pub use Rattle.graph_model.proofs.Telling.{MayVertex, vertex_taken, vertex_held, MayRead, read_taken, read_held, MayReply, reply_taken, reply_held}

-- Invoke

pub record MayInvoke (g : GraphState) (id : CallId) (op : Op) : Type 0 where
  pub fresh : get g.calls id ≡ None

pub invoke_taken : (g : GraphState) (id : CallId) (op : Op) → MayInvoke g id op → step g (Invoke id op) ≡ Ok (after_invoke g id op)
invoke_taken g id op may = taken g (Invoke id op) (ap (λ c. not (is_some c)) may.fresh, tt)

pub invoke_held : (g : GraphState) (id : CallId) (op : Op) (h : GraphState) → step g (Invoke id op) ≡ Ok h → MayInvoke g id op × (h ≡ after_invoke g id op)
invoke_held g id op h e = let a = held g (Invoke id op) h e in (record { fresh = not_there _ a.0.0 }, a.1)

-- Begin

pub record MayBegin (g : GraphState) (id : CallId) : Type 0 where
  pub call : Call
  pub known : get g.calls id ≡ Some call
  pub open_then : call.state ≡ Open
  pub on_edges : is_edge_op call.op ≡ true
  pub free : first_pending g (edges_of call.op) ≡ None
  pub one_absent : (is_careful call.op && has_all g.contents.out (edges_of call.op)) ≡ false

-- what Begin leaves, by the call that is found
abbrev begins_with : GraphState → CallId → Option Call → GraphState
begins_with g id o = noted g (record (moved g id Begun) { pend = insert g.pend id (record { list = takes_at g.contents o; in_done = false; out_done = false }) })

-- whether the call is careful and all its edges are there
abbrev is_whole : GraphState → Option Call → Bool
is_whole g o = holds_of (λ c. is_careful c.op) o && has_all g.contents.out (edges_in (halves_at o))

abbrev pending_for : GraphState → Option Call → Option CallId
pending_for g o = first_pending g (edges_in (halves_at o))

pub begin_taken : (g : GraphState) (id : CallId) (may : MayBegin g id) → step g (Begin id) ≡ Ok (after_begin g id may.call.op)
begin_taken g id may =
    taken g (Begin id) (
      open_known _ may.call may.known may.open_then,
      (
        of_known (λ c. is_edge_op c.op) _ may.call may.known ∙ may.on_edges,
        (
          ap (λ o. not (is_some (pending_for g o))) may.known ∙ ap (λ o. not (is_some o)) may.free,
          (
            ap (λ o. not (is_whole g o)) may.known ∙ ap not may.one_absent,
            tt,
          ),
        ),
      ),
    )
    ∙ ap (λ o. Ok (begins_with g id o)) may.known

pub begin_held : (g : GraphState) (id : CallId) (h : GraphState) → step g (Begin id) ≡ Ok h → (may : MayBegin g id) × (h ≡ after_begin g id may.call.op)
begin_held g id h e =
    let a = held g (Begin id) h e in
    let c = open_call g id a.0.0 in (
      record {
        call = c.call;
        known = c.known;
        open_then = c.open_then;
        on_edges = sym (of_known (λ x. is_edge_op x.op) _ c.call c.known) ∙ a.0.1.0;
        free = not_there _ (sym (ap (λ o. not (is_some (pending_for g o))) c.known) ∙ a.0.1.1.0);
        one_absent = not_true _ (sym (ap (λ o. not (is_whole g o)) c.known) ∙ a.0.1.1.1.0);
      },
      a.1 ∙ ap (begins_with g id) c.known,
    )

-- Skip

pub record MaySkip (g : GraphState) (id : CallId) : Type 0 where
  pub call : Call
  pub known : get g.calls id ≡ Some call
  pub open_then : call.state ≡ Open
  pub careful : is_careful call.op ≡ true
  pub free : first_pending g (edges_of call.op) ≡ None
  pub all_here : has_all g.contents.out (edges_of call.op) ≡ true

pub skip_taken : (g : GraphState) (id : CallId) → MaySkip g id → step g (Skip id) ≡ Ok (after_skip g id)
skip_taken g id may =
    taken g (Skip id) (
      open_known _ may.call may.known may.open_then,
      (
        of_known (λ c. is_careful c.op) _ may.call may.known ∙ may.careful,
        (
          ap (λ o. not (is_some (pending_for g o))) may.known ∙ ap (λ o. not (is_some o)) may.free,
          (
            ap (λ o. has_all g.contents.out (edges_in (halves_at o))) may.known ∙ may.all_here,
            tt,
          ),
        ),
      ),
    )

pub skip_held : (g : GraphState) (id : CallId) (h : GraphState) → step g (Skip id) ≡ Ok h → MaySkip g id × (h ≡ after_skip g id)
skip_held g id h e =
    let a = held g (Skip id) h e in
    let c = open_call g id a.0.0 in (
      record {
        call = c.call;
        known = c.known;
        open_then = c.open_then;
        careful = sym (of_known (λ x. is_careful x.op) _ c.call c.known) ∙ a.0.1.0;
        free = not_there _ (sym (ap (λ o. not (is_some (pending_for g o))) c.known) ∙ a.0.1.1.0);
        all_here = sym (ap (λ o. has_all g.contents.out (edges_in (halves_at o))) c.known) ∙ a.0.1.1.1.0;
      },
      a.1,
    )

-- Refuse

pub record MayRefuse (g : GraphState) (id : CallId) : Type 0 where
  pub call : Call
  pub known : get g.calls id ≡ Some call
  pub open_then : call.state ≡ Open
  pub on_edges : is_edge_op call.op ≡ true
  pub other : CallId
  pub pending : first_pending g (edges_of call.op) ≡ Some other

-- what Refuse leaves, by the id that is found pending
abbrev refuses_with : GraphState → CallId → Option CallId → GraphState
refuses_with g id o = noted g (moved g id (Done (Conflict (unwrap_or o id))))

pub refuse_taken : (g : GraphState) (id : CallId) (may : MayRefuse g id) → step g (Refuse id) ≡ Ok (after_refuse g id may.other)
refuse_taken g id may =
    let pending = ap (pending_for g) may.known ∙ may.pending in
    taken g (Refuse id) (
      open_known _ may.call may.known may.open_then,
      (
        of_known (λ c. is_edge_op c.op) _ may.call may.known ∙ may.on_edges,
        (
          ap is_some pending,
          tt,
        ),
      ),
    )
    ∙ ap (λ o. Ok (refuses_with g id o)) pending

pub refuse_held : (g : GraphState) (id : CallId) (h : GraphState) → step g (Refuse id) ≡ Ok h → (may : MayRefuse g id) × (h ≡ after_refuse g id may.other)
refuse_held g id h e =
    let a = held g (Refuse id) h e in
    let c = open_call g id a.0.0 in
    let p = there (pending_for g (get g.calls id)) a.0.1.1.0 in (
      record {
        call = c.call;
        known = c.known;
        open_then = c.open_then;
        on_edges = sym (of_known (λ x. is_edge_op x.op) _ c.call c.known) ∙ a.0.1.0;
        other = p.0;
        pending = sym (ap (pending_for g) c.known) ∙ p.1;
      },
      a.1 ∙ ap (refuses_with g id) p.1,
    )
