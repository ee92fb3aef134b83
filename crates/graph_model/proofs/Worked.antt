-- The runs worked by hand.
use Rattle.std.proofs.Common.{◌≡◌, inl, inr, pos, List, [], ◌∷◌, Option, Some, None, Ok, Err, true, false, refl, ap, sym, ◌∙◌}
use Rattle.std.specs.Prelude.{not, ◌&&◌, is_some}
use Rattle.std.specs.Option.{option_map, option_or}
use Rattle.std.specs.FinMap.{get, contains_key, empty, get-empty}
use Rattle.graph_model.specs.declared.edge_id.EdgeId.{EdgeId}
use Rattle.graph_model.specs.declared.half.Half.{Half}
use Rattle.graph_model.specs.declared.half.Half.TheVariants.{Here}
use Rattle.graph_model.specs.declared.call_id.CallId.{CallId}
use Rattle.graph_model.specs.declared.answer.Answer.TheVariants.{Pending, Conflict}
use Rattle.graph_model.specs.declared.call.CallState.TheVariants.{Open, Begun, Done}
use Rattle.graph_model.specs.declared.call.Call.{Call}
use Rattle.graph_model.specs.declared.chain.Chain.{Chain}
use Rattle.graph_model.specs.declared.graph_step.GStep.TheVariants.{Invoke, Begin, Refuse, InHalf, OutHalf, Settle, Cancel, Reply}
use Rattle.graph_model.specs.declared.misfit.Misfit.TheVariants.{NotOpen, WrongKind, EdgePending, NotPending, RowThere, HalfMissing, HalfDone}
use Rattle.graph_model.specs.Keys.{in_cmp, call_cmp, in_key}
use Rattle.graph_model.specs.Ops.{edges_in, edges_of, is_edge_op, is_careful}
use Rattle.graph_model.specs.Contents.{half_of}
use Rattle.graph_model.specs.State.{GraphState, start, is_on, pending_on, first_pending, with_state, with_shown, with_in_done, with_out_done}
use Rattle.graph_model.specs.Lookups.{is_open, does, halves_at, edges, in_done, out_done, is_in_done, is_out_done}
use Rattle.graph_model.specs.Steps.{step}
use Rattle.graph_model.specs.After.{after_invoke, after_begin, after_refuse, after_out, after_in, after_settle, after_reply}
use Rattle.graph_model.specs.Worked.{edge, row, call, two, other, WorkedChain, WorkedConflict}
use Rattle.maps.specs.Lists.{has_all}
use Rattle.maps.proofs.Keys.{same_or_apart}
use Rattle.maps.proofs.Updates.{insert_here, insert_apart, altered_here, altered_apart}
use Rattle.graph_model.proofs.KeyLemmas.{call_keys}
use Rattle.graph_model.proofs.Taking.{failed, of_known, open_known}
use Rattle.graph_model.proofs.Even.{chain_same}
use Rattle.graph_model.proofs.Pending.{none_pending, each_free, one_pending}
use Rattle.graph_model.proofs.Halves.{out_at, in_at}
use Rattle.graph_model.proofs.Calls.{invoke_taken, begin_taken, refuse_taken, reply_taken}
use Rattle.graph_model.proofs.Pends.{in_taken, out_taken, settle_taken}

abbrev pub list : List (EdgeId × Half)
list = (edge (pos 1) (pos 2), Here (row (pos 90))) ∷ (edge (pos 1) (pos 4), Here (row (pos 91))) ∷ []

-- the states of the first run, one behind each step
abbrev pub g1 : GraphState
g1 = after_invoke start (call 1) two

abbrev pub g2 : GraphState
g2 = after_begin g1 (call 1) two

abbrev pub g3 : GraphState
g3 = after_out g2 (call 1) list

abbrev pub g4 : GraphState
g4 = after_reply g3 (call 1)

abbrev pub g5 : GraphState
g5 = after_in g4 (call 1) list

abbrev pub g6 : GraphState
g6 = after_settle g5 (call 1)

-- the call and the chain of client 1
abbrev pub asked : Call
asked = record { op = two; moment = 1; state = Open; shown = false; said = false }

abbrev pub begun : Chain
begun = record { list = list; in_done = false; out_done = false }

pub made : step start (Invoke (call 1) two) ≡ Ok g1
made = invoke_taken start (call 1) two (record { fresh = get-empty call_cmp (call 1) })

known_1 : get g1.calls (call 1) ≡ Some asked
known_1 = insert_here call_keys empty (call 1) asked

pub no_chain : (id : CallId) (c : Chain) → get (empty {X = Chain} {R = call_cmp}) id ≡ Some c → ⊥
no_chain id c f = let clash : ◌≡◌ {A = Option Chain} None (Some c) = sym (get-empty call_cmp id) ∙ f in cc

pub began : step g1 (Begin (call 1)) ≡ Ok g2
began = begin_taken g1 (call 1) (record {
  call = asked;
  known = known_1;
  open_then = refl;
  on_edges = refl;
  free = each_free g1 (edges_of two) (λ e k. none_pending g1 e (λ id c f. absurd (no_chain id c f)));
  one_absent = refl;
})

known_2 : get g2.calls (call 1) ≡ Some (with_state Begun asked)
known_2 = altered_here call_keys g1.calls (call 1) (with_state Begun) ∙ ap (option_map (with_state Begun)) known_1

found_2 : get g2.pend (call 1) ≡ Some begun
found_2 = insert_here call_keys empty (call 1) begun

pub shown : step g2 (OutHalf (call 1)) ≡ Ok g3
shown = out_taken g2 (call 1) (record { chain = begun; found = found_2; undone = refl })

known_3 : get g3.calls (call 1) ≡ Some (with_shown (with_state Begun asked))
known_3 = altered_here call_keys g2.calls (call 1) with_shown ∙ ap (option_map with_shown) known_2

found_3 : get g3.pend (call 1) ≡ Some (with_out_done begun)
found_3 = altered_here call_keys g2.pend (call 1) with_out_done ∙ ap (option_map with_out_done) found_2

pub answered : step g3 (Reply (call 1) Pending) ≡ Ok g4
answered = reply_taken g3 (call 1) Pending (record { call = with_shown (with_state Begun asked); known = known_3; unsaid = refl; right = refl })

pub followed : step g4 (InHalf (call 1)) ≡ Ok g5
followed = in_taken g4 (call 1) (record { chain = with_out_done begun; found = found_3; undone = refl })

pub settled : step g5 (Settle (call 1)) ≡ Ok g6
settled = settle_taken g5 (call 1) (record {
  chain = with_in_done (with_out_done begun);
  found = altered_here call_keys g4.pend (call 1) with_in_done ∙ ap (option_map with_in_done) found_3;
  in_then = refl;
  out_then = refl;
})

pub worked_chain : WorkedChain
worked_chain = record {
  g = g6;
  run = (g1, made, (g2, began, (g3, shown, (g4, answered, (g5, followed, (g6, settled, refl))))));
  out_then = out_at g2.contents list (edge (pos 1) (pos 4));
  in_then = ap half_of (get-empty in_cmp (in_key (edge (pos 1) (pos 4))));
  out_now = out_at g2.contents list (edge (pos 1) (pos 2));
  in_now = in_at g4.contents list (edge (pos 1) (pos 4));
}

-- behind the first call's OutHalf client 2 makes a call
abbrev met : GraphState
met = after_invoke g3 (call 2) other

abbrev asked_2 : Call
asked_2 = record { op = other; moment = 4; state = Open; shown = false; said = false }

met_made : step g3 (Invoke (call 2) other) ≡ Ok met
met_made = invoke_taken g3 (call 2) other (record {
  fresh = altered_apart call_keys g2.calls (call 1) with_shown (call 2) refl ∙ altered_apart call_keys g1.calls (call 1) (with_state Begun) (call 2) refl
      ∙ insert_apart call_keys empty (call 1) asked (call 2) refl ∙ get-empty call_cmp (call 2);
})

known_met : get met.calls (call 2) ≡ Some asked_2
known_met = insert_here call_keys g3.calls (call 2) asked_2

-- the chain of client 1 is the only one
only : (id : CallId) (c : Chain) → get g3.pend id ≡ Some c → (id ≡ call 1) × (c ≡ with_out_done begun)
only id c f = elim (same_or_apart call_keys id (call 1)) as (λ _. (id ≡ call 1) × (c ≡ with_out_done begun)) [
  | inl same ↦ (same, chain_same c (with_out_done begun) (sym f ∙ ap (get g3.pend) same ∙ found_3))
  | inr apart ↦ absurd (no_chain id c (sym (altered_apart call_keys g2.pend (call 1) with_out_done id apart ∙ insert_apart call_keys empty (call 1) begun id apart) ∙ f))
]

pending : first_pending met (edges_of other) ≡ Some (call 1)
pending =
    ap (λ o. option_or o (option_or (pending_on met (edge (pos 1) (pos 4))) None)) (none_pending met (edge (pos 1) (pos 3)) (λ id c f. ap (is_on (edge (pos 1) (pos 3))) (only id c f).1))
    ∙ ap (λ o. option_or o None) (one_pending met (edge (pos 1) (pos 4)) (call 1) (with_out_done begun) found_3 refl (λ id c f on. (only id c f).0))

open_met : is_open met (call 2) ≡ true
open_met = open_known _ asked_2 known_met refl

-- the conditions of Begin up to EdgePending
no_begin : step met (Begin (call 2)) ≡ Err EdgePending
no_begin =
    failed ((is_open met (call 2), NotOpen) ∷ (does met (call 2) is_edge_op, WrongKind) ∷ []) (not (is_some (first_pending met (edges met (call 2)))), EdgePending)
    ((not (does met (call 2) is_careful && has_all met.contents.out (edges met (call 2))), RowThere) ∷ []) _
    (open_met, (of_known (λ c. is_edge_op c.op) _ asked_2 known_met, tt))
    (ap (λ o. not (is_some (first_pending met (edges_in (halves_at o))))) known_met ∙ ap (λ o. not (is_some o)) pending)

no_settle : step met (Settle (call 1)) ≡ Err HalfMissing
no_settle = failed ((contains_key met.pend (call 1), NotPending) ∷ []) (in_done met (call 1) && out_done met (call 1), HalfMissing) [] _ (ap is_some found_3, tt) (ap (λ o. is_in_done o && is_out_done o) found_3)

no_cancel : step met (Cancel (call 1)) ≡ Err HalfDone
no_cancel = failed ((contains_key met.pend (call 1), NotPending) ∷ []) (not (in_done met (call 1)) && not (out_done met (call 1)), HalfDone) [] _ (ap is_some found_3, tt) (ap (λ o. not (is_in_done o) && not (is_out_done o)) found_3)

abbrev refusal : GraphState
refusal = after_refuse met (call 2) (call 1)

is_refused : step met (Refuse (call 2)) ≡ Ok refusal
is_refused = refuse_taken met (call 2) (record { call = asked_2; known = known_met; open_then = refl; on_edges = refl; other = call 1; pending = pending })

told : step refusal (Reply (call 2) (Conflict (call 1))) ≡ Ok (after_reply refusal (call 2))
told = reply_taken refusal (call 2) (Conflict (call 1)) (record {
  call = with_state (Done (Conflict (call 1))) asked_2;
  known = altered_here call_keys met.calls (call 2) (with_state (Done (Conflict (call 1)))) ∙ ap (option_map (with_state (Done (Conflict (call 1))))) known_met;
  unsaid = refl;
  right = refl;
})

pub worked_conflict : WorkedConflict
worked_conflict = record {
  g = met;
  run = (g1, made, (g2, began, (g3, shown, (met, met_made, refl))));
  no_begin = no_begin;
  no_settle = no_settle;
  no_cancel = no_cancel;
  h = after_reply refusal (call 2);
  refused = (refusal, is_refused, (after_reply refusal (call 2), told, refl));
}
