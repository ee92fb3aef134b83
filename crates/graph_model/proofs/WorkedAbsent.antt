-- IF NOT EXISTS, worked by hand.
use Rattle.std.proofs.Common.{◌≡◌, inl, inr, pos, List, [], ◌∷◌, Option, Some, None, Ok, true, false, refl, ap, sym, ◌∙◌}
use Rattle.std.specs.Prelude.{not, ◌&&◌, cond, is_some}
use Rattle.std.specs.FinMap.{FinMap, get, contains_key, empty, get-empty}
use Rattle.graph_model.specs.declared.val.Val.{Val}
use Rattle.graph_model.specs.declared.edge_id.EdgeId.{EdgeId}
use Rattle.graph_model.specs.declared.half.Half.{Half}
use Rattle.graph_model.specs.declared.half.Half.TheVariants.{Here}
use Rattle.graph_model.specs.declared.call_id.CallId.{CallId}
use Rattle.graph_model.specs.declared.answer.Answer.TheVariants.{Fine}
use Rattle.graph_model.specs.declared.call.CallState.TheVariants.{Open, Begun, Done}
use Rattle.graph_model.specs.declared.call.Call.{Call}
use Rattle.graph_model.specs.declared.chain.Chain.{Chain}
use Rattle.graph_model.specs.declared.graph_step.GStep.TheVariants.{Invoke, Begin}
use Rattle.graph_model.specs.Keys.{edge_cmp, call_cmp}
use Rattle.graph_model.specs.Ops.{edges_of}
use Rattle.graph_model.specs.State.{GraphState, with_state, with_shown, with_said, with_in_done, with_out_done}
use Rattle.graph_model.specs.Lookups.{takes_of}
use Rattle.graph_model.specs.Steps.{step}
use Rattle.graph_model.specs.After.{after_invoke, after_begin}
use Rattle.graph_model.specs.Worked.{edge, row, call, careful, WorkedAbsent}
use Rattle.maps.specs.Maps.{altered}
use Rattle.maps.specs.Lists.{missing}
use Rattle.maps.proofs.Keys.{same_or_apart}
use Rattle.maps.proofs.Updates.{insert_here, insert_apart, remove_here, remove_apart, altered_apart}
use Rattle.maps.proofs.Writing.{get-with_all}
use Rattle.graph_model.proofs.KeyLemmas.{call_keys, edge_keys}
use Rattle.graph_model.proofs.Pending.{none_pending, each_free}
use Rattle.graph_model.proofs.Calls.{invoke_taken, begin_taken}
use Rattle.graph_model.proofs.Worked.{g1, g2, g3, g4, g5, g6, asked, begun, made, began, shown, answered, followed, settled, no_chain}

-- behind the first run client 2 makes a careful call
abbrev g7 : GraphState
g7 = after_invoke g6 (call 2) careful

abbrev asked_3 : Call
asked_3 = record { op = careful; moment = 7; state = Open; shown = false; said = false }

abbrev apart : (calls : FinMap call_cmp Call) (f : Call → Call) → get (altered calls (call 1) f) (call 2) ≡ get calls (call 2)
apart calls f = altered_apart call_keys calls (call 1) f (call 2) refl

careful_made : step g6 (Invoke (call 2) careful) ≡ Ok g7
careful_made = invoke_taken g6 (call 2) careful (record {
  fresh = apart g5.calls (with_state (Done Fine)) ∙ apart g3.calls with_said ∙ apart g2.calls with_shown ∙ apart g1.calls (with_state Begun) ∙ insert_apart call_keys empty (call 1) asked (call 2) refl ∙ get-empty call_cmp (call 2);
})

known_7 : get g7.calls (call 2) ≡ Some asked_3
known_7 = insert_here call_keys g6.calls (call 2) asked_3

none_left : (id : CallId) (c : Chain) → get g7.pend id ≡ Some c → ⊥
none_left id c f = elim (same_or_apart call_keys id (call 1)) as (λ _. ⊥) [
  | inl same ↦ (let clash : ◌≡◌ {A = Option Chain} None (Some c) = sym (remove_here call_keys g5.pend (call 1)) ∙ ap (get g7.pend) (sym same) ∙ f in cc)
  | inr off ↦ no_chain id c (sym (remove_apart call_keys g5.pend (call 1) id off ∙ altered_apart call_keys g4.pend (call 1) with_in_done id off
      ∙ altered_apart call_keys g2.pend (call 1) with_out_done id off ∙ insert_apart call_keys empty (call 1) begun id off) ∙ f)
]

-- the rows that the first chain wrote
abbrev rows : List (EdgeId × Option (List Val))
rows = (edge (pos 1) (pos 2), Some (row (pos 90))) ∷ (edge (pos 1) (pos 4), Some (row (pos 91))) ∷ []

-- 1->2 has a row, 1->3 has none
has_two : contains_key g7.contents.out (edge (pos 1) (pos 2)) ≡ true
has_two = ap is_some (get-with_all edge_keys empty rows (edge (pos 1) (pos 2)))

no_three : contains_key g7.contents.out (edge (pos 1) (pos 3)) ≡ false
no_three = ap is_some (get-with_all edge_keys empty rows (edge (pos 1) (pos 3)) ∙ get-empty edge_cmp (edge (pos 1) (pos 3)))

abbrev three : EdgeId × Half
three = (edge (pos 1) (pos 3), Here (row (pos 6)))

left : takes_of g7.contents careful ≡ three ∷ []
left = ap (λ b. cond (not b) ((edge (pos 1) (pos 2), Here (row (pos 5))) ∷ missing g7.contents.out (three ∷ [])) (missing g7.contents.out (three ∷ []))) has_two ∙ ap (λ b. cond (not b) (three ∷ []) []) no_three

careful_began : step g7 (Begin (call 2)) ≡ Ok (after_begin g7 (call 2) careful)
careful_began = begin_taken g7 (call 2) (record {
  call = asked_3;
  known = known_7;
  open_then = refl;
  on_edges = refl;
  free = each_free g7 (edges_of careful) (λ e k. none_pending g7 e (λ id c f. absurd (none_left id c f)));
  one_absent = ap (λ b. b && (contains_key g7.contents.out (edge (pos 1) (pos 3)) && true)) has_two ∙ ap (λ b. b && true) no_three;
})

pub worked_absent : WorkedAbsent
worked_absent = record {
  g = after_begin g7 (call 2) careful;
  run = (g1, made, (g2, began, (g3, shown, (g4, answered, (g5, followed, (g6, settled, (g7, careful_made, (after_begin g7 (call 2) careful, careful_began, refl))))))));
  chain = insert_here call_keys g6.pend (call 2) _ ∙ ap (λ l. Some (record { list = l; in_done = false; out_done = false })) left;
}
