-- What a machine tells of the steps that led to it: which of them made a call known, began a chain, ended a call with Fine.
use Rattle.std.proofs.Common.{◌≡◌, ◌⊎◌, inl, inr, ◌+◌, length, List, Option, Some, None, Ok, false, refl, ap, sym, subst, ◌∙◌}
use Rattle.std.specs.Option.{option_map}
use Rattle.std.specs.FinMap.{get, insert, remove, get-empty}
use Rattle.std.specs.Ordering.{eq_by_cmp}
use Rattle.first_graph.specs.declared.call_id.CallId.{CallId}
use Rattle.first_graph.specs.declared.edge_id.EdgeId.{EdgeId}
use Rattle.first_graph.specs.declared.half.Half.{Half}
use Rattle.first_graph.specs.declared.op.Op.{Op}
use Rattle.first_graph.specs.declared.answer.Answer.TheVariants.{Fine, Pending, Cancelled}
use Rattle.first_graph.specs.declared.call.CallState.TheVariants.{Open, Begun, Done}
use Rattle.first_graph.specs.declared.call.Call.{Call}
use Rattle.first_graph.specs.declared.chain.Chain.{Chain}
use Rattle.first_graph.specs.declared.graph_step.GStep.{GStep}
use Rattle.first_graph.specs.declared.graph_step.GStep.TheVariants.{Invoke, Begin, Skip, Refuse, InHalf, OutHalf, Settle, Cancel, Vertex, Read, Reply}
use Rattle.first_graph.specs.Keys.{call_cmp, edge_cmp}
use Rattle.first_graph.specs.Maps.{altered}
use Rattle.first_graph.specs.Marks.{with_state, with_shown, with_said, with_in_done, with_out_done}
use Rattle.first_graph.specs.Machine.{Machine, Step, IsRightAt, start}
use Rattle.first_graph.specs.Run.{Run, half_of_op}
use Rattle.first_graph.proofs.KeyLemmas.{calls_total, calls_exact, edges_total}
use Rattle.first_graph.proofs.Updates.{same_or_apart, not_apart, with_at_here, with_at_apart, altered_here, altered_apart}
use Rattle.first_graph.proofs.Once.{by_key, vertex_calls, calls_of}
use Rattle.first_graph.proofs.Never.{Calls, Pend, At, by_edge, vertex_pend}
use Rattle.first_graph.proofs.Runs.{Met, Any, came}
use Rattle.first_graph.proofs.Held.{invoke_held, begin_held, skip_held, refuse_held, in_held, out_held, settle_held, cancel_held, vertex_held, read_step_held, reply_held}

mapped_back : (P : Call → Type 0) (f : Call → Call) (o : Option Call) → ((call : Call) → P (f call) → P call) → At P (option_map f o) → At P o
mapped_back P f None back p = p
mapped_back P f (Some call) back p = back call p

altered_back : (P : Call → Type 0) (calls : Calls) (k : CallId) (f : Call → Call) (id : CallId) → ((call : Call) → P (f call) → P call) → At P (get (altered calls k f) id) → At P (get calls id)
altered_back P calls k f id back p =
    by_key (λ q. At P (get (altered calls k f) q) → At P (get calls q)) k id
    (λ w. mapped_back P f (get calls k) back (subst (At P) (altered_here calls_total calls k f) w))
    (λ a w. subst (At P) (altered_apart calls_total calls k f id a) w) p

calls_now : (P : Call → Type 0) (id : CallId) (m n : Calls) → m ≡ n → At P (get m id) → At P (get n id)
calls_now P id m n e p = subst (λ c. At P (get c id)) e p

abbrev pub OpIs : Op → Call → Type 0
OpIs op call = call.op ≡ op

-- the step that makes a call known with this op
abbrev pub Invokes : CallId → Op → Machine → GStep → Machine → Type 0
Invokes id op g s h = s ≡ Invoke id op

known_back : (id : CallId) (op : Op) (g : Machine) (s : GStep) (h : Machine) → Step g s (Ok h) → At (OpIs op) (get h.calls id) → (At (OpIs op) (get g.calls id) × Any s) ⊎ Invokes id op g s h
known_back id op g (Invoke k o) h e p =
    let t = invoke_held g k o h e in
    let new : Call = record { op = o; moment = length g.past + 1; state = Open; shown = false; said = false } in
    by_key (λ q. At (OpIs op) (get (insert g.calls k new) q) → (At (OpIs op) (get g.calls q) × Any (Invoke k o)) ⊎ Invokes q op g (Invoke k o) h) k id
    (λ w. inr (ap (Invoke k) (subst (At (OpIs op)) (with_at_here calls_total g.calls k (Some new)) w)))
    (λ a w. inl (subst (At (OpIs op)) (with_at_apart calls_total g.calls k (Some new) id a) w, tt))
    (calls_now (OpIs op) id _ _ (calls_of h _ t.is) p)
known_back id op g (Begin k) h e p = inl (altered_back (OpIs op) g.calls k (with_state Begun) id (λ call w. w) (calls_now (OpIs op) id _ _ (calls_of h _ (begin_held g k h e).is) p), tt)
known_back id op g (Skip k) h e p = let t = skip_held g k h e in inl (altered_back (OpIs op) g.calls k (with_state (Done t.answer)) id (λ call w. w) (calls_now (OpIs op) id _ _ (calls_of h _ t.is) p), tt)
known_back id op g (Refuse k) h e p = let t = refuse_held g k h e in inl (altered_back (OpIs op) g.calls k (with_state (Done t.answer)) id (λ call w. w) (calls_now (OpIs op) id _ _ (calls_of h _ t.is) p), tt)
known_back id op g (InHalf x) h e p = inl (calls_now (OpIs op) id _ _ (calls_of h _ (in_held g x h e).is) p, tt)
known_back id op g (OutHalf x) h e p = let t = out_held g x h e in inl (altered_back (OpIs op) g.calls t.chain.id with_shown id (λ call w. w) (calls_now (OpIs op) id _ _ (calls_of h _ t.is) p), tt)
known_back id op g (Settle x) h e p = let t = settle_held g x h e in inl (altered_back (OpIs op) g.calls t.chain.id (with_state (Done Fine)) id (λ call w. w) (calls_now (OpIs op) id _ _ (calls_of h _ t.is) p), tt)
known_back id op g (Cancel x) h e p = let t = cancel_held g x h e in inl (altered_back (OpIs op) g.calls t.chain.id (with_state (Done Cancelled)) id (λ call w. w) (calls_now (OpIs op) id _ _ (calls_of h _ t.is) p), tt)
known_back id op g (Vertex k) h e p = let t = vertex_held g k h e in let w = vertex_calls g k t.call.op h t.put in inl (altered_back (OpIs op) g.calls k (with_state (Done w.0)) id (λ call v. v) (calls_now (OpIs op) id _ _ w.1 p), tt)
known_back id op g (Read k m) h e p = let t = read_step_held g k m h e in inl (altered_back (OpIs op) g.calls k (with_state (Done t.answer)) id (λ call w. w) (calls_now (OpIs op) id _ _ (calls_of h _ t.is) p), tt)
known_back id op g (Reply k a) h e p = inl (altered_back (OpIs op) g.calls k with_said id (λ call w. w) (calls_now (OpIs op) id _ _ (calls_of h _ (reply_held g k a h e).is) p), tt)

none_at_start : (P : Call → Type 0) (id : CallId) → At P (get start.calls id) → ⊥
none_at_start P id p = subst (At P) (get-empty call_cmp id) p

-- a known call was invoked
pub known_came : (steps : List GStep) (h : Machine) (id : CallId) (op : Op) → Run start steps h → At (OpIs op) (get h.calls id) → Met (Invokes id op) Any start steps h
known_came steps h id op r p =
    elim (came (λ m. At (OpIs op) (get m.calls id)) (Invokes id op) Any (known_back id op) start steps h r p) [
      | inl was ↦ absurd (none_at_start (OpIs op) id was.0)
      | inr met ↦ met
    ]

abbrev pub IsFine : Call → Type 0
IsFine call = call.state ≡ Done Fine

-- the step that ends a call with Fine: the Settle of its chain, or its Vertex
abbrev pub EndsFine : CallId → Machine → GStep → Machine → Type 0
EndsFine id g s h = At IsFine (get h.calls id) × (((e : EdgeId) × (chain : Chain) × (s ≡ Settle e) × (get g.pend e ≡ Some chain) × (chain.id ≡ id)) ⊎ (s ≡ Vertex id))

fine_back : (id : CallId) (g : Machine) (s : GStep) (h : Machine) → Step g s (Ok h) → At IsFine (get h.calls id) → (At IsFine (get g.calls id) × Any s) ⊎ EndsFine id g s h
fine_back id g (Invoke k o) h e p =
    let t = invoke_held g k o h e in
    let new : Call = record { op = o; moment = length g.past + 1; state = Open; shown = false; said = false } in
    by_key (λ q. At IsFine (get (insert g.calls k new) q) → (At IsFine (get g.calls q) × Any (Invoke k o)) ⊎ EndsFine q g (Invoke k o) h) k id
    (λ w. absurd (let z : Open ≡ Done Fine = subst (At IsFine) (with_at_here calls_total g.calls k (Some new)) w in cc))
    (λ a w. inl (subst (At IsFine) (with_at_apart calls_total g.calls k (Some new) id a) w, tt))
    (calls_now IsFine id _ _ (calls_of h _ t.is) p)
fine_back id g (Begin k) h e p = inl (altered_back IsFine g.calls k (with_state Begun) id (λ call w. cc) (calls_now IsFine id _ _ (calls_of h _ (begin_held g k h e).is) p), tt)
fine_back id g (Skip k) h e p = let t = skip_held g k h e in inl (altered_back IsFine g.calls k (with_state (Done t.answer)) id (λ call w. absurd (t.unfine cc)) (calls_now IsFine id _ _ (calls_of h _ t.is) p), tt)
fine_back id g (Refuse k) h e p = let t = refuse_held g k h e in inl (altered_back IsFine g.calls k (with_state (Done t.answer)) id (λ call w. absurd (t.unfine cc)) (calls_now IsFine id _ _ (calls_of h _ t.is) p), tt)
fine_back id g (InHalf x) h e p = inl (calls_now IsFine id _ _ (calls_of h _ (in_held g x h e).is) p, tt)
fine_back id g (OutHalf x) h e p = let t = out_held g x h e in inl (altered_back IsFine g.calls t.chain.id with_shown id (λ call w. w) (calls_now IsFine id _ _ (calls_of h _ t.is) p), tt)
fine_back id g (Settle x) h e p =
    let t = settle_held g x h e in
    elim (same_or_apart calls_total calls_exact id t.chain.id) [
      | inl same ↦ inr (p, inl (x, t.chain, refl, t.found, sym same))
      | inr a ↦ inl (subst (At IsFine) (altered_apart calls_total g.calls t.chain.id (with_state (Done Fine)) id a) (calls_now IsFine id _ _ (calls_of h _ t.is) p), tt)
    ]
fine_back id g (Cancel x) h e p = let t = cancel_held g x h e in inl (altered_back IsFine g.calls t.chain.id (with_state (Done Cancelled)) id (λ call w. cc) (calls_now IsFine id _ _ (calls_of h _ t.is) p), tt)
fine_back id g (Vertex k) h e p =
    let t = vertex_held g k h e in
    let w = vertex_calls g k t.call.op h t.put in
    elim (same_or_apart calls_total calls_exact id k) [
      | inl same ↦ inr (p, inr (ap Vertex (sym same)))
      | inr a ↦ inl (subst (At IsFine) (altered_apart calls_total g.calls k (with_state (Done w.0)) id a) (calls_now IsFine id _ _ w.1 p), tt)
    ]
fine_back id g (Read k m) h e p = let t = read_step_held g k m h e in inl (altered_back IsFine g.calls k (with_state (Done t.answer)) id (λ call w. absurd (t.unfine cc)) (calls_now IsFine id _ _ (calls_of h _ t.is) p), tt)
fine_back id g (Reply k a) h e p = inl (altered_back IsFine g.calls k with_said id (λ call w. w) (calls_now IsFine id _ _ (calls_of h _ (reply_held g k a h e).is) p), tt)

-- a call that is done with Fine was ended so
pub fine_came : (steps : List GStep) (h : Machine) (id : CallId) → Run start steps h → At IsFine (get h.calls id) → Met (EndsFine id) Any start steps h
fine_came steps h id r p =
    elim (came (λ m. At IsFine (get m.calls id)) (EndsFine id) Any (fine_back id) start steps h r p) [
      | inl was ↦ absurd (none_at_start IsFine id was.0)
      | inr met ↦ met
    ]

right_fine : (o : Option Call) → IsRightAt Fine o → At IsFine o
right_fine None r = r
right_fine (Some call) (inl s) = s
right_fine (Some call) (inr (inl p)) = let z : Fine ≡ Pending = p.0 in cc
right_fine (Some call) (inr (inr u)) = cc

-- a call that is answered Fine is done with Fine
pub answered_fine : (g : Machine) (id : CallId) (h : Machine) → Step g (Reply id Fine) (Ok h) → At IsFine (get g.calls id)
answered_fine g id h e = right_fine (get g.calls id) (reply_held g id Fine h e).right

-- a chain of this call is on the edge, with this new half
pub record HasChain (e : EdgeId) (id : CallId) (half : Half) (pend : Pend) : Type 0 where
  pub chain : Chain
  pub found : get pend e ≡ Some chain
  pub owner : chain.id ≡ id
  pub writes : chain.half ≡ half

-- the step that begins the chain of a call
pub record Begins (id : CallId) (half : Half) (g : Machine) (s : GStep) (h : Machine) : Type 0 where
  pub is : s ≡ Begin id
  pub call : Call
  pub known : get g.calls id ≡ Some call
  pub writes : half_of_op call.op ≡ Some half

abbrev pub NoSettle : EdgeId → GStep → Type 0
NoSettle e s = ¬ (s ≡ Settle e)

some_same : (p r : Chain) → ◌≡◌ {A = Option Chain} (Some p) (Some r) → p ≡ r
some_same p r e = cc

marked_back : (pend : Pend) (x : EdgeId) (f : Chain → Chain) (chain : Chain) (e : EdgeId) (id : CallId) (half : Half) → get pend x ≡ Some chain → ((f chain).id ≡ chain.id) → ((f chain).half ≡ chain.half)
    → HasChain e id half (altered pend x f) → HasChain e id half pend
marked_back pend x f chain e id half found same_id same_half c =
    by_edge (λ q. HasChain q id half (altered pend x f) → HasChain q id half pend) x e
    (λ w. let one : f chain ≡ w.chain = some_same (f chain) w.chain (sym (altered_here edges_total pend x f ∙ ap (option_map f) found) ∙ w.found) in
    record { chain = chain; found = found; owner = sym same_id ∙ ap (λ p. p.id) one ∙ w.owner; writes = sym same_half ∙ ap (λ p. p.half) one ∙ w.writes })
    (λ a w. record { chain = w.chain; found = sym (altered_apart edges_total pend x f e a) ∙ w.found; owner = w.owner; writes = w.writes }) c

removed_back : (pend : Pend) (x e : EdgeId) (id : CallId) (half : Half) → HasChain e id half (remove pend x) → HasChain e id half pend × (eq_by_cmp edge_cmp e x ≡ false)
removed_back pend x e id half c =
    by_edge (λ q. HasChain q id half (remove pend x) → HasChain q id half pend × (eq_by_cmp edge_cmp q x ≡ false)) x e
    (λ w. let none : ◌≡◌ {A = Option Chain} None (Some w.chain) = sym (with_at_here edges_total pend x None) ∙ w.found in cc)
    (λ a w. (record { chain = w.chain; found = sym (with_at_apart edges_total pend x None e a) ∙ w.found; owner = w.owner; writes = w.writes }, a)) c

pend_now : (e : EdgeId) (id : CallId) (half : Half) (g h : Machine) → g ≡ h → HasChain e id half g.pend → HasChain e id half h.pend
pend_now e id half g h is c = subst (λ m. HasChain e id half m.pend) is c

settle_apart : (x e : EdgeId) → eq_by_cmp edge_cmp e x ≡ false → NoSettle e (Settle x)
settle_apart x e a same = not_apart edges_total e x (cc) a

chain_back : (e : EdgeId) (id : CallId) (half : Half) (g : Machine) (s : GStep) (h : Machine) → Step g s (Ok h) → HasChain e id half h.pend → (HasChain e id half g.pend × NoSettle e s) ⊎ Begins id half g s h
chain_back e id half g (Invoke k o) h is c = inl (pend_now e id half h _ (invoke_held g k o h is).is c, λ x. cc)
chain_back e id half g (Begin k) h is c =
    let t = begin_held g k h is in
    let new : Chain = record { id = k; half = t.half; in_done = false; out_done = false } in
    by_edge (λ q. HasChain q id half (insert g.pend t.edge new) → (HasChain q id half g.pend × NoSettle e (Begin k)) ⊎ Begins id half g (Begin k) h) t.edge e
    (λ w. let one : new ≡ w.chain = some_same new w.chain (sym (with_at_here edges_total g.pend t.edge (Some new)) ∙ w.found) in
    let owner : k ≡ id = ap (λ p. p.id) one ∙ w.owner in
    inr (record { is = ap Begin owner; call = t.call; known = ap (get g.calls) (sym owner) ∙ t.known; writes = t.writes ∙ ap Some (ap (λ p. p.half) one ∙ w.writes) }))
    (λ a w. inl (record { chain = w.chain; found = sym (with_at_apart edges_total g.pend t.edge (Some new) e a) ∙ w.found; owner = w.owner; writes = w.writes }, λ x. cc))
    (pend_now e id half h _ t.is c)
chain_back e id half g (Skip k) h is c = inl (pend_now e id half h _ (skip_held g k h is).is c, λ x. cc)
chain_back e id half g (Refuse k) h is c = inl (pend_now e id half h _ (refuse_held g k h is).is c, λ x. cc)
chain_back e id half g (InHalf x) h is c = let t = in_held g x h is in inl (marked_back g.pend x with_in_done t.chain e id half t.found refl refl (pend_now e id half h _ t.is c), λ x. cc)
chain_back e id half g (OutHalf x) h is c = let t = out_held g x h is in inl (marked_back g.pend x with_out_done t.chain e id half t.found refl refl (pend_now e id half h _ t.is c), λ x. cc)
chain_back e id half g (Settle x) h is c = let w = removed_back g.pend x e id half (pend_now e id half h _ (settle_held g x h is).is c) in inl (w.0, settle_apart x e w.1)
chain_back e id half g (Cancel x) h is c = let w = removed_back g.pend x e id half (pend_now e id half h _ (cancel_held g x h is).is c) in inl (w.0, λ y. cc)
chain_back e id half g (Vertex k) h is c = let t = vertex_held g k h is in inl (subst (HasChain e id half) (vertex_pend g k t.call.op h t.put) c, λ x. cc)
chain_back e id half g (Read k m) h is c = inl (pend_now e id half h _ (read_step_held g k m h is).is c, λ x. cc)
chain_back e id half g (Reply k a) h is c = inl (pend_now e id half h _ (reply_held g k a h is).is c, λ x. cc)

no_chain_at_start : (e : EdgeId) (id : CallId) (half : Half) → HasChain e id half start.pend → ⊥
no_chain_at_start e id half c = let none : ◌≡◌ {A = Option Chain} None (Some c.chain) = sym (get-empty edge_cmp e) ∙ c.found in cc

-- a chain under way was begun, and no chain on its edge has settled since
pub chain_came : (steps : List GStep) (h : Machine) (e : EdgeId) (id : CallId) (half : Half) → Run start steps h → HasChain e id half h.pend → Met (Begins id half) (NoSettle e) start steps h
chain_came steps h e id half r c =
    elim (came (λ m. HasChain e id half m.pend) (Begins id half) (NoSettle e) (chain_back e id half) start steps h r c) [
      | inl was ↦ absurd (no_chain_at_start e id half was.0)
      | inr met ↦ met
    ]
