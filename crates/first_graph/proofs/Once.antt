-- A call has at most one step that moves it, and at most one reply, in every run.
use Rattle.std.proofs.Common.{◌≡◌, ℕ, ◌+◌, ◌≤◌, arith, inl, inr, List, [], ◌∷◌, Option, Some, None, Ok, Bool, true, false, cond, refl, ap, sym, subst, ◌∙◌}
use Rattle.std.specs.Prelude.{if◌then◌else◌, ◌&&◌, count_by}
use Rattle.std.specs.Option.{option_map}
use Rattle.std.specs.FinMap.{FinMap, get, insert, contains_key, get-empty}
use Rattle.std.specs.Ordering.{eq_by_cmp, is_eq}
use Rattle.std.proofs.lemmas.Cmp.{tied_itself}
use Rattle.std.proofs.lemmas.List.Sums.{sum_by-cons}
use Rattle.first_graph.specs.declared.call_id.CallId.{CallId}
use Rattle.first_graph.specs.declared.op.Op.{Op}
use Rattle.first_graph.specs.declared.op.Op.TheVariants.{PutEdge, DelEdge, PutVertex, DelVertex, Read as ReadOp}
use Rattle.first_graph.specs.declared.answer.Answer.{Answer}
use Rattle.first_graph.specs.declared.call.CallState.{CallState}
use Rattle.first_graph.specs.declared.call.CallState.TheVariants.{Open, Begun, Done}
use Rattle.first_graph.specs.declared.call.Call.{Call}
use Rattle.first_graph.specs.declared.graph_step.GStep.{GStep}
use Rattle.first_graph.specs.declared.graph_step.GStep.TheVariants.{Invoke, Begin, Skip, Refuse, InHalf, OutHalf, Settle, Cancel, Vertex, Read, Reply}
use Rattle.first_graph.specs.Keys.{call_cmp}
use Rattle.first_graph.specs.Maps.{altered}
use Rattle.first_graph.specs.Marks.{with_state, with_shown, with_said}
use Rattle.first_graph.specs.Machine.{Machine, Step, start, vertex_put}
use Rattle.first_graph.specs.Run.{Run}
use Rattle.first_graph.specs.Laws.{moves, replies, HasEachOnce}
use Rattle.first_graph.proofs.KeyLemmas.{calls_total, calls_exact}
use Rattle.first_graph.proofs.Updates.{same_or_apart, with_at_here, with_at_apart, altered_here, altered_apart}
use Rattle.first_graph.proofs.Inversion.{same_ok}
use Rattle.first_graph.proofs.Held.{invoke_held, begin_held, skip_held, refuse_held, in_held, out_held, settle_held, cancel_held, vertex_held, read_step_held, reply_held}

abbrev Calls : Type 0
Calls = FinMap call_cmp Call

abbrev one_if : Bool → ℕ
one_if b = cond b 1 0

-- how many moves a call has left
abbrev moves_in : CallState → ℕ
moves_in Open = 1
moves_in Begun = 0
moves_in (Done a) = 0

abbrev moves_left : Option Call → ℕ
moves_left None = 1
moves_left (Some call) = moves_in call.state

-- how many replies a call has left
abbrev replies_in : Bool → ℕ
replies_in true = 0
replies_in false = 1

abbrev replies_left : Option Call → ℕ
replies_left None = 1
replies_left (Some call) = replies_in call.said

count_more : (p : GStep → Bool) (s : GStep) (steps : List GStep) → count_by p (s ∷ steps) ≡ one_if (p s) + count_by p steps
count_more p s steps = sum_by-cons (λ x. one_if (p x)) s steps

pub by_key : (P : CallId → Type 0) (k id : CallId) → P k → (eq_by_cmp call_cmp id k ≡ false → P id) → P id
by_key P k id here apart = elim (same_or_apart calls_total calls_exact id k) [ inl same ↦ subst P (sym same) here | inr a ↦ apart a ]

module _ (w : Option Call → ℕ) where
  altered_kept : (m : Calls) (k : CallId) (f : Call → Call) (id : CallId) → w (option_map f (get m k)) ≤ w (get m k) → w (get (altered m k f) id) ≤ w (get m id)
  altered_kept m k f id h =
      by_key (λ q. w (get (altered m k f) q) ≤ w (get m q)) k id
      (subst (λ o. w o ≤ w (get m k)) (sym (altered_here calls_total m k f)) h)
      (λ a. subst (λ o. w o ≤ w (get m id)) (sym (altered_apart calls_total m k f id a)) (omega arith))

  altered_spent : (m : Calls) (k : CallId) (f : Call → Call) (id : CallId) → w (option_map f (get m k)) + 1 ≤ w (get m k)
      → one_if (eq_by_cmp call_cmp id k) + w (get (altered m k f) id) ≤ w (get m id)
  altered_spent m k f id h =
      by_key (λ q. one_if (eq_by_cmp call_cmp q k) + w (get (altered m k f) q) ≤ w (get m q)) k id
      (subst (λ o. one_if (eq_by_cmp call_cmp k k) + w o ≤ w (get m k)) (sym (altered_here calls_total m k f))
      (subst (λ b. one_if b + w (option_map f (get m k)) ≤ w (get m k)) (sym (ap is_eq (tied_itself calls_total k))) (omega (arith, h))))
      (λ a. subst (λ o. one_if (eq_by_cmp call_cmp id k) + w o ≤ w (get m id)) (sym (altered_apart calls_total m k f id a))
      (subst (λ b. one_if b + w (get m id) ≤ w (get m id)) (sym a) (omega arith)))

  inserted_kept : (m : Calls) (k : CallId) (x : Call) (id : CallId) → w (Some x) ≤ w (get m k) → w (get (insert m k x) id) ≤ w (get m id)
  inserted_kept m k x id h =
      by_key (λ q. w (get (insert m k x) q) ≤ w (get m q)) k id
      (subst (λ o. w o ≤ w (get m k)) (sym (with_at_here calls_total m k (Some x))) h)
      (λ a. subst (λ o. w o ≤ w (get m id)) (sym (with_at_apart calls_total m k (Some x) id a)) (omega arith))

state_moves : (s : CallState) → moves_in s ≡ 0 → (o : Option Call) → moves_left (option_map (with_state s) o) ≤ moves_left o
state_moves s z None = omega arith
state_moves s z (Some call) = omega (arith, z)

state_spent : (s : CallState) → moves_in s ≡ 0 → (o : Option Call) (call : Call) → o ≡ Some call → call.state ≡ Open → moves_left (option_map (with_state s) o) + 1 ≤ moves_left o
state_spent s z o call known is_open = subst (λ x. moves_left (option_map (with_state s) x) + 1 ≤ moves_left x) (sym known) (let e : moves_in call.state ≡ 1 = ap moves_in is_open in omega (arith, z, e))

state_replies : (s : CallState) (o : Option Call) → replies_left (option_map (with_state s) o) ≤ replies_left o
state_replies s None = omega arith
state_replies s (Some call) = omega arith

shown_moves : (o : Option Call) → moves_left (option_map with_shown o) ≤ moves_left o
shown_moves None = omega arith
shown_moves (Some call) = omega arith

shown_replies : (o : Option Call) → replies_left (option_map with_shown o) ≤ replies_left o
shown_replies None = omega arith
shown_replies (Some call) = omega arith

said_moves : (o : Option Call) → moves_left (option_map with_said o) ≤ moves_left o
said_moves None = omega arith
said_moves (Some call) = omega arith

said_spent : (o : Option Call) (call : Call) → o ≡ Some call → call.said ≡ false → replies_left (option_map with_said o) + 1 ≤ replies_left o
said_spent o call known unsaid = subst (λ x. replies_left (option_map with_said x) + 1 ≤ replies_left x) (sym known) (let e : replies_in call.said ≡ 1 = ap replies_in unsaid in omega (arith, e))

either_calls : (b : Bool) (g : Machine) (id : CallId) (x y : Machine) → (a : Answer) × (x.calls ≡ altered g.calls id (with_state (Done a))) → (a : Answer) × (y.calls ≡ altered g.calls id (with_state (Done a)))
    → (h : Machine) → (if b then x else y) ≡ h → (a : Answer) × (h.calls ≡ altered g.calls id (with_state (Done a)))
either_calls true g id x y v w h e = (v.0, ap (λ m. m.calls) (sym e) ∙ v.1)
either_calls false g id x y v w h e = (w.0, ap (λ m. m.calls) (sym e) ∙ w.1)

pub vertex_calls : (g : Machine) (id : CallId) (op : Op) (h : Machine) → vertex_put g id op ≡ Ok h → (a : Answer) × (h.calls ≡ altered g.calls id (with_state (Done a)))
vertex_calls g id (PutVertex x t row absent) h e = either_calls (absent && contains_key g.contents.verts (record { vid = x; tag = t })) g id _ _ (_, refl) (_, refl) h (same_ok _ h e)
vertex_calls g id (DelVertex x) h e = (_, ap (λ m. m.calls) (sym (same_ok _ h e)))
vertex_calls g id (PutEdge x row absent) h e = cc
vertex_calls g id (DelEdge x) h e = cc
vertex_calls g id (ReadOp q) h e = cc

to_calls : (w : Option Call → ℕ) (g h : Machine) (id : CallId) (n : ℕ) (m : Calls) → h.calls ≡ m → n + w (get m id) ≤ w (get g.calls id) → n + w (get h.calls id) ≤ w (get g.calls id)
to_calls w g h id n m e p = subst (λ x. n + w (get x id) ≤ w (get g.calls id)) (sym e) p

zero_first : (a b : ℕ) → a ≤ b → 0 + a ≤ b
zero_first a b h = omega arith

pub calls_of : (g h : Machine) → g ≡ h → g.calls ≡ h.calls
calls_of g h e = ap (λ m. m.calls) e

step_moves : (g : Machine) (s : GStep) (h : Machine) (id : CallId) → Step g s (Ok h) → one_if (moves id s) + moves_left (get h.calls id) ≤ moves_left (get g.calls id)
step_moves g (Invoke c op) h id e =
    let t = invoke_held g c op h e in
    to_calls moves_left g h id 0 _ (calls_of h _ t.is) (zero_first _ _ (inserted_kept moves_left g.calls c _ id (subst (λ o. 1 ≤ moves_left o) (sym t.fresh) (omega arith))))
step_moves g (Begin c) h id e =
    let t = begin_held g c h e in
    to_calls moves_left g h id _ _ (calls_of h _ t.is) (altered_spent moves_left g.calls c (with_state Begun) id (state_spent Begun refl (get g.calls c) t.call t.known t.open_then))
step_moves g (Skip c) h id e =
    let t = skip_held g c h e in
    to_calls moves_left g h id _ _ (calls_of h _ t.is) (altered_spent moves_left g.calls c (with_state (Done t.answer)) id (state_spent (Done t.answer) refl (get g.calls c) t.call t.known t.open_then))
step_moves g (Refuse c) h id e =
    let t = refuse_held g c h e in
    to_calls moves_left g h id _ _ (calls_of h _ t.is) (altered_spent moves_left g.calls c (with_state (Done t.answer)) id (state_spent (Done t.answer) refl (get g.calls c) t.call t.known t.open_then))
step_moves g (InHalf x) h id e =
    let t = in_held g x h e in
    to_calls moves_left g h id 0 _ (calls_of h _ t.is) (omega arith)
step_moves g (OutHalf x) h id e =
    let t = out_held g x h e in
    to_calls moves_left g h id 0 _ (calls_of h _ t.is) (zero_first _ _ (altered_kept moves_left g.calls t.chain.id with_shown id (shown_moves _)))
step_moves g (Settle x) h id e =
    let t = settle_held g x h e in
    to_calls moves_left g h id 0 _ (calls_of h _ t.is) (zero_first _ _ (altered_kept moves_left g.calls t.chain.id (with_state _) id (state_moves _ refl _)))
step_moves g (Cancel x) h id e =
    let t = cancel_held g x h e in
    to_calls moves_left g h id 0 _ (calls_of h _ t.is) (zero_first _ _ (altered_kept moves_left g.calls t.chain.id (with_state _) id (state_moves _ refl _)))
step_moves g (Vertex c) h id e =
    let t = vertex_held g c h e in
    let k = vertex_calls g c t.call.op h t.put in
    to_calls moves_left g h id _ _ k.1 (altered_spent moves_left g.calls c (with_state (Done k.0)) id (state_spent (Done k.0) refl (get g.calls c) t.call t.known t.open_then))
step_moves g (Read c m) h id e =
    let t = read_step_held g c m h e in
    to_calls moves_left g h id _ _ (calls_of h _ t.is) (altered_spent moves_left g.calls c (with_state (Done t.answer)) id (state_spent (Done t.answer) refl (get g.calls c) t.call t.known t.open_then))
step_moves g (Reply c a) h id e =
    let t = reply_held g c a h e in
    to_calls moves_left g h id 0 _ (calls_of h _ t.is) (zero_first _ _ (altered_kept moves_left g.calls c with_said id (said_moves _)))

step_replies : (g : Machine) (s : GStep) (h : Machine) (id : CallId) → Step g s (Ok h) → one_if (replies id s) + replies_left (get h.calls id) ≤ replies_left (get g.calls id)
step_replies g (Invoke c op) h id e =
    let t = invoke_held g c op h e in
    to_calls replies_left g h id 0 _ (calls_of h _ t.is) (zero_first _ _ (inserted_kept replies_left g.calls c _ id (subst (λ o. 1 ≤ replies_left o) (sym t.fresh) (omega arith))))
step_replies g (Begin c) h id e =
    let t = begin_held g c h e in
    to_calls replies_left g h id 0 _ (calls_of h _ t.is) (zero_first _ _ (altered_kept replies_left g.calls c (with_state Begun) id (state_replies _ _)))
step_replies g (Skip c) h id e =
    let t = skip_held g c h e in
    to_calls replies_left g h id 0 _ (calls_of h _ t.is) (zero_first _ _ (altered_kept replies_left g.calls c (with_state (Done t.answer)) id (state_replies _ _)))
step_replies g (Refuse c) h id e =
    let t = refuse_held g c h e in
    to_calls replies_left g h id 0 _ (calls_of h _ t.is) (zero_first _ _ (altered_kept replies_left g.calls c (with_state (Done t.answer)) id (state_replies _ _)))
step_replies g (InHalf x) h id e =
    let t = in_held g x h e in
    to_calls replies_left g h id 0 _ (calls_of h _ t.is) (omega arith)
step_replies g (OutHalf x) h id e =
    let t = out_held g x h e in
    to_calls replies_left g h id 0 _ (calls_of h _ t.is) (zero_first _ _ (altered_kept replies_left g.calls t.chain.id with_shown id (shown_replies _)))
step_replies g (Settle x) h id e =
    let t = settle_held g x h e in
    to_calls replies_left g h id 0 _ (calls_of h _ t.is) (zero_first _ _ (altered_kept replies_left g.calls t.chain.id (with_state _) id (state_replies _ _)))
step_replies g (Cancel x) h id e =
    let t = cancel_held g x h e in
    to_calls replies_left g h id 0 _ (calls_of h _ t.is) (zero_first _ _ (altered_kept replies_left g.calls t.chain.id (with_state _) id (state_replies _ _)))
step_replies g (Vertex c) h id e =
    let t = vertex_held g c h e in
    let k = vertex_calls g c t.call.op h t.put in
    to_calls replies_left g h id 0 _ k.1 (zero_first _ _ (altered_kept replies_left g.calls c (with_state (Done k.0)) id (state_replies _ _)))
step_replies g (Read c m) h id e =
    let t = read_step_held g c m h e in
    to_calls replies_left g h id 0 _ (calls_of h _ t.is) (zero_first _ _ (altered_kept replies_left g.calls c (with_state (Done t.answer)) id (state_replies _ _)))
step_replies g (Reply c a) h id e =
    let t = reply_held g c a h e in
    to_calls replies_left g h id _ _ (calls_of h _ t.is) (altered_spent replies_left g.calls c with_said id (said_spent (get g.calls c) t.call t.known t.unsaid))

run_moves : (g : Machine) (steps : List GStep) (h : Machine) (id : CallId) → Run g steps h → count_by (moves id) steps + moves_left (get h.calls id) ≤ moves_left (get g.calls id)
run_moves g [] h id e = zero_first _ _ (subst (λ m. moves_left (get m.calls id) ≤ moves_left (get g.calls id)) (sym e) (omega arith))
run_moves g (s ∷ steps) h id e = omega (arith, count_more (moves id) s steps, run_moves e.0 steps h id e.2, step_moves g s e.0 id e.1)

run_replies : (g : Machine) (steps : List GStep) (h : Machine) (id : CallId) → Run g steps h → count_by (replies id) steps + replies_left (get h.calls id) ≤ replies_left (get g.calls id)
run_replies g [] h id e = zero_first _ _ (subst (λ m. replies_left (get m.calls id) ≤ replies_left (get g.calls id)) (sym e) (omega arith))
run_replies g (s ∷ steps) h id e = omega (arith, count_more (replies id) s steps, run_replies e.0 steps h id e.2, step_replies g s e.0 id e.1)

pub once_each : (steps : List GStep) (h : Machine) → Run start steps h → HasEachOnce steps
once_each steps h r id =
    let a : count_by (moves id) steps + moves_left (get h.calls id) ≤ 1 = subst (λ o. count_by (moves id) steps + moves_left (get h.calls id) ≤ moves_left o) (get-empty call_cmp id) (run_moves start steps h id r) in
    let b : count_by (replies id) steps + replies_left (get h.calls id) ≤ 1 = subst (λ o. count_by (replies id) steps + replies_left (get h.calls id) ≤ replies_left o) (get-empty call_cmp id) (run_replies start steps h id r) in
    (omega (arith, a), omega (arith, b))
