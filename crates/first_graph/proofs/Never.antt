-- A call that was answered Fine or Pending is never cancelled, before or after.
use Rattle.std.proofs.Common.{◌≡◌, ◌⊎◌, inl, inr, List, [], ◌∷◌, Option, Some, None, Ok, Bool, true, false, refl, ap, sym, subst, ◌∙◌}
use Rattle.std.specs.Option.{option_map}
use Rattle.std.specs.FinMap.{FinMap, get, insert, remove, contains_key, get-empty}
use Rattle.std.specs.Prelude.{if◌then◌else◌, ◌&&◌}
use Rattle.std.specs.Ordering.{eq_by_cmp}
use Rattle.first_graph.specs.declared.call_id.CallId.{CallId}
use Rattle.first_graph.specs.declared.edge_id.EdgeId.{EdgeId}
use Rattle.first_graph.specs.declared.half.Half.{Half}
use Rattle.first_graph.specs.declared.answer.Answer.{Answer}
use Rattle.first_graph.specs.declared.answer.Answer.TheVariants.{Fine, Skipped, Pending, Conflict, Cancelled, Unknown, Shown}
use Rattle.first_graph.specs.declared.call.CallState.{CallState}
use Rattle.first_graph.specs.declared.call.CallState.TheVariants.{Open, Begun, Done}
use Rattle.first_graph.specs.declared.call.Call.{Call}
use Rattle.first_graph.specs.declared.chain.Chain.{Chain}
use Rattle.first_graph.specs.declared.graph_step.GStep.{GStep}
use Rattle.first_graph.specs.declared.graph_step.GStep.TheVariants.{Invoke, Begin, Skip, Refuse, InHalf, OutHalf, Settle, Cancel, Vertex, Read, Reply}
use Rattle.first_graph.specs.Keys.{call_cmp, edge_cmp}
use Rattle.first_graph.specs.Maps.{altered}
use Rattle.first_graph.specs.Marks.{with_state, with_shown, with_said, with_in_done, with_out_done}
use Rattle.first_graph.specs.Machine.{Machine, Step, IsRight, IsRightAt, start, vertex_put}
use Rattle.first_graph.specs.declared.op.Op.{Op}
use Rattle.first_graph.specs.declared.op.Op.TheVariants.{PutEdge, DelEdge, PutVertex, DelVertex, Read as ReadOp}
use Rattle.first_graph.specs.Run.{Run, edge_of_op}
use Rattle.first_graph.specs.Laws.{Stands, IsAssuring, IsCancelledAt, IsCancelled}
use Rattle.first_graph.proofs.KeyLemmas.{calls_total, edges_total, edges_exact}
use Rattle.first_graph.proofs.Updates.{same_or_apart, not_apart, with_at_here, with_at_apart, altered_here, altered_apart}
use Rattle.first_graph.proofs.Inversion.{same_ok}
use Rattle.first_graph.proofs.Once.{by_key, vertex_calls, calls_of}
use Rattle.first_graph.proofs.Held.{invoke_held, begin_held, skip_held, refuse_held, in_held, out_held, settle_held, cancel_held, vertex_held, read_step_held, reply_held}

abbrev pub Calls : Type 0
Calls = FinMap call_cmp Call

abbrev pub Pend : Type 0
Pend = FinMap edge_cmp Chain

-- a call that is open or cancelled was not shown
abbrev QuietDone : Answer → Bool → Type 0
QuietDone Fine b = Unit {0}
QuietDone Skipped b = Unit {0}
QuietDone Pending b = Unit {0}
QuietDone (Conflict id) b = Unit {0}
QuietDone Cancelled b = b ≡ false
QuietDone Unknown b = Unit {0}
QuietDone (Shown v) b = Unit {0}

abbrev Quiet : CallState → Bool → Type 0
Quiet Open b = b ≡ false
Quiet Begun b = Unit {0}
Quiet (Done a) b = QuietDone a b

abbrev QuietAt : Option Call → Type 0
QuietAt None = Unit {0}
QuietAt (Some call) = Quiet call.state call.shown

-- a chain's call is begun, was shown exactly where the chain's out-half is done, and writes the chain's edge
pub record IsTied (calls : Calls) (e : EdgeId) (p : Chain) : Type 0 where
  pub call : Call
  pub known : get calls p.id ≡ Some call
  pub begun : call.state ≡ Begun
  pub shown : call.shown ≡ p.out_done
  pub aims : edge_of_op call.op ≡ Some e

pub record IsSound (pend : Pend) (calls : Calls) : Type 0 where
  pub tied : (e : EdgeId) (p : Chain) → get pend e ≡ Some p → IsTied calls e p
  pub quiet : (id : CallId) → QuietAt (get calls id)

quiet_done : (a : Answer) (b : Bool) → b ≡ false → QuietDone a b
quiet_done Fine b e = tt
quiet_done Skipped b e = tt
quiet_done Pending b e = tt
quiet_done (Conflict id) b e = tt
quiet_done Cancelled b e = e
quiet_done Unknown b e = tt
quiet_done (Shown v) b e = tt

quiet_at : (calls : Calls) (id : CallId) (call : Call) → QuietAt (get calls id) → get calls id ≡ Some call → Quiet call.state call.shown
quiet_at calls id call q known = subst QuietAt known q

unshown : (calls : Calls) (id : CallId) (call : Call) → QuietAt (get calls id) → get calls id ≡ Some call → call.state ≡ Open → call.shown ≡ false
unshown calls id call q known is_open = subst (λ s. Quiet s call.shown) is_open (quiet_at calls id call q known)

-- quiet is kept where one call is altered to a quiet one
quiet_altered : (calls : Calls) (k : CallId) (f : Call → Call) → ((id : CallId) → QuietAt (get calls id)) → QuietAt (option_map f (get calls k)) → (id : CallId) → QuietAt (get (altered calls k f) id)
quiet_altered calls k f quiet here id =
    by_key (λ q. QuietAt (get (altered calls k f) q)) k id
    (subst QuietAt (sym (altered_here calls_total calls k f)) here)
    (λ a. subst QuietAt (sym (altered_apart calls_total calls k f id a)) (quiet id))

altered_known : (calls : Calls) (k : CallId) (f : Call → Call) (call : Call) → get calls k ≡ Some call → get (altered calls k f) k ≡ Some (f call)
altered_known calls k f call known = altered_here calls_total calls k f ∙ ap (option_map f) known

-- a chain's tie is kept where another call is altered
tied_apart : (calls : Calls) (k : CallId) (f : Call → Call) (e : EdgeId) (p : Chain) → eq_by_cmp call_cmp p.id k ≡ false → IsTied calls e p → IsTied (altered calls k f) e p
tied_apart calls k f e p a t = record { call = t.call; known = altered_apart calls_total calls k f p.id a ∙ t.known; begun = t.begun; shown = t.shown; aims = t.aims }

-- a chain's tie is kept where a call that has no chain is altered
tied_open : (calls : Calls) (k : CallId) (f : Call → Call) (call : Call) (e : EdgeId) (p : Chain) → get calls k ≡ Some call → call.state ≡ Open → IsTied calls e p → IsTied (altered calls k f) e p
tied_open calls k f call e p known is_open t =
    by_key (λ q. q ≡ p.id → IsTied (altered calls k f) e p) k p.id
    (λ same. let one : get calls k ≡ Some t.call = ap (get calls) same ∙ t.known in let s : call ≡ t.call = cc in let b : Open ≡ Begun = sym is_open ∙ ap (λ x. x.state) s ∙ t.begun in cc)
    (λ a same. tied_apart calls k f e p a t) refl

-- two chains have two calls
ids_apart : (calls : Calls) (e d : EdgeId) (p r : Chain) → eq_by_cmp edge_cmp d e ≡ false → IsTied calls e p → IsTied calls d r → r.id ≡ p.id → ⊥
ids_apart calls e d p r a t u same =
    let one : get calls p.id ≡ Some u.call = ap (get calls) (sym same) ∙ u.known in
    let s : t.call ≡ u.call = (let k = t.known in cc) in
    let aim : Some d ≡ Some e = sym u.aims ∙ ap (λ x. edge_of_op x.op) (sym s) ∙ t.aims in
    let edge : d ≡ e = cc in
    not_apart edges_total d e edge a

tied_other : (calls : Calls) (f : Call → Call) (e d : EdgeId) (p r : Chain) → eq_by_cmp edge_cmp d e ≡ false → IsTied calls e p → IsTied calls d r → IsTied (altered calls p.id f) d r
tied_other calls f e d p r a t u =
    by_key (λ q. q ≡ r.id → IsTied (altered calls p.id f) d r) p.id r.id
    (λ same. absurd (ids_apart calls e d p r a t u (sym same)))
    (λ b same. tied_apart calls p.id f d r b u) refl

pub by_edge : (P : EdgeId → Type 0) (k e : EdgeId) → P k → (eq_by_cmp edge_cmp e k ≡ false → P e) → P e
by_edge P k e here apart = elim (same_or_apart edges_total edges_exact e k) [ inl same ↦ subst P (sym same) here | inr a ↦ apart a ]

some_same : (p r : Chain) → ◌≡◌ {A = Option Chain} (Some p) (Some r) → p ≡ r
some_same p r e = cc

ended_sound : (pend : Pend) (calls : Calls) (k : CallId) (call : Call) (a : Answer) → get calls k ≡ Some call → call.state ≡ Open → IsSound pend calls → IsSound pend (altered calls k (with_state (Done a)))
ended_sound pend calls k call a known is_open s = record {
  tied = λ e p found. tied_open calls k (with_state (Done a)) call e p known is_open (s.tied e p found);
  quiet = quiet_altered calls k (with_state (Done a)) s.quiet (subst (λ o. QuietAt (option_map (with_state (Done a)) o)) (sym known) (quiet_done a call.shown (unshown calls k call (s.quiet k) known is_open)));
}

invoked_sound : (pend : Pend) (calls : Calls) (k : CallId) (new : Call) → get calls k ≡ None → Quiet new.state new.shown → IsSound pend calls → IsSound pend (insert calls k new)
invoked_sound pend calls k new fresh q s = record {
  tied = λ e p found. (let t = s.tied e p found in
      by_key (λ x. x ≡ p.id → IsTied (insert calls k new) e p) k p.id
      (λ same. let one : get calls k ≡ Some t.call = ap (get calls) same ∙ t.known in cc)
      (λ a same. record { call = t.call; known = with_at_apart calls_total calls k (Some new) p.id a ∙ t.known; begun = t.begun; shown = t.shown; aims = t.aims }) refl);
  quiet = λ id. by_key (λ x. QuietAt (get (insert calls k new) x)) k id
      (subst QuietAt (sym (with_at_here calls_total calls k (Some new))) q)
      (λ a. subst QuietAt (sym (with_at_apart calls_total calls k (Some new) id a)) (s.quiet id));
}

begun_sound : (pend : Pend) (calls : Calls) (k : CallId) (call : Call) (e : EdgeId) (half : Half) → get calls k ≡ Some call → call.state ≡ Open → edge_of_op call.op ≡ Some e → IsSound pend calls
    → IsSound (insert pend e (record { id = k; half = half; in_done = false; out_done = false })) (altered calls k (with_state Begun))
begun_sound pend calls k call e half known is_open aims s =
    let new : Chain = record { id = k; half = half; in_done = false; out_done = false } in
    record {
      tied = λ d p found. by_edge (λ x. get (insert pend e new) x ≡ Some p → IsTied (altered calls k (with_state Begun)) x p) e d
          (λ f. subst (λ r. IsTied (altered calls k (with_state Begun)) e r) (some_same new p (sym (with_at_here edges_total pend e (Some new)) ∙ f))
          (record { call = with_state Begun call; known = altered_known calls k (with_state Begun) call known; begun = refl; shown = unshown calls k call (s.quiet k) known is_open; aims = aims }))
          (λ a f. tied_open calls k (with_state Begun) call d p known is_open (s.tied d p (sym (with_at_apart edges_total pend e (Some new) d a) ∙ f))) found;
      quiet = quiet_altered calls k (with_state Begun) s.quiet (subst (λ o. QuietAt (option_map (with_state Begun) o)) (sym known) tt);
    }

in_sound : (pend : Pend) (calls : Calls) (e : EdgeId) (p : Chain) → get pend e ≡ Some p → IsSound pend calls → IsSound (altered pend e with_in_done) calls
in_sound pend calls e p found s = record {
  tied = λ d r f. by_edge (λ x. get (altered pend e with_in_done) x ≡ Some r → IsTied calls x r) e d
      (λ g. subst (λ y. IsTied calls e y) (some_same (with_in_done p) r (sym (altered_here edges_total pend e with_in_done ∙ ap (option_map with_in_done) found) ∙ g))
      (let t = s.tied e p found in record { call = t.call; known = t.known; begun = t.begun; shown = t.shown; aims = t.aims }))
      (λ a g. s.tied d r (sym (altered_apart edges_total pend e with_in_done d a) ∙ g)) f;
  quiet = s.quiet;
}

out_sound : (pend : Pend) (calls : Calls) (e : EdgeId) (p : Chain) → get pend e ≡ Some p → IsSound pend calls → IsSound (altered pend e with_out_done) (altered calls p.id with_shown)
out_sound pend calls e p found s =
    let t = s.tied e p found in
    record {
      tied = λ d r f. by_edge (λ x. get (altered pend e with_out_done) x ≡ Some r → IsTied (altered calls p.id with_shown) x r) e d
          (λ g. subst (λ y. IsTied (altered calls p.id with_shown) e y) (some_same (with_out_done p) r (sym (altered_here edges_total pend e with_out_done ∙ ap (option_map with_out_done) found) ∙ g))
          (record { call = with_shown t.call; known = altered_known calls p.id with_shown t.call t.known; begun = t.begun; shown = refl; aims = t.aims }))
          (λ a g. tied_other calls with_shown e d p r a t (s.tied d r (sym (altered_apart edges_total pend e with_out_done d a) ∙ g))) f;
      quiet = quiet_altered calls p.id with_shown s.quiet (subst (λ o. QuietAt (option_map with_shown o)) (sym t.known) (subst (λ x. Quiet x true) (sym t.begun) tt));
    }

removed_sound : (pend : Pend) (calls : Calls) (e : EdgeId) (p : Chain) (a : Answer) → get pend e ≡ Some p → QuietDone a p.out_done → IsSound pend calls → IsSound (remove pend e) (altered calls p.id (with_state (Done a)))
removed_sound pend calls e p a found q s =
    let t = s.tied e p found in
    record {
      tied = λ d r f. by_edge (λ x. get (remove pend e) x ≡ Some r → IsTied (altered calls p.id (with_state (Done a))) x r) e d
          (λ g. let none : ◌≡◌ {A = Option Chain} None (Some r) = sym (with_at_here edges_total pend e None) ∙ g in cc)
          (λ b g. tied_other calls (with_state (Done a)) e d p r b t (s.tied d r (sym (with_at_apart edges_total pend e None d b) ∙ g))) f;
      quiet = quiet_altered calls p.id (with_state (Done a)) s.quiet (subst (λ o. QuietAt (option_map (with_state (Done a)) o)) (sym t.known) (subst (λ b. QuietDone a b) (sym t.shown) q));
    }

said_quiet : (o : Option Call) → QuietAt o → QuietAt (option_map with_said o)
said_quiet None q = tt
said_quiet (Some call) q = q

said_sound : (pend : Pend) (calls : Calls) (k : CallId) → IsSound pend calls → IsSound pend (altered calls k with_said)
said_sound pend calls k s = record {
  tied = λ e p found. (let t = s.tied e p found in
      by_key (λ x. x ≡ p.id → IsTied (altered calls k with_said) e p) k p.id
      (λ same. record { call = with_said t.call; known = ap (get (altered calls k with_said)) (sym same) ∙ altered_known calls k with_said t.call (ap (get calls) same ∙ t.known); begun = t.begun; shown = t.shown; aims = t.aims })
      (λ a same. tied_apart calls k with_said e p a t) refl);
  quiet = quiet_altered calls k with_said s.quiet (said_quiet (get calls k) (s.quiet k));
}

either_pend : (b : Bool) (p : Pend) (x y h : Machine) → x.pend ≡ p → y.pend ≡ p → (if b then x else y) ≡ h → h.pend ≡ p
either_pend true p x y h u w e = ap (λ m. m.pend) (sym e) ∙ u
either_pend false p x y h u w e = ap (λ m. m.pend) (sym e) ∙ w

pub vertex_pend : (g : Machine) (id : CallId) (op : Op) (h : Machine) → vertex_put g id op ≡ Ok h → h.pend ≡ g.pend
vertex_pend g id (PutVertex x t row absent) h e = either_pend (absent && contains_key g.contents.verts (record { vid = x; tag = t })) g.pend _ _ h refl refl (same_ok _ h e)
vertex_pend g id (DelVertex x) h e = ap (λ m. m.pend) (sym (same_ok _ h e))
vertex_pend g id (PutEdge x row absent) h e = cc
vertex_pend g id (DelEdge x) h e = cc
vertex_pend g id (ReadOp q) h e = cc

abbrev pub IsSoundMachine : Machine → Type 0
IsSoundMachine g = IsSound g.pend g.calls

pub step_sound : (g : Machine) (s : GStep) (h : Machine) → Step g s (Ok h) → IsSoundMachine g → IsSoundMachine h
step_sound g (Invoke id op) h e v = let t = invoke_held g id op h e in subst IsSoundMachine (sym t.is) (invoked_sound g.pend g.calls id _ t.fresh refl v)
step_sound g (Begin id) h e v = let t = begin_held g id h e in subst IsSoundMachine (sym t.is) (begun_sound g.pend g.calls id t.call t.edge t.half t.known t.open_then t.aims v)
step_sound g (Skip id) h e v = let t = skip_held g id h e in subst IsSoundMachine (sym t.is) (ended_sound g.pend g.calls id t.call t.answer t.known t.open_then v)
step_sound g (Refuse id) h e v = let t = refuse_held g id h e in subst IsSoundMachine (sym t.is) (ended_sound g.pend g.calls id t.call t.answer t.known t.open_then v)
step_sound g (InHalf x) h e v = let t = in_held g x h e in subst IsSoundMachine (sym t.is) (in_sound g.pend g.calls x t.chain t.found v)
step_sound g (OutHalf x) h e v = let t = out_held g x h e in subst IsSoundMachine (sym t.is) (out_sound g.pend g.calls x t.chain t.found v)
step_sound g (Settle x) h e v = let t = settle_held g x h e in subst IsSoundMachine (sym t.is) (removed_sound g.pend g.calls x t.chain Fine t.found tt v)
step_sound g (Cancel x) h e v = let t = cancel_held g x h e in subst IsSoundMachine (sym t.is) (removed_sound g.pend g.calls x t.chain Cancelled t.found t.out_undone v)
step_sound g (Vertex id) h e v =
    let t = vertex_held g id h e in
    let k = vertex_calls g id t.call.op h t.put in
    let w = ended_sound g.pend g.calls id t.call k.0 t.known t.open_then v in
    subst (λ n. IsSound h.pend n) (sym k.1) (subst (λ m. IsSound m (altered g.calls id (with_state (Done k.0)))) (sym (vertex_pend g id t.call.op h t.put)) w)
step_sound g (Read id m) h e v = let t = read_step_held g id m h e in subst IsSoundMachine (sym t.is) (ended_sound g.pend g.calls id t.call t.answer t.known t.open_then v)
step_sound g (Reply id a) h e v = let t = reply_held g id a h e in subst IsSoundMachine (sym t.is) (said_sound g.pend g.calls id v)

-- a fact of a call that no step undoes: a call that is done is left, and a call that was shown stays so
pub record Stays (P : Call → Type 0) : Type 0 where
  pub moved : (call : Call) (s : CallState) → (call.state ≡ Open) ⊎ (call.state ≡ Begun) → P call → P (with_state s call)
  pub shown : (call : Call) → P call → P (with_shown call)
  pub said : (call : Call) → P call → P (with_said call)

abbrev pub At : (Call → Type 0) → Option Call → Type 0
At P None = ⊥
At P (Some call) = P call

at_altered : (P : Call → Type 0) (calls : Calls) (k : CallId) (f : Call → Call) (id : CallId) → (At P (get calls k) → At P (option_map f (get calls k))) → At P (get calls id) → At P (get (altered calls k f) id)
at_altered P calls k f id keep p =
    by_key (λ q. At P (get calls q) → At P (get (altered calls k f) q)) k id
    (λ w. subst (At P) (sym (altered_here calls_total calls k f)) (keep w))
    (λ a w. subst (At P) (sym (altered_apart calls_total calls k f id a)) w) p

keep_known : (P : Call → Type 0) (calls : Calls) (k : CallId) (f : Call → Call) (call : Call) → get calls k ≡ Some call → (P call → P (f call)) → At P (get calls k) → At P (option_map f (get calls k))
keep_known P calls k f call known keep p = subst (λ o. At P (option_map f o)) (sym known) (keep (subst (At P) known p))

at_calls : (P : Call → Type 0) (h : Machine) (id : CallId) (m : Calls) → h.calls ≡ m → At P (get m id) → At P (get h.calls id)
at_calls P h id m e p = subst (λ n. At P (get n id)) (sym e) p

at_ended : (P : Call → Type 0) → Stays P → (g h : Machine) (k id : CallId) (call : Call) (a : Answer) → get g.calls k ≡ Some call → call.state ≡ Open → h.calls ≡ altered g.calls k (with_state (Done a)) → At P (get g.calls id) → At P (get h.calls id)
at_ended P stays g h k id call a known is_open is p =
    at_calls P h id _ is (at_altered P g.calls k (with_state (Done a)) id (keep_known P g.calls k (with_state (Done a)) call known (stays.moved call (Done a) (inl is_open))) p)

pub stays_at : (P : Call → Type 0) → Stays P → (g : Machine) (s : GStep) (h : Machine) (id : CallId) → Step g s (Ok h) → IsSoundMachine g → At P (get g.calls id) → At P (get h.calls id)
stays_at P stays g (Invoke k op) h id e v p =
    let t = invoke_held g k op h e in
    at_calls P h id _ (calls_of h _ t.is) (by_key (λ q. At P (get g.calls q) → At P (get (insert g.calls k _) q)) k id
    (λ w. absurd (subst (At P) t.fresh w))
    (λ a w. subst (At P) (sym (with_at_apart calls_total g.calls k (Some _) id a)) w) p)
stays_at P stays g (Begin k) h id e v p =
    let t = begin_held g k h e in
    at_calls P h id _ (calls_of h _ t.is) (at_altered P g.calls k (with_state Begun) id (keep_known P g.calls k (with_state Begun) t.call t.known (stays.moved t.call Begun (inl t.open_then))) p)
stays_at P stays g (Skip k) h id e v p = let t = skip_held g k h e in at_ended P stays g h k id t.call t.answer t.known t.open_then (calls_of h _ t.is) p
stays_at P stays g (Refuse k) h id e v p = let t = refuse_held g k h e in at_ended P stays g h k id t.call t.answer t.known t.open_then (calls_of h _ t.is) p
stays_at P stays g (InHalf x) h id e v p = let t = in_held g x h e in at_calls P h id _ (calls_of h _ t.is) p
stays_at P stays g (OutHalf x) h id e v p =
    let t = out_held g x h e in
    let u = v.tied x t.chain t.found in
    at_calls P h id _ (calls_of h _ t.is) (at_altered P g.calls t.chain.id with_shown id (keep_known P g.calls t.chain.id with_shown u.call u.known (stays.shown u.call)) p)
stays_at P stays g (Settle x) h id e v p =
    let t = settle_held g x h e in
    let u = v.tied x t.chain t.found in
    at_calls P h id _ (calls_of h _ t.is) (at_altered P g.calls t.chain.id (with_state (Done Fine)) id (keep_known P g.calls t.chain.id (with_state (Done Fine)) u.call u.known (stays.moved u.call (Done Fine) (inr u.begun))) p)
stays_at P stays g (Cancel x) h id e v p =
    let t = cancel_held g x h e in
    let u = v.tied x t.chain t.found in
    at_calls P h id _ (calls_of h _ t.is) (at_altered P g.calls t.chain.id (with_state (Done Cancelled)) id (keep_known P g.calls t.chain.id (with_state (Done Cancelled)) u.call u.known (stays.moved u.call (Done Cancelled) (inr u.begun))) p)
stays_at P stays g (Vertex k) h id e v p =
    let t = vertex_held g k h e in
    let w = vertex_calls g k t.call.op h t.put in
    at_ended P stays g h k id t.call w.0 t.known t.open_then w.1 p
stays_at P stays g (Read k m) h id e v p = let t = read_step_held g k m h e in at_ended P stays g h k id t.call t.answer t.known t.open_then (calls_of h _ t.is) p
stays_at P stays g (Reply k a) h id e v p =
    let t = reply_held g k a h e in
    at_calls P h id _ (calls_of h _ t.is) (at_altered P g.calls k with_said id (keep_known P g.calls k with_said t.call t.known (stays.said t.call)) p)

abbrev Cancels : Call → Type 0
Cancels call = call.state ≡ Done Cancelled

-- an assuring answer may be given from now on
abbrev Assures : Call → Type 0
Assures call = (call.state ≡ Done Fine) ⊎ ((call.state ≡ Done Pending) ⊎ (call.shown ≡ true))

not_done : {A : Type 0} (s : CallState) (a : Answer) → (s ≡ Open) ⊎ (s ≡ Begun) → s ≡ Done a → A
not_done s a (inl o) e = cc
not_done s a (inr b) e = cc

cancels_stays : Stays Cancels
cancels_stays = record {
  moved = λ call s now p. not_done call.state Cancelled now p;
  shown = λ call p. p;
  said = λ call p. p;
}

moved_assures : (call : Call) (s : CallState) → (call.state ≡ Open) ⊎ (call.state ≡ Begun) → Assures call → Assures (with_state s call)
moved_assures call s now (inl e) = not_done call.state Fine now e
moved_assures call s now (inr (inl e)) = not_done call.state Pending now e
moved_assures call s now (inr (inr e)) = inr (inr e)

shown_assures : (call : Call) → Assures call → Assures (with_shown call)
shown_assures call p = inr (inr refl)

assures_stays : Stays Assures
assures_stays = record { moved = moved_assures; shown = shown_assures; said = λ call p. p }

-- an assuring call is not cancelled
unlike : (call : Call) → Quiet call.state call.shown → Assures call → Cancels call → ⊥
unlike call q (inl e) c = cc
unlike call q (inr (inl e)) c = cc
unlike call q (inr (inr e)) c = let f : call.shown ≡ false = subst (λ s. Quiet s call.shown) c q in cc

unlike_at : (o : Option Call) → QuietAt o → At Assures o → At Cancels o → ⊥
unlike_at None q a c = c
unlike_at (Some call) q a c = unlike call q a c

right_assures : (a : Answer) (call : Call) → IsAssuring a → IsRight a call → Assures call
right_assures a call (inl f) (inl s) = inl (s ∙ ap Done f)
right_assures a call (inr p) (inl s) = inr (inl (s ∙ ap Done p))
right_assures a call f (inr (inl s)) = inr (inr s.1)
right_assures a call (inl f) (inr (inr u)) = cc
right_assures a call (inr p) (inr (inr u)) = cc

right_assures_at : (a : Answer) (o : Option Call) → IsAssuring a → IsRightAt a o → At Assures o
right_assures_at a None f r = r
right_assures_at a (Some call) f r = right_assures a call f r

reply_assures : (g : Machine) (s : GStep) (h : Machine) (id : CallId) (a : Answer) → IsAssuring a → s ≡ Reply id a → Step g s (Ok h) → At Assures (get g.calls id)
reply_assures g s h id a f is e = let t = reply_held g id a h (subst (λ x. Step g x (Ok h)) is e) in right_assures_at a (get g.calls id) f t.right

-- what stays does so to the end of a run
pub run_stays : (P : Call → Type 0) → Stays P → (g : Machine) (steps : List GStep) (h : Machine) (id : CallId) → Run g steps h → IsSoundMachine g → At P (get g.calls id) → At P (get h.calls id)
run_stays P stays g [] h id r v p = subst (λ m. At P (get m.calls id)) (sym r) p
run_stays P stays g (s ∷ steps) h id r v p = run_stays P stays r.0 steps h id r.2 (step_sound g s r.0 r.1 v) (stays_at P stays g s r.0 id r.1 v p)

pub run_sound : (g : Machine) (steps : List GStep) (h : Machine) → Run g steps h → IsSoundMachine g → IsSoundMachine h
run_sound g [] h r v = subst IsSoundMachine (sym r) v
run_sound g (s ∷ steps) h r v = run_sound r.0 steps h r.2 (step_sound g s r.0 r.1 v)

-- a call that was answered so is assured at the end
told_before : (g : Machine) (steps : List GStep) (h : Machine) (id : CallId) (a : Answer) → IsAssuring a → Run g steps h → IsSoundMachine g → Stands (Reply id a) steps → At Assures (get h.calls id)
told_before g [] h id a f r v t = absurd t
told_before g (s ∷ steps) h id a f r v (inl is) = run_stays Assures assures_stays g (s ∷ steps) h id r v (reply_assures g s r.0 id a f is r.1)
told_before g (s ∷ steps) h id a f r v (inr t) = told_before r.0 steps h id a f r.2 (step_sound g s r.0 r.1 v) t

-- a cancelled call is not answered so
told_after : (g : Machine) (steps : List GStep) (h : Machine) (id : CallId) (a : Answer) → IsAssuring a → Run g steps h → IsSoundMachine g → At Cancels (get g.calls id) → Stands (Reply id a) steps → ⊥
told_after g [] h id a f r v c t = t
told_after g (s ∷ steps) h id a f r v c (inl is) = unlike_at (get g.calls id) (v.quiet id) (reply_assures g s r.0 id a f is r.1) c
told_after g (s ∷ steps) h id a f r v c (inr t) = told_after r.0 steps h id a f r.2 (step_sound g s r.0 r.1 v) (stays_at Cancels cancels_stays g s r.0 id r.1 v c) t

pub start_sound : IsSoundMachine start
start_sound = record {
  tied = λ e p found. (let none : ◌≡◌ {A = Option Chain} None (Some p) = sym (get-empty edge_cmp e) ∙ found in cc);
  quiet = λ id. subst QuietAt (sym (get-empty call_cmp id)) tt;
}

cancelled_at : (o : Option Call) → IsCancelledAt o → At Cancels o
cancelled_at None c = c
cancelled_at (Some call) c = c

pub acknowledged_never_cancelled : (before after : List GStep) (g h : Machine) → Run start before g → Run g after h → (id : CallId) (a : Answer) → IsAssuring a → Stands (Reply id a) before ⊎ Stands (Reply id a) after → IsCancelled g id → ⊥
acknowledged_never_cancelled before after g h r q id a f (inl t) c = let v = run_sound start before g r start_sound in unlike_at (get g.calls id) (v.quiet id) (told_before start before g id a f r start_sound t) (cancelled_at _ c)
acknowledged_never_cancelled before after g h r q id a f (inr t) c = told_after g after h id a f q (run_sound start before g r start_sound) (cancelled_at _ c) t
