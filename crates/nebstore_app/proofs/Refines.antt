-- Each run of the world gives a run of the graph machine.
use Rattle.std.proofs.Common.{◌≡◌, ℕ, ◌<◌, length, List, [], ◌∷◌, ◌++◌, Some, None, true, false, refl, ap, sym, subst, ◌∙◌, arith}
use Rattle.std.specs.Prelude.{IsSome, ◌==◌, if◌then◌else◌}
use Rattle.std.specs.Option.{option_map}
use Rattle.std.specs.FinMap.{get, get-empty}
use Rattle.std.specs.Ordering.{nat_cmp}
use Rattle.first_graph.specs.Keys.{edge_cmp, in_cmp, call_cmp}
use Rattle.first_graph.specs.Machine.{Machine, start as nothing_yet}
use Rattle.first_graph.specs.Run.{Run as GraphRun}
use Rattle.first_graph.specs.declared.answer.Answer.{Answer}
use Rattle.first_graph.specs.declared.call_id.CallId.{CallId}
use Rattle.first_graph.specs.declared.op.Op.{Op}
use Rattle.first_graph.specs.declared.op.Op.TheVariants.{PutEdge, DelEdge, PutVertex, DelVertex, Read as ReadOp}
use Rattle.first_graph.specs.declared.query.Query.TheVariants.{Tag, Edge, Out, In, Both}
use Rattle.first_graph.specs.declared.call.CallState.TheVariants.{Open}
use Rattle.first_graph.specs.declared.graph_step.GStep.{GStep}
use Rattle.first_part.specs.InHalf.{number_of, row_in}
use Rattle.nebstore_app.specs.declared.due.Due.{Due}
use Rattle.nebstore_app.specs.declared.packet.Packet.{Packet}
use Rattle.nebstore_app.specs.declared.event.Event.{Event}
use Rattle.nebstore_app.specs.declared.event.Event.TheVariants.{Invoke, Deliver, Reply}
use Rattle.nebstore_app.specs.Replica.{fresh}
use Rattle.nebstore_app.specs.Packets.{part_of, the_client, request_of}
use Rattle.nebstore_app.specs.World.{World, start, replica_of, last_call, answer_due, after, Lawful, Run, IsReached}
use Rattle.nebstore_app.specs.Steps.{Tally, at_start, steps_of_event, steps_from, steps_of, tallied}
use Rattle.nebstore_app.proofs.Begins.{invoke_next, put_next}
use Rattle.nebstore_app.proofs.Crosses.{remote_next}
use Rattle.nebstore_app.proofs.Settles.{done_next}
use Rattle.nebstore_app.proofs.Shows.{read_next, out_same, in_same}
use Rattle.nebstore_app.proofs.Ends.{answer_next, reply_next}
use Rattle.nebstore_app.proofs.Tied.{kept_number, Tied, NoChain, CallIs, AtRest, UnderWay, Phase, at_rest, asked, crossing, returning, answered, over, Next}

same_some : {A : Type 0} (x y : A) → Some x ≡ Some y → x ≡ y
same_some x y e = cc

-- the request under way comes
asked_next : (w : World) (t : Tally) (g : Machine) (k : ℕ) (p : Packet) (op : Op) → Tied w t g → UnderWay w p → request_of (last_call w) op ≡ Some p → CallIs g (last_call w) op Open
    → ((i : ℕ) → kept_number (get (replica_of w i).machine.kept the_client) < w.last) → NoChain w g → Next w t g (Deliver k)
asked_next w t g k p (PutEdge e row true) tied way asks call below none = absurd (cc)
asked_next w t g k p (PutEdge e row false) tied way asks call below none = put_next w t g k e row tied (subst (UnderWay w) (sym (same_some _ p asks)) way) call below none
asked_next w t g k p (DelEdge e) tied way asks call below none = absurd (cc)
asked_next w t g k p (PutVertex v n row absent) tied way asks call below none = absurd (cc)
asked_next w t g k p (DelVertex v) tied way asks call below none = absurd (cc)
asked_next w t g k p (ReadOp (Tag v n)) tied way asks call below none = absurd (cc)
asked_next w t g k p (ReadOp (Edge e)) tied way asks call below none = absurd (cc)
asked_next w t g k p (ReadOp (Out v types)) tied way asks call below none = read_next w t g k v (Out v types) tied (out_same w t g v types tied) (subst (UnderWay w) (sym (same_some _ p asks)) way) call none
asked_next w t g k p (ReadOp (In v types)) tied way asks call below none = read_next w t g k v (In v types) tied (in_same w t g v types tied) (subst (UnderWay w) (sym (same_some _ p asks)) way) call none
asked_next w t g k p (ReadOp (Both v types)) tied way asks call below none = absurd (cc)

invoke_then : (w : World) (t : Tally) (g : Machine) (id : CallId) (op : Op) → Tied w t g → Phase w t g → Lawful w (Invoke id op) → Next w t g (Invoke id op)
invoke_then w t g id op tied (at_rest rest) h = subst (λ i. Next w t g (Invoke i op)) (sym h.1) (invoke_next w t g op tied rest (subst (λ i. IsSome (request_of i op)) h.1 h.2))
invoke_then w t g id op tied (asked x) h = let a = h.0 in let b = x.way.calling in absurd (cc)
invoke_then w t g id op tied (crossing x) h = let a = h.0 in let b = x.way.calling in absurd (cc)
invoke_then w t g id op tied (returning x) h = let a = h.0 in let b = x.way.calling in absurd (cc)
invoke_then w t g id op tied (answered x) h = let a = h.0 in let b = x.way.calling in absurd (cc)
invoke_then w t g id op tied (over x) h = let a = h.0 in let b = x.calling in absurd (cc)

deliver_then : (w : World) (t : Tally) (g : Machine) (k : ℕ) → Tied w t g → Phase w t g → Lawful w (Deliver k) → Next w t g (Deliver k)
deliver_then w t g k tied (at_rest rest) h = let none = ap length rest.nobody in let some = h.1 in absurd (omega (arith, none, some))
deliver_then w t g k tied (asked x) h = asked_next w t g k x.packet x.op tied x.way x.asks x.call x.below x.no_chain
deliver_then w t g k tied (crossing x) h = remote_next w t g k tied x
deliver_then w t g k tied (returning x) h = done_next w t g k tied x
deliver_then w t g k tied (answered x) h = answer_next w t g k tied x
deliver_then w t g k tied (over x) h = let none = ap length x.nobody in let some = h.1 in absurd (omega (arith, none, some))

none_due : (w : World) (a : Answer) → w.due ≡ None → answer_due w ≡ Some a → ⊥
none_due w a none some = let e = sym (ap (option_map (λ d. d.answer)) none) ∙ some in cc

reply_then : (w : World) (t : Tally) (g : Machine) (id : CallId) (a : Answer) → Tied w t g → Phase w t g → Lawful w (Reply id a) → Next w t g (Reply id a)
reply_then w t g id a tied (at_rest x) h = absurd (none_due w a x.nothing_due h.0)
reply_then w t g id a tied (asked x) h = absurd (none_due w a x.way.nothing_due h.0)
reply_then w t g id a tied (crossing x) h = absurd (none_due w a x.way.nothing_due h.0)
reply_then w t g id a tied (returning x) h = absurd (none_due w a x.way.nothing_due h.0)
reply_then w t g id a tied (answered x) h = absurd (none_due w a x.way.nothing_due h.0)
reply_then w t g id a tied (over x) h =
    let same : x.due.answer ≡ a = same_some _ a (sym (ap (option_map (λ d. d.answer)) x.is_due) ∙ h.0) in
    subst (λ i. Next w t g (Reply i a)) (sym h.1) (subst (λ b. Next w t g (Reply (last_call w) b)) same (reply_next w t g x.due.packet x.due.answer tied x.is_due x.nobody x.right x.no_chain))

pub event_next : (w : World) (t : Tally) (g : Machine) (e : Event) → Tied w t g → Phase w t g → Lawful w e → Next w t g e
event_next w t g (Invoke id op) tied phase h = invoke_then w t g id op tied phase h
event_next w t g (Deliver k) tied phase h = deliver_then w t g k tied phase h
event_next w t g (Reply id a) tied phase h = reply_then w t g id a tied phase h

-- one run and then another
run-append : (g : Machine) (before : List GStep) (mid : Machine) (steps : List GStep) (h : Machine) → GraphRun g before mid → GraphRun mid steps h → GraphRun g (before ++ steps) h
run-append g [] mid steps h r s = subst (λ m. GraphRun m steps h) r s
run-append g (x ∷ before) mid steps h r s = (r.0, r.1, run-append r.0 before mid steps h r.2 s)

-- where a run of the world leads, the graph machine hangs together with it
pub record Refines (g : Machine) (steps : List GStep) (v : World) : Type 0 where
  pub t : Tally
  pub h : Machine
  pub goes : GraphRun g steps h
  pub tied : Tied v t h
  pub phase : Phase v t h

refines_from : (w : World) (t : Tally) (g : Machine) (events : List Event) (v : World) → Tied w t g → Phase w t g → Run w events v → Refines g (steps_from w t events) v
refines_from w t g [] v tied phase r = record { t = t; h = g; goes = refl; tied = subst (λ u. Tied u t g) (sym r) tied; phase = subst (λ u. Phase u t g) (sym r) phase }
refines_from w t g (e ∷ events) v tied phase r =
    let n = event_next w t g e tied phase r.0 in
    let rest = refines_from (after w e) (tallied w t e) n.h events v n.tied n.phase r.1 in
    record { t = rest.t; h = rest.h; goes = run-append g (steps_of_event w t e) n.h (steps_from (after w e) (tallied w t e) events) rest.h n.goes rest.goes; tied = rest.tied; phase = rest.phase }

fresh_at : (i : ℕ) → replica_of start i ≡ fresh
fresh_at i = elim (i == 1) as (λ b. (if b then fresh else fresh) ≡ fresh) [ true ↦ refl | false ↦ refl ]

tied_at_start : Tied start at_start nothing_yet
tied_at_start = record {
  out = λ e. get-empty edge_cmp e ∙ sym (ap (λ r. get r.machine.out e) (fresh_at (part_of e.src)) ∙ get-empty edge_cmp e);
  inn = λ k. get-empty in_cmp k ∙ sym (ap row_in (ap (λ r. get r.machine.inn k) (fresh_at (part_of k.dst)) ∙ get-empty in_cmp k));
  numbers = λ k. let e = ap number_of (ap (λ r. get r.machine.inn k) (fresh_at (part_of k.dst)) ∙ get-empty in_cmp k) in omega (arith, e);
  kept = λ i. let e = ap kept_number (ap (λ r. get r.machine.kept the_client) (fresh_at i) ∙ get-empty nat_cmp the_client) in omega (arith, e);
  fresh = λ n more. get-empty call_cmp _;
  counted = refl;
  given = refl;
  now = refl;
}

rest_at_start : AtRest start nothing_yet
rest_at_start = record {
  resting = refl;
  nothing_due = refl;
  nobody = refl;
  no_chain = record {
    pend = λ e. get-empty edge_cmp e;
    primes = λ e. ap (λ r. get r.machine.primes e) (fresh_at (part_of e.src)) ∙ get-empty edge_cmp e;
  };
}

pub refines : (events : List Event) (w : World) → Run start events w → Refines nothing_yet (steps_of events) w
refines events w r = refines_from start at_start nothing_yet events w tied_at_start (at_rest rest_at_start) r

-- where the client's call is open and nothing is under way, an answer is due
due_in : (w : World) (t : Tally) (g : Machine) → Phase w t g → w.calling ≡ true → w.waiting ≡ [] → IsSome (answer_due w)
due_in w t g (at_rest x) calling nobody = let a = x.resting in absurd (cc)
due_in w t g (asked x) calling nobody = let a = sym nobody ∙ x.way.alone in absurd (cc)
due_in w t g (crossing x) calling nobody = let a = sym nobody ∙ x.way.alone in absurd (cc)
due_in w t g (returning x) calling nobody = let a = sym nobody ∙ x.way.alone in absurd (cc)
due_in w t g (answered x) calling nobody = let a = sym nobody ∙ x.way.alone in absurd (cc)
due_in w t g (over x) calling nobody = subst (λ o. IsSome (option_map (λ (d : Due). d.answer) o)) (sym x.is_due) refl

pub due_when_quiet : (w : World) → IsReached w → w.calling ≡ true → w.waiting ≡ [] → IsSome (answer_due w)
due_when_quiet w r calling nobody = let f = refines w.events w r in due_in w f.t f.h f.phase calling nobody
