-- A call begins: its request is sent, and an edge's chain begins at its source.
use Rattle.std.proofs.Common.{◌≡◌, ℕ, ◌+◌, ◌≤◌, ◌<◌, length, List, [], ◌∷◌, ◌++◌, Option, Some, None, true, false, refl, ap, sym, ◌∙◌, arith, rules, length-append, inl, inr}
use Rattle.std.specs.Prelude.{IsSome, nat_lt, ◌==◌}
use Rattle.std.specs.Option.{option_map}
use Rattle.std.specs.FinMap.{get}
use Rattle.std.specs.Cmp.{nat_cmp_total}
use Rattle.std.specs.Ordering.{eq_by_cmp}
use Rattle.first_graph.specs.Keys.{call_cmp, in_key}
use Rattle.first_graph.specs.Marks.{with_state}
use Rattle.first_graph.specs.Machine.{Machine}
use Rattle.first_graph.specs.declared.val.Val.{Val}
use Rattle.first_graph.specs.declared.edge_id.EdgeId.{EdgeId}
use Rattle.first_graph.specs.declared.call_id.CallId.{CallId}
use Rattle.first_graph.specs.declared.change.Change.TheVariants.{Nothing}
use Rattle.first_graph.specs.declared.half.Half.TheVariants.{Here}
use Rattle.first_graph.specs.declared.op.Op.{Op}
use Rattle.first_graph.specs.declared.op.Op.TheVariants.{PutEdge}
use Rattle.first_graph.specs.declared.call.CallState.TheVariants.{Open, Begun as BegunState}
use Rattle.first_graph.specs.declared.graph_step.GStep.TheVariants as step
use Rattle.first_graph.proofs.KeyLemmas.{edges_total, calls_total, calls_exact}
use Rattle.first_graph.proofs.Updates.{same_or_apart, with_at_here, with_at_apart, altered_here, altered_apart}
use Rattle.first_part.specs.InHalf.{number_of, row_in}
use Rattle.first_part.specs.Part.{Part, where_new, primed, begun}
use Rattle.first_part.specs.declared.clients.Kept.{Kept}
use Rattle.first_part.specs.declared.clients.Outcome.TheVariants.{Open as OpenThen}
use Rattle.first_part.specs.declared.entry.PartEntry.TheVariants.{Prime}
use Rattle.first_part.specs.declared.applied.Applied.{Applied}
use Rattle.first_part.specs.declared.applied.Applied.TheVariants.{Begun}
use Rattle.nebstore_app.specs.declared.event.Event.TheVariants.{Invoke, Deliver}
use Rattle.nebstore_app.specs.Replica.{next_index}
use Rattle.nebstore_app.specs.Packets.{part_of, the_client, request, request_of}
use Rattle.nebstore_app.specs.World.{World, replica_of, next_call, last_call, invoked, noted}
use Rattle.nebstore_app.specs.Steps.{Tally, sent_so_far}
use Rattle.nebstore_app.proofs.Goes.{then_invoked, invoke_goes, then_begun, begin_goes, chain_of}
use Rattle.nebstore_app.proofs.Homes.{replica_alike, replica_each, replica_at, map_here, map_apart}
use Rattle.nebstore_app.proofs.Delivery.{came, then_applied, then_delivered, Brings, delivery, delivery_steps, decided_grows, sent_before, sent_behind}
use Rattle.nebstore_app.proofs.Tied.{kept_number, Tied, NoChain, prime_of, CallIs, AtRest, UnderWay, remote_packet, asked, crossing, Next, next, moments_counted, now_taken, past_longer}

some_of : {A : Type 0} (o : Option A) → IsSome o → (x : A) × (o ≡ Some x)
some_of None h = cc
some_of (Some x) h = (x, refl)

by_same : (m n : ℕ) → m < n → (a b : CallId) → a.number ≡ n → b.number ≡ m → eq_by_cmp call_cmp a b ≡ false
by_same m n less a b is_n is_m =
    elim (same_or_apart calls_total calls_exact a b) [
      | inl same ↦ let e = ap (λ (c : CallId). c.number) same in absurd (omega (arith, e))
      | inr apart ↦ apart
    ]

-- two calls of the client are apart
pub calls_apart : (m n : ℕ) → m < n → eq_by_cmp call_cmp (record { client = the_client; number = n }) (record { client = the_client; number = m }) ≡ false
calls_apart m n less = by_same m n less (record { client = the_client; number = n }) (record { client = the_client; number = m }) refl refl

-- the client's next call is invoked
pub invoke_next : (w : World) (t : Tally) (g : Machine) (op : Op) → Tied w t g → AtRest w g → IsSome (request_of (next_call w) op) → Next w t g (Invoke (next_call w) op)
invoke_next w t g op tied rest served =
    let s = some_of (request_of (next_call w) op) served in
    let id = next_call w in
    let h = then_invoked g id op in
    let v : World = noted (record w { waiting = w.waiting ++ s.0 ∷ []; last = w.last + 1; calling = true }) (Invoke id op) in
    let many = length-append w.waiting (s.0 ∷ []) in
    let longer = past_longer g.past Nothing t.given tied.given in
    let moment = past_longer g.past Nothing (length g.past) refl in
    next w t g (Invoke id op) v (step.Invoke id op ∷ []) h
    (ap (λ o. noted (invoked w id o) (Invoke id op)) s.1) refl
    (h, invoke_goes g id op (tied.fresh (w.last + 1) (omega arith)), refl)
    (record {
      out = tied.out;
      inn = tied.inn;
      numbers = tied.numbers;
      kept = λ i. let k = tied.kept i in omega (arith, k);
      fresh = λ n more. with_at_apart calls_total g.calls id (Some (record { op = op; moment = length g.past + 1; state = Open; shown = false; said = false })) (record { client = the_client; number = n }) (calls_apart (w.last + 1) n more) ∙ tied.fresh n (omega (arith, more));
      counted = moments_counted t.moments (sent_so_far w) (sent_so_far v) t.given tied.counted (omega (arith, many));
      given = longer;
      now = now_taken g Nothing tied.now;
    })
    (asked (record {
      packet = s.0;
      op = op;
      way = record { calling = refl; nothing_due = rest.nothing_due; alone = ap (λ ws. ws ++ s.0 ∷ []) rest.nobody };
      asks = s.1;
      call = record {
        call = record { op = op; moment = length g.past + 1; state = Open; shown = false; said = false };
        known = with_at_here calls_total g.calls id (Some (record { op = op; moment = length g.past + 1; state = Open; shown = false; said = false }));
        does = refl;
        is = refl;
        unsaid = refl;
        since = omega (arith, moment);
      };
      below = λ i. let k = tied.kept i in omega (arith, k);
      no_chain = record { pend = rest.no_chain.pend; primes = rest.no_chain.primes };
    }))

lt_false : (a b : ℕ) → b ≤ a → nat_lt a b ≡ false
lt_false a b h = search rules

eq_false : (a b : ℕ) → b < a → (a == b) ≡ false
eq_false a b h = search rules

-- a call with a number past the client's last one is new
new_goes : (p : Part) (id : CallId) (o : Option Kept) (x : Part × Applied) → kept_number o < id.number → where_new p id o x ≡ x
new_goes p id None x h = refl
new_goes p id (Some kept) x h = rw (lt_false id.number kept.number (omega (arith, h)), eq_false id.number kept.number h) refl

-- the request of an edge comes to the part of its source, and its chain begins
pub put_next : (w : World) (t : Tally) (g : Machine) (k : ℕ) (e : EdgeId) (row : List Val) → Tied w t g
    → UnderWay w (request (last_call w) e.src (Prime (last_call w) e (Here row) false)) → CallIs g (last_call w) (PutEdge e row false) Open
    → ((i : ℕ) → kept_number (get (replica_of w i).machine.kept the_client) < w.last) → NoChain w g → Next w t g (Deliver k)
put_next w t g k e row tied way call below none =
    let id = last_call w in
    let half = Here row in
    let entry = Prime id e half false in
    let p = request id e.src entry in
    let j = part_of e.src in
    let r = replica_of w j in
    let c = next_index r in
    let m = begun r.machine c id e half in
    let packet = Some (remote_packet e c half) in
    let rr = then_applied r entry m in
    let h = then_begun g id e half in
    let v = then_delivered w p j entry m packet k in
    let b : Brings w p j entry m (Begun c) packet = record {
      alone = way.alone;
      brings = refl;
      applies = new_goes r.machine id (get r.machine.kept the_client) _ (below j) ∙ ap (primed r.machine c id e half false) (none.primes e);
      sends = refl;
    } in
    let same_inn = λ (i : ℕ). replica_alike (λ s. s.machine.inn) (came w p) j rr packet refl i in
    let before = sent_before w p way.alone in
    let behind = sent_behind w p (remote_packet e c half ∷ []) in
    let own = with_at_here nat_cmp_total r.machine.kept the_client (Some (record { number = w.last; outcome = OpenThen })) in
    let own_number = ap kept_number own in
    let grows = decided_grows w p j entry m packet k in
    let low = tied.numbers (in_key e) in
    let longer = length-append r.decided (entry ∷ []) in
    let there = ap (λ s. length s.decided) (replica_at (came w p) j rr packet) in
    let moment = past_longer g.past Nothing (length g.past) refl in
    let early = call.since in
    next w t g (Deliver k) v (step.Begin id ∷ []) h
    (delivery w p j entry m (Begun c) packet k b) (delivery_steps w t p j entry m (Begun c) packet k b)
    (h, begin_goes g id call.call e row call.known call.is call.does (none.pend e), refl)
    (record {
      out = λ x. tied.out x ∙ sym (ap (λ mm. get mm x) (replica_alike (λ s. s.machine.out) (came w p) j rr packet refl (part_of x.src)));
      inn = λ x. tied.inn x ∙ sym (ap (λ mm. row_in (get mm x)) (same_inn (part_of x.dst)));
      numbers = λ x.
          let as_before = ap (λ mm. number_of (get mm x)) (same_inn (part_of x.dst)) in
          let was = tied.numbers x in
          let more = grows (part_of x.src) in
          omega (arith, as_before, was, more);
      kept = replica_each (λ s. kept_number (get s.machine.kept the_client) ≤ w.last) (came w p) j rr packet (omega (arith, own_number)) tied.kept;
      fresh = λ n more. altered_apart calls_total g.calls id (with_state BegunState) (record { client = the_client; number = n }) (calls_apart w.last n more) ∙ tied.fresh n more;
      counted = moments_counted t.moments (sent_so_far w) (sent_so_far v) t.given tied.counted (omega (arith, before, behind));
      given = past_longer g.past Nothing t.given tied.given;
      now = now_taken g Nothing tied.now;
    })
    (crossing (record {
      edge = e;
      v = c;
      half = half;
      op = PutEdge e row false;
      way = record { calling = way.calling; nothing_due = way.nothing_due; alone = refl };
      chain = record {
        pend = with_at_here edges_total g.pend e (Some (chain_of id half false false));
        prime = map_here edges_total (λ s. s.machine.primes) (came w p) j rr packet e (Some (prime_of e c id half)) refl;
        no_pend = λ x apart. with_at_apart edges_total g.pend e (Some (chain_of id half false false)) x apart ∙ none.pend x;
        no_prime = λ x apart. map_apart edges_total (λ s. s.machine.primes) (came w p) j rr packet e x (Some (prime_of e c id half)) refl apart (part_of x.src) ∙ none.primes x;
      };
      call = record {
        call = with_state BegunState call.call;
        known = altered_here calls_total g.calls id (with_state BegunState) ∙ ap (option_map (with_state BegunState)) call.known;
        does = call.does;
        is = refl;
        unsaid = call.unsaid;
        since = omega (arith, early, moment);
      };
      new = let as_before = ap (λ mm. number_of (get mm (in_key e))) (same_inn (part_of e.dst)) in omega (arith, as_before, low);
      placed = omega (arith, longer, there);
    }))
