-- The source's part knows that the in-half is written: the out-half is written, and the chain is settled.
use Rattle.std.proofs.Common.{◌≡◌, ℕ, ◌≤◌, length, [], ◌∷◌, Option, Some, None, Bool, true, refl, ap, sym, subst, ◌∙◌, arith, rules, inl, inr}
use Rattle.std.specs.Prelude.{◌==◌, ◌&&◌, if◌then◌else◌}
use Rattle.std.specs.Option.{option_map}
use Rattle.std.specs.FinMap.{get, remove}
use Rattle.std.specs.Cmp.{nat_cmp_total}
use Rattle.first_graph.specs.Marks.{with_out_done, with_shown, with_state}
use Rattle.first_graph.specs.Contents.{row_of, changed}
use Rattle.first_graph.specs.Machine.{Machine}
use Rattle.first_graph.specs.declared.change.Change.TheVariants.{Nothing, Out}
use Rattle.first_graph.specs.declared.answer.Answer.TheVariants.{Fine}
use Rattle.first_graph.specs.declared.call.CallState.TheVariants.{Done as DoneState}
use Rattle.first_graph.specs.declared.graph_step.GStep.TheVariants as step
use Rattle.first_graph.proofs.KeyLemmas.{edges_total, edges_exact, calls_total}
use Rattle.first_graph.proofs.Updates.{same_or_apart, with_at_here, with_at_apart, altered_here, altered_apart}
use Rattle.first_part.specs.InHalf.{number_of, row_in}
use Rattle.first_part.specs.Kept.{settled}
use Rattle.first_part.specs.Part.{localized, settling}
use Rattle.first_part.specs.declared.clients.Kept.{Kept}
use Rattle.first_part.specs.declared.entry.PartEntry.TheVariants.{Local}
use Rattle.first_part.specs.declared.applied.Applied.TheVariants.{Settled, Nothing as NothingDone}
use Rattle.nebstore_app.specs.declared.event.Event.TheVariants.{Deliver}
use Rattle.nebstore_app.specs.Packets.{part_of, the_client, answer_packet}
use Rattle.nebstore_app.specs.World.{World, replica_of, last_call}
use Rattle.nebstore_app.specs.Steps.{Tally, sent_so_far}
use Rattle.nebstore_app.proofs.Goes.{then_out, out_goes, then_settled, settle_goes}
use Rattle.nebstore_app.proofs.Homes.{replica_alike, replica_each, map_here, map_apart}
use Rattle.nebstore_app.proofs.Delivery.{came, then_applied, then_delivered, Brings, delivery, delivery_steps, decided_grows, sent_before, sent_behind}
use Rattle.nebstore_app.proofs.Tied.{home, kept_number, Tied, prime_of, Returning, done_packet, answered, Next, next, moments_counted, now_taken, past_longer, settled as right_settled}
use Rattle.nebstore_app.proofs.Begins.{calls_apart}

eq_true : (a : ℕ) → (a == a) ≡ true
eq_true a = search rules

-- the number of a client's last call stays where that call is settled
kept_stays : (o : Option Kept) (n : ℕ) → kept_number (option_map (settled n) o) ≡ kept_number o
kept_stays None n = refl
kept_stays (Some kept) n = refl

pub done_next : (w : World) (t : Tally) (g : Machine) (k : ℕ) → Tied w t g → Returning w g → Next w t g (Deliver k)
done_next w t g k tied x =
    let id = last_call w in
    let e = x.edge in
    let entry = Local e x.v in
    let p = done_packet e x.v in
    let j = part_of e.src in
    let r = replica_of w j in
    let prime = prime_of e x.v id x.half in
    let m = settling r.machine e prime in
    let packet = Some (answer_packet j id Fine) in
    let rr = then_applied r entry m in
    let h = then_out g e id x.half in
    let hh = then_settled h e id in
    let v = then_delivered w p j entry m packet k in
    let b : Brings w p j entry m (Settled id) packet = record {
      alone = x.way.alone;
      brings = refl;
      applies = ap (localized r.machine e x.v) x.chain.prime ∙ ap (λ (f : Bool). if f && true then (m, Settled id) else (r.machine, NothingDone)) (eq_true x.v);
      sends = refl;
    } in
    let before = sent_before w p x.way.alone in
    let behind = sent_behind w p (answer_packet j id Fine ∷ []) in
    let grows = decided_grows w p j entry m packet k in
    let here = map_here edges_total (λ s. s.machine.out) (came w p) j rr packet e (row_of x.half) refl in
    let both_done = altered_here edges_total g.pend e with_out_done ∙ ap (option_map with_out_done) x.chain.pend in
    let moment = past_longer g.past (Out e x.half) (length g.past) refl in
    let moment_then = past_longer h.past Nothing (length h.past) refl in
    let given_then = past_longer g.past (Out e x.half) t.given tied.given in
    let early = x.call.since in
    let kept_there = altered_here nat_cmp_total r.machine.kept the_client (settled w.last) in
    let own = ap kept_number kept_there ∙ kept_stays (get r.machine.kept the_client) w.last in
    let was_kept = tied.kept j in
    next w t g (Deliver k) v (step.OutHalf e ∷ step.Settle e ∷ []) hh
    (delivery w p j entry m (Settled id) packet k b) (delivery_steps w t p j entry m (Settled id) packet k b)
    (h, out_goes g e id x.half true x.chain.pend, (hh, settle_goes h e id x.half both_done, refl))
    (record {
      out = λ y. elim (same_or_apart edges_total edges_exact y e) [
        | inl same ↦ subst (λ z. get (changed g.contents (Out e x.half)).out z ≡ get (home v z.src).out z) (sym same)
            (with_at_here edges_total g.contents.out e (row_of x.half) ∙ sym here)
        | inr apart ↦ with_at_apart edges_total g.contents.out e (row_of x.half) y apart ∙ tied.out y
            ∙ sym (map_apart edges_total (λ s. s.machine.out) (came w p) j rr packet e y (row_of x.half) refl apart (part_of y.src))
      ];
      inn = λ y. tied.inn y ∙ sym (ap (λ mm. row_in (get mm y)) (replica_alike (λ s. s.machine.inn) (came w p) j rr packet refl (part_of y.dst)));
      numbers = λ y.
          let as_before = ap (λ mm. number_of (get mm y)) (replica_alike (λ s. s.machine.inn) (came w p) j rr packet refl (part_of y.dst)) in
          let was = tied.numbers y in
          let more = grows (part_of y.src) in
          omega (arith, as_before, was, more);
      kept = replica_each (λ s. kept_number (get s.machine.kept the_client) ≤ w.last) (came w p) j rr packet (omega (arith, own, was_kept)) tied.kept;
      fresh = λ n more.
          altered_apart calls_total h.calls id (with_state (DoneState Fine)) (record { client = the_client; number = n }) (calls_apart w.last n more)
          ∙ altered_apart calls_total g.calls id with_shown (record { client = the_client; number = n }) (calls_apart w.last n more) ∙ tied.fresh n more;
      counted = moments_counted t.moments (sent_so_far w) (sent_so_far v) t.given tied.counted (omega (arith, before, behind));
      given = omega (arith, given_then, moment_then);
      now = now_taken h Nothing (now_taken g (Out e x.half) tied.now);
    })
    (answered (record {
      part = j;
      answer = Fine;
      way = record { calling = x.way.calling; nothing_due = x.way.nothing_due; alone = refl };
      right = right_settled x.op (record {
        call = with_state (DoneState Fine) (with_shown x.call.call);
        known = altered_here calls_total h.calls id (with_state (DoneState Fine)) ∙ ap (option_map (with_state (DoneState Fine))) (altered_here calls_total g.calls id with_shown ∙ ap (option_map with_shown) x.call.known);
        does = x.call.does;
        is = refl;
        unsaid = x.call.unsaid;
        since = omega (arith, early, moment, moment_then);
      });
      no_chain = record {
        pend = λ y. elim (same_or_apart edges_total edges_exact y e) [
          | inl same ↦ subst (λ z. get (remove h.pend e) z ≡ None) (sym same) (with_at_here edges_total h.pend e None)
          | inr apart ↦ with_at_apart edges_total h.pend e None y apart ∙ altered_apart edges_total g.pend e with_out_done y apart ∙ x.chain.no_pend y apart
        ];
        primes = λ y. elim (same_or_apart edges_total edges_exact y e) [
          | inl same ↦ subst (λ z. get (home v z.src).primes z ≡ None) (sym same) (map_here edges_total (λ s. s.machine.primes) (came w p) j rr packet e None refl)
          | inr apart ↦ map_apart edges_total (λ s. s.machine.primes) (came w p) j rr packet e y None refl apart (part_of y.src) ∙ x.chain.no_prime y apart
        ];
      };
    }))
