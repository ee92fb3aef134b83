-- The new half comes to the edge's destination, and the in-half is written.
use Rattle.std.proofs.Common.{◌≡◌, ℕ, ◌≤◌, ◌<◌, length, [], ◌∷◌, Some, Bool, true, false, refl, ap, sym, subst, ◌∙◌, arith, rules, inl, inr}
use Rattle.std.specs.Prelude.{nat_lt, if◌then◌else◌}
use Rattle.std.specs.Option.{option_map}
use Rattle.std.specs.FinMap.{get}
use Rattle.first_graph.specs.Keys.{in_key}
use Rattle.first_graph.specs.Marks.{with_in_done}
use Rattle.first_graph.specs.Contents.{row_of, changed}
use Rattle.first_graph.specs.Machine.{Machine}
use Rattle.first_graph.specs.declared.change.Change.TheVariants.{In}
use Rattle.first_graph.specs.declared.graph_step.GStep.TheVariants as step
use Rattle.first_graph.proofs.KeyLemmas.{edges_total, ins_total, ins_exact}
use Rattle.first_graph.proofs.Updates.{same_or_apart, with_at_here, with_at_apart, altered_here, altered_apart}
use Rattle.first_part.specs.InHalf.{number_of, row_in}
use Rattle.first_part.specs.Part.{is_fresh, written}
use Rattle.first_part.specs.declared.entry.PartEntry.TheVariants.{Remote}
use Rattle.first_part.specs.declared.applied.Applied.TheVariants.{Done}
use Rattle.nebstore_app.specs.declared.event.Event.TheVariants.{Deliver}
use Rattle.nebstore_app.specs.Packets.{part_of, the_client, the_term}
use Rattle.nebstore_app.specs.World.{World, replica_of, last_call}
use Rattle.nebstore_app.specs.Steps.{Tally, sent_so_far}
use Rattle.nebstore_app.proofs.Goes.{then_in, in_goes}
use Rattle.nebstore_app.proofs.Homes.{replica_alike, map_here, map_apart}
use Rattle.nebstore_app.proofs.Delivery.{came, then_applied, then_delivered, Brings, delivery, delivery_steps, decided_grows, sent_before, sent_behind}
use Rattle.nebstore_app.proofs.Tied.{home, kept_number, Tied, Crossing, remote_packet, done_packet, returning, Next, next, moments_counted, now_taken, past_longer}

lt_true : (a b : ℕ) → a < b → nat_lt a b ≡ true
lt_true a b h = search rules

pub remote_next : (w : World) (t : Tally) (g : Machine) (k : ℕ) → Tied w t g → Crossing w g → Next w t g (Deliver k)
remote_next w t g k tied x =
    let id = last_call w in
    let e = x.edge in
    let entry = Remote (part_of e.src) the_term e x.v x.half in
    let p = remote_packet e x.v x.half in
    let j = part_of e.dst in
    let r = replica_of w j in
    let m = written r.machine e x.v x.half in
    let packet = Some (done_packet e x.v) in
    let rr = then_applied r entry m in
    let h = then_in g e x.half in
    let v = then_delivered w p j entry m packet k in
    let fresh_then : is_fresh r.machine e x.v ≡ true = lt_true (number_of (get r.machine.inn (in_key e))) x.v x.new in
    let b : Brings w p j entry m Done packet = record {
      alone = x.way.alone;
      brings = refl;
      applies = ap (λ (f : Bool). (if f then m else r.machine, Done)) fresh_then;
      sends = refl;
    } in
    let before = sent_before w p x.way.alone in
    let behind = sent_behind w p (done_packet e x.v ∷ []) in
    let grows = decided_grows w p j entry m packet k in
    let placed = x.placed in
    let here = map_here ins_total (λ s. s.machine.inn) (came w p) j rr packet (in_key e) (Some (record { v = x.v; half = x.half })) refl in
    let moment = past_longer g.past (In e x.half) (length g.past) refl in
    let early = x.call.since in
    next w t g (Deliver k) v (step.InHalf e ∷ []) h
    (delivery w p j entry m Done packet k b)
    (delivery_steps w t p j entry m Done packet k b ∙ ap (λ (f : Bool). if f then step.InHalf e ∷ [] else []) fresh_then)
    (h, in_goes g e id x.half false x.chain.pend, refl)
    (record {
      out = λ y. tied.out y ∙ sym (ap (λ mm. get mm y) (replica_alike (λ s. s.machine.out) (came w p) j rr packet refl (part_of y.src)));
      inn = λ y. elim (same_or_apart ins_total ins_exact y (in_key e)) [
        | inl same ↦ subst (λ z. get (changed g.contents (In e x.half)).inn z ≡ row_in (get (home v z.dst).inn z)) (sym same)
            (with_at_here ins_total g.contents.inn (in_key e) (row_of x.half) ∙ sym (ap row_in here))
        | inr apart ↦ with_at_apart ins_total g.contents.inn (in_key e) (row_of x.half) y apart ∙ tied.inn y
            ∙ sym (ap row_in (map_apart ins_total (λ s. s.machine.inn) (came w p) j rr packet (in_key e) y (Some (record { v = x.v; half = x.half })) refl apart (part_of y.dst)))
      ];
      numbers = λ y. elim (same_or_apart ins_total ins_exact y (in_key e)) [
        | inl same ↦ subst (λ z. number_of (get (home v z.dst).inn z) ≤ length (replica_of v (part_of z.src)).decided) (sym same)
            (let number = ap number_of here in let more = grows (part_of e.src) in omega (arith, number, placed, more))
        | inr apart ↦
            let as_before = ap number_of (map_apart ins_total (λ s. s.machine.inn) (came w p) j rr packet (in_key e) y (Some (record { v = x.v; half = x.half })) refl apart (part_of y.dst)) in
            let was = tied.numbers y in
            let more = grows (part_of y.src) in
            omega (arith, as_before, was, more)
      ];
      kept = λ i. let same = ap (λ mm. kept_number (get mm the_client)) (replica_alike (λ s. s.machine.kept) (came w p) j rr packet refl i) in let was = tied.kept i in omega (arith, same, was);
      fresh = tied.fresh;
      counted = moments_counted t.moments (sent_so_far w) (sent_so_far v) t.given tied.counted (omega (arith, before, behind));
      given = past_longer g.past (In e x.half) t.given tied.given;
      now = now_taken g (In e x.half) tied.now;
    })
    (returning (record {
      edge = e;
      v = x.v;
      half = x.half;
      op = x.op;
      way = record { calling = x.way.calling; nothing_due = x.way.nothing_due; alone = refl };
      chain = record {
        pend = altered_here edges_total g.pend e with_in_done ∙ ap (option_map with_in_done) x.chain.pend;
        prime = ap (λ mm. get mm e) (replica_alike (λ s. s.machine.primes) (came w p) j rr packet refl (part_of e.src)) ∙ x.chain.prime;
        no_pend = λ y apart. altered_apart edges_total g.pend e with_in_done y apart ∙ x.chain.no_pend y apart;
        no_prime = λ y apart. ap (λ mm. get mm y) (replica_alike (λ s. s.machine.primes) (came w p) j rr packet refl (part_of y.src)) ∙ x.chain.no_prime y apart;
      };
      call = record {
        call = x.call.call;
        known = x.call.known;
        does = x.call.does;
        is = x.call.is;
        unsaid = x.call.unsaid;
        since = omega (arith, early, moment);
      };
    }))
