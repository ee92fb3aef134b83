-- What the delivery of the one packet under way makes of the world.
use Rattle.std.proofs.Common.{◌≡◌, ℕ, ◌+◌, ◌≤◌, length, List, [], ◌∷◌, ◌++◌, drop, Option, Some, None, ap, ◌∙◌, arith, length-append, inl, inr}
use Rattle.std.specs.Prelude.{slice_get}
use Rattle.first_graph.specs.declared.answer.Answer.{Answer}
use Rattle.first_part.specs.Part.{Part, applied}
use Rattle.first_part.specs.declared.entry.PartEntry.{PartEntry}
use Rattle.first_part.specs.declared.applied.Applied.{Applied}
use Rattle.nebstore_app.specs.declared.packet.Packet.{Packet}
use Rattle.nebstore_app.specs.declared.event.Event.TheVariants.{Deliver}
use Rattle.nebstore_app.specs.Replica.{Replica, next_index}
use Rattle.nebstore_app.specs.Packets.{entry_in, answer_in, sent}
use Rattle.nebstore_app.specs.World.{World, replica_of, with_replica, after, delivered, received, noted, due_after}
use Rattle.nebstore_app.specs.Steps.{Tally, steps_of_event, steps_of_delivery, steps_at, steps_of_entry}
use Rattle.nebstore_app.proofs.Homes.{replica_either}

-- the world in which the packet has come and nothing else
abbrev pub came : World → Packet → World
came w p = record w { passed = w.passed ++ p ∷ []; waiting = [] }

-- the replica after an entry that leaves this machine
abbrev pub then_applied : Replica → PartEntry → Part → Replica
then_applied r entry m = record { machine = m; decided = r.decided ++ entry ∷ [] }

-- the world after a part applied an entry
abbrev pub then_delivered : World → Packet → ℕ → PartEntry → Part → Option Packet → ℕ → World
then_delivered w p j entry m packet k = noted (with_replica (came w p) j (then_applied (replica_of w j) entry m) packet) (Deliver k)

-- one packet is under way, and it brings this entry, which the part answers so and from which this packet follows
pub record Brings (w : World) (p : Packet) (j : ℕ) (entry : PartEntry) (m : Part) (a : Applied) (packet : Option Packet) : Type 0 where
  pub alone : w.waiting ≡ p ∷ []
  pub brings : entry_in p ≡ Some (j, entry)
  pub applies : applied (replica_of w j).machine (next_index (replica_of w j)) entry ≡ (m, a)
  pub sends : sent j p.from entry a ≡ packet

pub delivery : (w : World) (p : Packet) (j : ℕ) (entry : PartEntry) (m : Part) (a : Applied) (packet : Option Packet) (k : ℕ) → Brings w p j entry m a packet → after w (Deliver k) ≡ then_delivered w p j entry m packet k
delivery w p j entry m a packet k b =
    let first : slice_get w.waiting 0 ≡ Some p = ap (λ ws. slice_get ws 0) b.alone in
    let rest : drop 1 w.waiting ≡ [] = ap (drop 1) b.alone in
    let after_first : after w (Deliver k) ≡ noted (delivered w (Some p)) (Deliver k) = ap (λ o. noted (delivered w o) (Deliver k)) first in
    let after_rest : noted (delivered w (Some p)) (Deliver k) ≡ noted (received (came w p) (length w.passed) p (entry_in p)) (Deliver k) =
    ap (λ ws. noted (received (record w { passed = w.passed ++ p ∷ []; waiting = ws }) (length w.passed) p (entry_in p)) (Deliver k)) rest in
    let after_entry : noted (received (came w p) (length w.passed) p (entry_in p)) (Deliver k) ≡ noted (received (came w p) (length w.passed) p (Some (j, entry))) (Deliver k) =
    ap (λ o. noted (received (came w p) (length w.passed) p o) (Deliver k)) b.brings in
    let after_applied : noted (received (came w p) (length w.passed) p (Some (j, entry))) (Deliver k) ≡ then_delivered w p j entry m (sent j p.from entry a) k =
    ap (λ (x : Part × Applied). noted (with_replica (came w p) j (then_applied (replica_of w j) entry x.0) (sent j p.from entry x.1)) (Deliver k)) b.applies in
    after_first ∙ (after_rest ∙ (after_entry ∙ (after_applied ∙ ap (λ q. then_delivered w p j entry m q k) b.sends)))

pub delivery_steps : (w : World) (t : Tally) (p : Packet) (j : ℕ) (entry : PartEntry) (m : Part) (a : Applied) (packet : Option Packet) (k : ℕ) → Brings w p j entry m a packet
    → steps_of_event w t (Deliver k) ≡ steps_of_entry (replica_of w j).machine entry a
delivery_steps w t p j entry m a packet k b =
    ap (λ ws. steps_of_delivery w (slice_get ws 0)) b.alone ∙ (ap (steps_at w) b.brings ∙ ap (λ (x : Part × Applied). steps_of_entry (replica_of w j).machine entry x.1) b.applies)

-- no part has fewer entries than before
pub decided_grows : (w : World) (p : Packet) (j : ℕ) (entry : PartEntry) (m : Part) (packet : Option Packet) (k : ℕ) (i : ℕ)
    → length (replica_of w i).decided ≤ length (replica_of (then_delivered w p j entry m packet k) i).decided
decided_grows w p j entry m packet k i =
    elim (replica_either (came w p) j (then_applied (replica_of w j) entry m) packet i) [
      | inl e ↦
          let now = ap (λ r. length r.decided) e.0 in
          let before = ap (λ r. length r.decided) e.1 in
          let longer = length-append (replica_of w j).decided (entry ∷ []) in
          omega (arith, now, before, longer)
      | inr e ↦ let now = ap (λ r. length r.decided) e in omega (arith, now)
    ]

-- an answer that comes
pub told_delivery : (w : World) (p : Packet) (n : ℕ) (a : Answer) (k : ℕ) → w.waiting ≡ p ∷ [] → entry_in p ≡ None → answer_in p ≡ Some (n, a)
    → after w (Deliver k) ≡ noted (record (came w p) { due = due_after w.calling w.last w.due (length w.passed) (Some (n, a)) }) (Deliver k)
told_delivery w p n a k alone brings says =
    let first : slice_get w.waiting 0 ≡ Some p = ap (λ ws. slice_get ws 0) alone in
    let rest : drop 1 w.waiting ≡ [] = ap (drop 1) alone in
    let after_first : after w (Deliver k) ≡ noted (delivered w (Some p)) (Deliver k) = ap (λ o. noted (delivered w o) (Deliver k)) first in
    let after_rest : noted (delivered w (Some p)) (Deliver k) ≡ noted (received (came w p) (length w.passed) p (entry_in p)) (Deliver k) =
    ap (λ ws. noted (received (record w { passed = w.passed ++ p ∷ []; waiting = ws }) (length w.passed) p (entry_in p)) (Deliver k)) rest in
    let after_entry : noted (received (came w p) (length w.passed) p (entry_in p)) (Deliver k) ≡ noted (received (came w p) (length w.passed) p None) (Deliver k) =
    ap (λ o. noted (received (came w p) (length w.passed) p o) (Deliver k)) brings in
    let after_told : noted (received (came w p) (length w.passed) p None) (Deliver k) ≡ noted (record (came w p) { due = due_after w.calling w.last w.due (length w.passed) (Some (n, a)) }) (Deliver k) =
    ap (λ o. noted (record (came w p) { due = due_after w.calling w.last w.due (length w.passed) o }) (Deliver k)) says in
    after_first ∙ (after_rest ∙ (after_entry ∙ after_told))

pub told_steps : (w : World) (t : Tally) (p : Packet) (k : ℕ) → w.waiting ≡ p ∷ [] → entry_in p ≡ None → steps_of_event w t (Deliver k) ≡ []
told_steps w t p k alone brings = ap (λ ws. steps_of_delivery w (slice_get ws 0)) alone ∙ ap (steps_at w) brings

-- how many packets were sent, before and behind a delivery
pub sent_before : (w : World) (p : Packet) → w.waiting ≡ p ∷ [] → length w.passed + length w.waiting ≡ length w.passed + 1
sent_before w p alone = ap (λ ws. length w.passed + length ws) alone

pub sent_behind : (w : World) (p : Packet) (q : List Packet) → length (w.passed ++ p ∷ []) + length q ≡ length w.passed + 1 + length q
sent_behind w p q = let both = length-append w.passed (p ∷ []) in omega (arith, both)
