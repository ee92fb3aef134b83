-- The calls of a run are no more than its events.
use Rattle.std.proofs.Common.{◌≡◌, ℕ, ◌+◌, ◌≤◌, length, arith, List, [], ◌∷◌, Option, Some, None, refl, ap}
use Rattle.std.specs.Prelude.{slice_get}
use Rattle.nebstore_app.specs.declared.event.Event.{Event}
use Rattle.nebstore_app.specs.declared.event.Event.TheVariants.{Invoke, Deliver, Reply}
use Rattle.nebstore_app.specs.declared.packet.Packet.{Packet}
use Rattle.first_part.specs.declared.entry.PartEntry.{PartEntry}
use Rattle.nebstore_app.specs.Packets.{entry_in, request_of}
use Rattle.first_graph.specs.declared.call_id.CallId.{CallId}
use Rattle.nebstore_app.specs.World.{World, start, after, delivered, received, invoked, Lawful, Run, IsReached}

received-last : (w : World) (k : ℕ) (p : Packet) (x : Option (ℕ × PartEntry)) → (received w k p x).last ≡ w.last
received-last w k p None = refl
received-last w k p (Some x) = refl

pub delivered-last : (w : World) (p : Option Packet) → (delivered w p).last ≡ w.last
delivered-last w None = refl
delivered-last w (Some p) = received-last _ (length w.passed) p (entry_in p)

invoked-last : (w : World) (id : CallId) (p : Option Packet) → id.number ≡ w.last + 1 → (invoked w id p).last ≤ w.last + 1
invoked-last w id None is = omega arith
invoked-last w id (Some p) is = omega arith

after-last : (w : World) (e : Event) → Lawful w e → (after w e).last ≤ w.last + 1
after-last w (Invoke id op) h = invoked-last w id (request_of id op) (ap (λ c. c.number) h.1)
after-last w (Deliver k) h = let is = delivered-last w (slice_get w.waiting 0) in omega (arith, is)
after-last w (Reply id a) h = omega arith

run-last : (w : World) (events : List Event) (v : World) → Run w events v → v.last ≤ w.last + length events
run-last w [] v r = let is = ap (λ (u : World). u.last) r in omega (arith, is)
run-last w (e ∷ events) v r = let one = after-last w e r.0 in let rest = run-last (after w e) events v r.1 in omega (arith, one, rest)

-- the number of the last call
pub last-le-events : (w : World) → IsReached w → w.last ≤ length w.events
last-le-events w r = let h = run-last start w.events w r in omega (arith, h)
