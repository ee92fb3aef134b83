-- The world of this stage: two parts of one replica each, one client, and the packets between them.
use Rattle.std.specs.Prelude.{◌≡◌, ℕ, ◌+◌, ◌<◌, ◌==◌, List, [], ◌∷◌, ◌++◌, length, drop, slice_get, Option, None, Some, IsSome, Bool, true, false, not, ◌&&◌, is_some, option_to_list, if◌then◌else◌}
use Rattle.std.specs.Option.{option_map}
use Rattle.first_graph.specs.declared.call_id.CallId.{CallId}
use Rattle.first_graph.specs.declared.answer.Answer.{Answer}
use Rattle.first_part.specs.declared.entry.PartEntry.{PartEntry}
use Rattle.nebstore_app.specs.declared.packet.Packet.{Packet}
use Rattle.nebstore_app.specs.declared.packet.Place.{Place}
use Rattle.nebstore_app.specs.declared.due.Due.{Due}
use Rattle.nebstore_app.specs.declared.event.Event.{Event}
use Rattle.nebstore_app.specs.declared.event.Event.TheVariants.{Invoke, Deliver, Reply}
use Rattle.nebstore_app.specs.Replica.{Replica, fresh, answer_to, replica_after}
use Rattle.nebstore_app.specs.Packets.{the_client, request_of, entry_in, answer_in, sent}

-- the two parts; the packets that came and those under way, in the order in which they were sent; the number of the
-- client's last call, whether it is open, and the answer that it is due; and all that happened
pub record World : Type 0 where
  pub first : Replica
  pub second : Replica
  pub passed : List Packet
  pub waiting : List Packet
  pub last : ℕ
  pub calling : Bool
  pub due : Option Due
  pub events : List Event

abbrev pub start : World
start = record { first = fresh; second = fresh; passed = []; waiting = []; last = 0; calling = false; due = None; events = [] }

-- the replica of a part
abbrev pub replica_of : World → ℕ → Replica
replica_of w j = if j == 1 then w.first else w.second

-- the world with this replica of a part, and with what it sends behind the packets under way
abbrev pub with_replica : World → ℕ → Replica → Option Packet → World
with_replica w j r packet =
    record w { first = if j == 1 then r else w.first; second = if j == 1 then w.second else r; waiting = w.waiting ++ option_to_list packet }

-- a part decides and applies an entry, and sends what follows from it
abbrev pub applying : World → ℕ → Place → PartEntry → World
applying w j from entry =
    let r = replica_of w j in
    with_replica w j (replica_after r entry) (sent j from entry (answer_to r entry))

-- the open call is over with an answer that is for it and is the first
abbrev pub due_after : Bool → ℕ → Option Due → ℕ → Option (ℕ × Answer) → Option Due
due_after calling last due k None = due
due_after calling last due k (Some x) =
    if calling && (not (is_some due) && (x.0 == last)) then Some (record { packet = k; answer = x.1 }) else due

-- the client is told the answer that packet k brings
abbrev pub told : World → ℕ → Option (ℕ × Answer) → World
told w k x = record w { due = due_after w.calling w.last w.due k x }

-- a packet brings its part an entry, or the client an answer
abbrev pub received : World → ℕ → Packet → Option (ℕ × PartEntry) → World
received w k p None = told w k (answer_in p)
received w k p (Some x) = applying w x.0 p.from x.1

-- the first packet under way comes
abbrev pub delivered : World → Option Packet → World
delivered w None = w
delivered w (Some p) =
    received (record w { passed = w.passed ++ p ∷ []; waiting = drop 1 w.waiting }) (length w.passed) p (entry_in p)

-- a call begins, and its request is under way
abbrev pub invoked : World → CallId → Option Packet → World
invoked w id None = w
invoked w id (Some p) = record w { waiting = w.waiting ++ p ∷ []; last = id.number; calling = true }

-- what an event makes of the world, but for the note of it
abbrev pub done : World → Event → World
done w (Invoke id op) = invoked w id (request_of id op)
done w (Deliver k) = delivered w (slice_get w.waiting 0)
done w (Reply id a) = record w { calling = false; due = None }

abbrev pub noted : World → Event → World
noted w e = record w { events = w.events ++ e ∷ [] }

-- the world after an event
abbrev pub after : World → Event → World
after w e = noted (done w e) e

-- the answer that the client's call is due
abbrev pub answer_due : World → Option Answer
answer_due w = option_map (λ d. d.answer) w.due

-- the id of the client's next call
abbrev pub next_call : World → CallId
next_call w = record { client = the_client; number = w.last + 1 }

-- the id of the client's last call
abbrev pub last_call : World → CallId
last_call w = record { client = the_client; number = w.last }

-- an event may happen: the client's next call, while none is open, of a kind that is served; the first packet under
-- way; the answer that the open call is due
abbrev pub Lawful : World → Event → Type 0
Lawful w (Invoke id op) = (w.calling ≡ false) × (id ≡ next_call w) × IsSome (request_of id op)
Lawful w (Deliver k) = (k ≡ length w.passed) × (0 < length w.waiting)
Lawful w (Reply id a) = (answer_due w ≡ Some a) × (id ≡ last_call w)

-- events lead from one world to another, each lawful at its place
abbrev pub Run : World → List Event → World → Type 0
Run w [] v = v ≡ w
Run w (e ∷ events) v = Lawful w e × Run (after w e) events v

-- what happened in the world is a run from the start
abbrev pub IsReached : World → Type 0
IsReached w = Run start w.events w
