-- How many deliveries a packet may still bring about: each delivery leaves less.
use Rattle.std.proofs.Common.{◌≡◌, ℕ, ◌+◌, ◌<◌, length, List, [], ◌∷◌, ◌++◌, Option, Some, None, arith}
use Rattle.std.specs.Prelude.{option_to_list, slice_get}
use Rattle.first_part.specs.declared.clients.Outcome.{Outcome}
use Rattle.first_part.specs.declared.clients.Outcome.TheVariants.{Open, Fine, Skipped as SkippedThen, Conflict as ConflictThen}
use Rattle.first_part.specs.declared.entry.PartEntry.{PartEntry}
use Rattle.first_part.specs.declared.entry.PartEntry.TheVariants.{Prime, Local, Double, Close, Abort, Remote, Fence, Vertex, Read}
use Rattle.first_part.specs.declared.applied.Applied.{Applied}
use Rattle.first_part.specs.declared.applied.Applied.TheVariants.{Again, Conflict, Skipped, Begun, Settled, Done, Shown}
use Rattle.first_graph.specs.declared.call_id.CallId.{CallId}
use Rattle.first_graph.specs.declared.edge_id.EdgeId.{EdgeId}
use Rattle.first_graph.specs.declared.half.Half.{Half}
use Rattle.std.specs.Option.{option_map}
use Rattle.nebstore_app.specs.declared.packet.Packet.{Packet}
use Rattle.nebstore_app.specs.declared.packet.Place.{Place}
use Rattle.nebstore_app.specs.declared.packet.Place.TheVariants.{Client, Part}
use Rattle.nebstore_app.specs.declared.event.Event.TheVariants.{Deliver}
use Rattle.nebstore_app.specs.Replica.{answer_to}
use Rattle.nebstore_app.specs.Packets.{entry_in, sent, answer_packet, kept_answer}
use Rattle.nebstore_app.specs.World.{World, replica_of, after, delivered, received}

-- an entry and all that follows from it
abbrev pub entry_weight : PartEntry → ℕ
entry_weight (Prime id e half absent) = 4
entry_weight (Remote i term e v half) = 3
entry_weight (Local e v) = 2
entry_weight (Read id query) = 2
entry_weight _ = 1

abbrev pub brought_weight : Option (ℕ × PartEntry) → ℕ
brought_weight None = 1
brought_weight (Some x) = entry_weight x.1

abbrev pub weight : List Packet → ℕ
weight [] = 0
weight (p ∷ packets) = brought_weight (entry_in p) + weight packets

weight-append : (ps qs : List Packet) → weight (ps ++ qs) ≡ weight ps + weight qs
weight-append [] qs = omega arith
weight-append (p ∷ ps) qs = let rest = weight-append ps qs in omega (arith, rest)

kept_lighter : (j : ℕ) (id : CallId) (outcome : Outcome) → weight (option_to_list (option_map (answer_packet j id) (kept_answer outcome))) < 4
kept_lighter j id Open = omega arith
kept_lighter j id Fine = omega arith
kept_lighter j id SkippedThen = omega arith
kept_lighter j id (ConflictThen other) = omega arith

back_lighter : (j : ℕ) (from : Place) (i term : ℕ) (e : EdgeId) (v : ℕ) (half : Half) → weight (option_to_list (sent j from (Remote i term e v half) Done)) < 3
back_lighter j (Client c) i term e v half = omega arith
back_lighter j (Part k) i term e v half = omega arith

-- what follows from an entry is lighter
sent_lighter : (j : ℕ) (from : Place) (entry : PartEntry) (a : Applied) → weight (option_to_list (sent j from entry a)) < entry_weight entry
sent_lighter j from (Prime id e half absent) (Begun v) = omega arith
sent_lighter j from (Prime id e half absent) Skipped = omega arith
sent_lighter j from (Prime id e half absent) (Conflict other) = omega arith
sent_lighter j from (Prime id e half absent) (Again outcome) = kept_lighter j id outcome
sent_lighter j from (Prime id e half absent) _ = omega arith
sent_lighter j from (Local e v) (Settled id) = omega arith
sent_lighter j from (Local e v) _ = omega arith
sent_lighter j from (Remote i term e v half) Done = back_lighter j from i term e v half
sent_lighter j from (Remote i term e v half) _ = omega arith
sent_lighter j from (Read id query) (Shown asked view) = omega arith
sent_lighter j from (Read id query) _ = omega arith
sent_lighter j from (Double e v) a = omega arith
sent_lighter j from (Close e v) a = omega arith
sent_lighter j from (Abort e v) a = omega arith
sent_lighter j from (Fence i term e v) a = omega arith
sent_lighter j from (Vertex id change) a = omega arith

received_lighter : (w : World) (k : ℕ) (p : Packet) (x : Option (ℕ × PartEntry)) → weight (received w k p x).waiting < brought_weight x + weight w.waiting
received_lighter w k p None = omega arith
received_lighter w k p (Some x) =
    let follows = sent_lighter x.0 p.from x.1 (answer_to (replica_of w x.0) x.1) in
    let both = weight-append w.waiting (option_to_list (sent x.0 p.from x.1 (answer_to (replica_of w x.0) x.1))) in
    omega (arith, follows, both)

delivered_lighter : (w : World) (ps : List Packet) → 0 < length ps → weight (delivered (record w { waiting = ps }) (slice_get ps 0)).waiting < weight ps
delivered_lighter w [] h = absurd (omega (arith, h))
delivered_lighter w (p ∷ ps) h = received_lighter (record w { passed = w.passed ++ p ∷ []; waiting = ps }) (length w.passed) p (entry_in p)

pub lighter : (w : World) (k : ℕ) → 0 < length w.waiting → weight (after w (Deliver k)).waiting < weight w.waiting
lighter w k h = delivered_lighter w w.waiting h
