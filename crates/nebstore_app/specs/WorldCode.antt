-- The code of the world's state.
use Rattle.std.specs.Prelude.{ℕ, List, Option, Bool, refl}
use Rattle.std.specs.Coded.{Coded, code_by, coded×, coded_ℕ, coded_bool}
use Rattle.nebstore_app.specs.declared.packet.Packet.{Packet}
use Rattle.nebstore_app.specs.declared.due.Due.{Due}
use Rattle.nebstore_app.specs.declared.event.Event.{Event}
use Rattle.nebstore_app.specs.Replica.{Replica}
use Rattle.nebstore_app.specs.World.{World}

-- the world is stored as its fields
abbrev pub world_code : Coded Replica → Coded (List Packet) → Coded (Option Due) → Coded (List Event) → Coded World
world_code r p d e =
    code_by (Replica × (Replica × (List Packet × (List Packet × (ℕ × (Bool × (Option Due × List Event)))))))
    (coded× r (coded× r (coded× p (coded× p (coded× coded_ℕ (coded× coded_bool (coded× d e)))))))
    (λ w. (w.first, (w.second, (w.passed, (w.waiting, (w.last, (w.calling, (w.due, w.events))))))))
    (λ t. record { first = t.0; second = t.1.0; passed = t.1.1.0; waiting = t.1.1.1.0; last = t.1.1.1.1.0; calling = t.1.1.1.1.1.0; due = t.1.1.1.1.1.1.0; events = t.1.1.1.1.1.1.1 })
    (λ _. refl)
