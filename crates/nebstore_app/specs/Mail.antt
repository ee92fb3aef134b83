-- The packets of a world.
use Rattle.std.specs.Prelude.{ℕ, List, refl}
use Rattle.std.specs.Coded.{Coded, code_by, coded×, coded_ℕ}
use Rattle.nebstore_app.specs.declared.packet.Packet.{Packet}

-- the packets that came, those under way, and for how many more there is room
pub record Mail : Type 0 where
  pub passed : List Packet
  pub waiting : List Packet
  pub room : ℕ

-- mail is stored as its fields
abbrev pub mail_code : Coded (List Packet) → Coded Mail
mail_code p =
    code_by (List Packet × (List Packet × ℕ)) (coded× p (coded× p coded_ℕ)) (λ m. (m.passed, (m.waiting, m.room)))
    (λ t. record { passed = t.0; waiting = t.1.0; room = t.1.1 }) (λ _. refl)
