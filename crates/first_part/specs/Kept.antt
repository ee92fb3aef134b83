-- What a part keeps of a client.
use Rattle.std.specs.Prelude.{ℕ, ◌==◌, if◌then◌else◌}
use Rattle.first_part.specs.declared.clients.Kept.{Kept}
use Rattle.first_part.specs.declared.clients.Outcome.TheVariants.{Fine}

-- the outcome is Fine now, where this is the number of the client's last call
abbrev pub settled : ℕ → Kept → Kept
settled number kept = record { number = kept.number; outcome = if kept.number == number then Fine else kept.outcome }
