-- Seats are keys.
use Rattle.std.proofs.Common.{ℕ, ap}
use Rattle.std.specs.Ordering.{nat_cmp}
use Rattle.std.specs.Cmp.{IsTotalOrder, nat_cmp_total}
use Rattle.std.proofs.lemmas.Cmp.{on_total, then_total}
use Rattle.std.proofs.lemmas.Map.Lookups.{CmpEqualImpliesEq, exact_pairs, exact_unsigned}
use Rattle.maps.specs.Keys.{IsKeyOrder}
use Rattle.chain_run.specs.Seats.{seat_cmp}

seats_total : IsTotalOrder seat_cmp
seats_total = then_total (on_total (λ s. s.part) nat_cmp_total) (on_total (λ s. s.term) nat_cmp_total)

seats_exact : CmpEqualImpliesEq seat_cmp
seats_exact a b h = ap (λ (p : ℕ × ℕ). record { part = p.0; term = p.1 }) (exact_pairs nat_cmp nat_cmp exact_unsigned exact_unsigned (a.part, a.term) (b.part, b.term) h)

pub seat_keys : IsKeyOrder seat_cmp
seat_keys = record { total = seats_total; exact = seats_exact }
