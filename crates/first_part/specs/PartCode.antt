-- The code of a part's state.
use Rattle.std.specs.Prelude.{List, refl}
use Rattle.std.specs.Ordering.{nat_cmp}
use Rattle.std.specs.FinMap.{FinMap}
use Rattle.std.specs.Coded.{Coded, code_by, coded×}
use Rattle.first_graph.specs.Keys.{edge_cmp, in_cmp}
use Rattle.first_graph.specs.declared.val.Val.{Val}
use Rattle.first_part.specs.declared.clients.Kept.{Kept}
use Rattle.first_part.specs.declared.in_halves.InHalf.{InHalf}
use Rattle.first_part.specs.declared.prime.PrimeRec.{PrimeRec}
use Rattle.first_part.specs.Part.{Part}

-- the state is stored as its four maps
abbrev pub part_code : Coded (FinMap edge_cmp (List Val)) → Coded (FinMap in_cmp InHalf) → Coded (FinMap edge_cmp PrimeRec) → Coded (FinMap nat_cmp Kept) → Coded Part
part_code o i p k =
    code_by (FinMap edge_cmp (List Val) × (FinMap in_cmp InHalf × (FinMap edge_cmp PrimeRec × FinMap nat_cmp Kept))) (coded× o (coded× i (coded× p k)))
    (λ p. (p.out, (p.inn, (p.primes, p.kept)))) (λ t. record { out = t.0; inn = t.1.0; primes = t.1.1.0; kept = t.1.1.1 }) (λ _. refl)
