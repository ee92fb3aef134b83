-- The keys' orders are total, and tell all keys apart.
use Rattle.std.proofs.Common.{ℤ, ℕ, ap}
use Rattle.std.specs.Ordering.{int_cmp, nat_cmp, ordering_then}
use Rattle.std.specs.declared.cmp.Ordering.{Ordering}
use Rattle.std.specs.Cmp.{IsTotalOrder, nat_cmp_total, int_cmp_total}
use Rattle.std.proofs.lemmas.Cmp.{on_total, then_total}
use Rattle.std.proofs.lemmas.Map.Lookups.{CmpEqualImpliesEq, exact_pairs, exact_unsigned, exact_signed}
use Rattle.first_graph.specs.Keys.{edge_cmp, in_cmp, tag_cmp, call_cmp}

pub tags_total : IsTotalOrder tag_cmp
tags_total = then_total (on_total (λ s. s.vid) int_cmp_total) (on_total (λ s. s.tag) nat_cmp_total)

pub calls_total : IsTotalOrder call_cmp
calls_total = then_total (on_total (λ s. s.client) nat_cmp_total) (on_total (λ s. s.number) nat_cmp_total)

pub edges_total : IsTotalOrder edge_cmp
edges_total = then_total (on_total (λ s. s.src) int_cmp_total) (then_total (on_total (λ s. s.etype) int_cmp_total) (then_total (on_total (λ s. s.rank) int_cmp_total) (on_total (λ s. s.dst) int_cmp_total)))

pub ins_total : IsTotalOrder in_cmp
ins_total = then_total (on_total (λ s. s.dst) int_cmp_total) (then_total (on_total (λ s. s.back) int_cmp_total) (then_total (on_total (λ s. s.rank) int_cmp_total) (then_total (on_total (λ s. s.src) int_cmp_total) (on_total (λ s. s.etype) int_cmp_total))))

pub tags_exact : CmpEqualImpliesEq tag_cmp
tags_exact a b h = ap (λ (p : ℤ × ℕ). record { vid = p.0; tag = p.1 }) (exact_pairs int_cmp nat_cmp exact_signed exact_unsigned (a.vid, a.tag) (b.vid, b.tag) h)

pub calls_exact : CmpEqualImpliesEq call_cmp
calls_exact a b h = ap (λ (p : ℕ × ℕ). record { client = p.0; number = p.1 }) (exact_pairs nat_cmp nat_cmp exact_unsigned exact_unsigned (a.client, a.number) (b.client, b.number) h)

abbrev two_cmp : ℤ × ℤ → ℤ × ℤ → Ordering
two_cmp p q = ordering_then (int_cmp p.0 q.0) (int_cmp p.1 q.1)

abbrev three_cmp : ℤ × (ℤ × ℤ) → ℤ × (ℤ × ℤ) → Ordering
three_cmp p q = ordering_then (int_cmp p.0 q.0) (two_cmp p.1 q.1)

abbrev four_cmp : ℤ × (ℤ × (ℤ × ℤ)) → ℤ × (ℤ × (ℤ × ℤ)) → Ordering
four_cmp p q = ordering_then (int_cmp p.0 q.0) (three_cmp p.1 q.1)

two_exact : CmpEqualImpliesEq two_cmp
two_exact = exact_pairs int_cmp int_cmp exact_signed exact_signed

three_exact : CmpEqualImpliesEq three_cmp
three_exact = exact_pairs int_cmp two_cmp exact_signed two_exact

four_exact : CmpEqualImpliesEq four_cmp
four_exact = exact_pairs int_cmp three_cmp exact_signed three_exact

pub edges_exact : CmpEqualImpliesEq edge_cmp
edges_exact a b h = ap (λ (p : ℤ × (ℤ × (ℤ × ℤ))). record { src = p.0; etype = p.1.0; rank = p.1.1.0; dst = p.1.1.1 })
    (four_exact (a.src, (a.etype, (a.rank, a.dst))) (b.src, (b.etype, (b.rank, b.dst))) h)

pub ins_exact : CmpEqualImpliesEq in_cmp
ins_exact a b h = ap (λ (p : ℤ × (ℤ × (ℤ × (ℤ × ℤ)))). record { dst = p.0; back = p.1.0; rank = p.1.1.0; src = p.1.1.1.0; etype = p.1.1.1.1 })
    (exact_pairs int_cmp four_cmp exact_signed four_exact (a.dst, (a.back, (a.rank, (a.src, a.etype)))) (b.dst, (b.back, (b.rank, (b.src, b.etype)))) h)
