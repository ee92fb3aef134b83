-- The orders of the keys, and the key of an in-half.
use Rattle.std.specs.Prelude.{neg_ℤ}
use Rattle.std.specs.declared.cmp.Ordering.{Ordering}
use Rattle.std.specs.Ordering.{int_cmp, nat_cmp, ordering_then}
use Rattle.first_graph.specs.declared.edge_id.EdgeId.{EdgeId}
use Rattle.first_graph.specs.declared.in_key.InKey.{InKey}
use Rattle.first_graph.specs.declared.tag_key.TagKey.{TagKey}
use Rattle.first_graph.specs.declared.call_id.CallId.{CallId}

-- an edge as its far end sees it; `back` is the negated type
abbrev pub in_key : EdgeId → InKey
in_key e = record { dst = e.dst; back = neg_ℤ e.etype; rank = e.rank; src = e.src; etype = e.etype }

-- the edge of such a key
abbrev pub edge_of : InKey → EdgeId
edge_of k = record { src = k.src; etype = k.etype; rank = k.rank; dst = k.dst }

-- by the fields, in their order
abbrev pub edge_cmp : EdgeId → EdgeId → Ordering
edge_cmp a b = ordering_then (int_cmp a.src b.src) (ordering_then (int_cmp a.etype b.etype) (ordering_then (int_cmp a.rank b.rank) (int_cmp a.dst b.dst)))

abbrev pub in_cmp : InKey → InKey → Ordering
in_cmp a b = ordering_then (int_cmp a.dst b.dst) (ordering_then (int_cmp a.back b.back) (ordering_then (int_cmp a.rank b.rank) (ordering_then (int_cmp a.src b.src) (int_cmp a.etype b.etype))))

abbrev pub tag_cmp : TagKey → TagKey → Ordering
tag_cmp a b = ordering_then (int_cmp a.vid b.vid) (nat_cmp a.tag b.tag)

abbrev pub call_cmp : CallId → CallId → Ordering
call_cmp a b = ordering_then (nat_cmp a.client b.client) (nat_cmp a.number b.number)
