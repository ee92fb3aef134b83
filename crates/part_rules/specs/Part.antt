-- The state of a part, and what is read from it.
use Rattle.std.specs.Prelude.{ℕ, nat_lt, nat_le, Bool, List, [], ◌∷◌, Option, None, Some, if◌then◌else◌}
use Rattle.std.specs.Ordering.{nat_cmp}
use Rattle.std.specs.Option.{unwrap_or, option_or}
use Rattle.std.specs.List.{list_all}
use Rattle.std.specs.FinMap.{FinMap, empty, get, entries}
use Rattle.graph_model.specs.Ops.{edges_in}
use Rattle.graph_model.specs.Keys.{tag_cmp, edge_cmp, in_cmp, in_key}
use Rattle.graph_model.specs.declared.val.Val.{Val}
use Rattle.graph_model.specs.declared.half.Half.{Half}
use Rattle.graph_model.specs.declared.edge_id.EdgeId.{EdgeId}
use Rattle.maps.specs.Keys.{has_key}
use Rattle.part_keys.specs.declared.chain.PrimeRec.{PrimeRec}
use Rattle.part_keys.specs.declared.in_half.InHalf.{InHalf}
use Rattle.part_rules.specs.declared.kept.Kept.{Kept}

-- The rows of tags and the out-halves that are here, the in-halves with their kept numbers, the chains that stand, by
-- number, the guards by source part, and of each client the last call.
pub record Part : Type 0 where
  pub tags : FinMap tag_cmp (List Val)
  pub out : FinMap edge_cmp (List Val)
  pub inn : FinMap in_cmp InHalf
  pub chains : FinMap nat_cmp PrimeRec
  pub guards : FinMap nat_cmp ℕ
  pub clients : FinMap nat_cmp Kept

-- a part before its first entry
abbrev pub blank : Part
blank = record { tags = empty; out = empty; inn = empty; chains = empty; guards = empty; clients = empty }

-- the number that an in-half keeps: that of the chain that wrote it, 0 where none did
abbrev pub number_in : Option InHalf → ℕ
number_in None = 0
number_in (Some kept) = kept.v

-- the kept number of an edge
abbrev pub number_of : Part → EdgeId → ℕ
number_of p e = number_in (get p.inn (in_key e))

-- the guard for a source part, 0 where there is none
abbrev pub guard_of : Part → ℕ → ℕ
guard_of p from = unwrap_or (get p.guards from) 0

-- whether a chain stands on the edge
abbrev pub is_on : EdgeId → PrimeRec → Bool
is_on e chain = has_key edge_cmp e (edges_in chain.list)

-- the first of these chains that is on the edge
abbrev pub chain_among : List (ℕ × PrimeRec) → EdgeId → Option PrimeRec
chain_among [] e = None
chain_among (c ∷ chains) e = if is_on e c.1 then Some c.1 else chain_among chains e

-- the chain that stands on the edge
abbrev pub chain_on : Part → EdgeId → Option PrimeRec
chain_on p e = chain_among (entries p.chains) e

-- the chain on the first of these edges that has one
abbrev pub chain_on_any : Part → List EdgeId → Option PrimeRec
chain_on_any p [] = None
chain_on_any p (e ∷ edges) = option_or (chain_on p e) (chain_on_any p edges)

-- whether a Remote or Fence of that term comes too late: a leader of a greater term was here before
abbrev pub is_stale : Part → ℕ → ℕ → Bool
is_stale p from term = nat_lt term (guard_of p from)

-- whether chain v writes the edge's in-half: neither it nor a later one wrote it before
abbrev pub is_fresh : Part → ℕ → EdgeId × Half → Bool
is_fresh p v x = nat_lt (number_of p x.0) v

-- whether chain v, or a later one, wrote the in-half of each of the edges
abbrev pub all_written : Part → ℕ → List EdgeId → Bool
all_written p v edges = list_all (λ e. nat_le v (number_of p e)) edges
