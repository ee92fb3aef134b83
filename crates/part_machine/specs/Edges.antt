-- Edges of entries.
use Rattle.std.specs.Prelude.{ℕ, nat_lt, not, ◌&&◌, Bool}
use Rattle.std.specs.FinMap.{contains_key}
use Rattle.graph_model.specs.declared.call_id.CallId.{CallId}
use Rattle.graph_model.specs.declared.edge_id.EdgeId.{EdgeId}
use Rattle.graph_model.specs.declared.half.Half.{Half}
use Rattle.kv_part.specs.Store.{Contents}
use Rattle.part_keys.specs.declared.chain.PrimeRec.{PrimeRec}
use Rattle.part_rules.specs.Part.{Part}
use Rattle.part_store.specs.Reads.{out_is_in, number_in_store}
use Rattle.part_store.specs.declared.setting.Setting.{Setting}

-- whether a Prime takes the edge: with the flag only where its out-half isn't here
abbrev pub is_taken : Part → Bool → EdgeId × Half → Bool
is_taken p absent x = not (absent && contains_key p.out x.0)

-- the call of a chain
abbrev pub id_of : PrimeRec → CallId
id_of chain = chain.id

-- the same, as the store tells it
abbrev pub is_left : Setting → Contents → Bool → EdgeId × Half → Bool
is_left s m absent x = not (absent && out_is_in s m x.0)

-- whether the number that the store has of the edge's in-half is lower
abbrev pub is_lower : Setting → Contents → ℕ → EdgeId × Half → Bool
is_lower s m v x = nat_lt (number_in_store s m x.0) v
