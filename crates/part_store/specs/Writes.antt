-- The writes of a part's facts.
use Rattle.std.specs.Prelude.{ℕ, Bool, true, false, List, [], ◌∷◌, map, Option, None, Some}
use Rattle.std.specs.Option.{option_map}
use Rattle.graph_bytes.specs.Spelling.{row}
use Rattle.graph_model.specs.Contents.{row_of}
use Rattle.graph_model.specs.declared.call_id.CallId.{CallId}
use Rattle.graph_model.specs.declared.edge_id.EdgeId.{EdgeId}
use Rattle.graph_model.specs.declared.half.Half.{Half}
use Rattle.graph_model.specs.declared.val.Val.{Val}
use Rattle.graph_model.specs.declared.vid.Vid.{Vid}
use Rattle.kv_part.specs.declared.batch.Write.{Write}
use Rattle.kv_part.specs.declared.batch.Write.TheVariants.{Put, Remove}
use Rattle.part_keys.specs.declared.key.Key.{Key}
use Rattle.part_keys.specs.declared.key.Key.TheVariants.{Tag, OutEdge, InEdge, Prime, DoublePrime, Guard, Client}
use Rattle.part_keys.specs.declared.vid_kind.VidKind.{VidKind}
use Rattle.part_keys.specs.Keys.{key}
use Rattle.part_rules.specs.FoldLaws.{by}
use Rattle.part_rules.specs.declared.kept.Kept.{Kept}
use Rattle.part_store.specs.Values.{in_value, prime_value, guard_value, client_value}
use Rattle.part_store.specs.declared.setting.Setting.{Setting}

-- the key has this value from now on, or none
abbrev pub set_at : VidKind → Key → Option (List ℕ) → Write
set_at ids k None = Remove (key ids k)
set_at ids k (Some value) = Put (key ids k) value

-- the same at each edge of a list, in the list's order
abbrev pub set_each : VidKind → (EdgeId → Key) → (EdgeId × Half → Option (List ℕ)) → List (EdgeId × Half) → List Write
set_each ids at value list = map (λ x. set_at ids (at x.0) (value x)) list

-- what is kept of an out-half: its row, where it is here
abbrev pub out_value : EdgeId × Half → Option (List ℕ)
out_value x = option_map row (row_of x.1)

-- each out-half := its half
abbrev pub out_writes : Setting → List (EdgeId × Half) → List Write
out_writes s list = set_each s.ids (λ e. OutEdge s.part e) out_value list

-- each in-half := its half, with number v
abbrev pub in_writes : Setting → ℕ → List (EdgeId × Half) → List Write
in_writes s v list = set_each s.ids (λ e. InEdge s.part e) (λ x. Some (in_value (by v x.1))) list

-- the key of a chain on an edge, by whether the chain is double
abbrev pub standing_key : Bool → ℕ → EdgeId → Key
standing_key true part e = DoublePrime part e
standing_key false part e = Prime part e

-- chain v of this call stands on each edge, double or not
abbrev pub standing_writes : Setting → Bool → ℕ → CallId → List (EdgeId × Half) → List Write
standing_writes s double v id list = set_each s.ids (standing_key double s.part) (λ x. Some (prime_value v id x.1)) list

-- no chain that is so stands on any of them
abbrev pub standing_removals : Setting → Bool → List (EdgeId × Half) → List Write
standing_removals s double list = set_each s.ids (standing_key double s.part) (λ x. None) list

-- the guard for a source part := this term
abbrev pub guard_writes : Setting → ℕ → ℕ → List Write
guard_writes s source term = set_at s.ids (Guard s.part source) (Some (guard_value term)) ∷ []

-- the client's last call := this
abbrev pub client_writes : Setting → ℕ → Kept → List Write
client_writes s client last = set_at s.ids (Client s.part client) (Some (client_value last)) ∷ []

-- the tag of the vertex := this row
abbrev pub tag_writes : Setting → Vid → ℕ → List Val → List Write
tag_writes s v tag vals = set_at s.ids (Tag s.part v tag) (Some (row vals)) ∷ []

-- these tags of the vertex are removed
abbrev pub tag_removals : Setting → Vid → List ℕ → List Write
tag_removals s v tags = map (λ tag. set_at s.ids (Tag s.part v tag) None) tags
