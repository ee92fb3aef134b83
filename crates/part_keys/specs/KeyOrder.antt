-- The order of keys by their fields, and that it is the order of their bytes.
use Rattle.std.specs.Prelude.{◌≡◌, ℕ}
use Rattle.std.specs.declared.cmp.Ordering.{Ordering}
use Rattle.std.specs.declared.cmp.Ordering.TheVariants.{Equal}
use Rattle.std.specs.Ordering.{nat_cmp, ordering_then}
use Rattle.byte_fields.specs.Order.{bytes_cmp}
use Rattle.graph_model.specs.Keys.{edge_cmp, in_cmp, in_key, tag_cmp}
use Rattle.graph_model.specs.declared.edge_id.EdgeId.{EdgeId}
use Rattle.graph_model.specs.declared.tag_key.TagKey.{TagKey}
use Rattle.graph_model.specs.declared.vid.Vid.{Vid}
use Rattle.part_keys.specs.declared.key.Key.{Key}
use Rattle.part_keys.specs.declared.key.Key.TheVariants.{Tag, OutEdge, InEdge, Prime, DoublePrime, Guard, Client}
use Rattle.part_keys.specs.declared.vid_kind.VidKind.{VidKind}
use Rattle.part_keys.specs.Keys.{turned, key, IsKind, FitsKey, tag_kind, edge_kind, prime_kind, double_kind, guard_kind, client_kind}

-- the kind byte of a key; both ways to see an edge are of one kind
abbrev pub kind_of : Key → ℕ
kind_of (Tag part v tag) = tag_kind
kind_of (OutEdge part e) = edge_kind
kind_of (InEdge part e) = edge_kind
kind_of (Prime part e) = prime_kind
kind_of (DoublePrime part e) = double_kind
kind_of (Guard part source) = guard_kind
kind_of (Client part client) = client_kind

-- the own part
abbrev pub part_in : Key → ℕ
part_in (Tag part v tag) = part
part_in (OutEdge part e) = part
part_in (InEdge part e) = part
part_in (Prime part e) = part
part_in (DoublePrime part e) = part
part_in (Guard part source) = part
part_in (Client part client) = part

-- a tag of a vertex
abbrev pub tag_at : Vid → ℕ → TagKey
tag_at v tag = record { vid = v; tag = tag }

-- by the fields behind the part, of two keys of one kind; an in-edge is an edge as its destination sees it
abbrev pub behind_cmp : Key → Key → Ordering
behind_cmp (Tag part v tag) (Tag other u mark) = tag_cmp (tag_at v tag) (tag_at u mark)
behind_cmp (OutEdge part e) (OutEdge other f) = edge_cmp e f
behind_cmp (OutEdge part e) (InEdge other f) = edge_cmp e (turned f)
behind_cmp (InEdge part e) (OutEdge other f) = edge_cmp (turned e) f
behind_cmp (InEdge part e) (InEdge other f) = edge_cmp (turned e) (turned f)
behind_cmp (Prime part e) (Prime other f) = edge_cmp e f
behind_cmp (DoublePrime part e) (DoublePrime other f) = edge_cmp e f
behind_cmp (Guard part source) (Guard other second) = nat_cmp source second
behind_cmp (Client part client) (Client other second) = nat_cmp client second
behind_cmp k l = Equal

-- by kind, then by part, then by the fields behind
abbrev pub key_cmp : Key → Key → Ordering
key_cmp k l = ordering_then (nat_cmp (kind_of k) (kind_of l)) (ordering_then (nat_cmp (part_in k) (part_in l)) (behind_cmp k l))

-- the order of keys as bytes is the order of their fields
abbrev pub KeysInOrder : Type 0
KeysInOrder = (ids : VidKind) → IsKind ids → (k l : Key) → FitsKey ids k → FitsKey ids l → bytes_cmp (key ids k) (key ids l) ≡ key_cmp k l

-- within one part out-keys are ordered as their edges
abbrev pub OutKeysInOrder : Type 0
OutKeysInOrder = (ids : VidKind) → IsKind ids → (p : ℕ) (e f : EdgeId) → FitsKey ids (OutEdge p e) → FitsKey ids (OutEdge p f) → bytes_cmp (key ids (OutEdge p e)) (key ids (OutEdge p f)) ≡ edge_cmp e f

-- within one part in-keys are ordered as in-halves are
abbrev pub InKeysInOrder : Type 0
InKeysInOrder = (ids : VidKind) → IsKind ids → (p : ℕ) (e f : EdgeId) → FitsKey ids (InEdge p e) → FitsKey ids (InEdge p f) → bytes_cmp (key ids (InEdge p e)) (key ids (InEdge p f)) ≡ in_cmp (in_key e) (in_key f)

-- within one part tag keys are ordered by vertex, then by tag
abbrev pub TagKeysInOrder : Type 0
TagKeysInOrder = (ids : VidKind) → IsKind ids → (p : ℕ) (v u : Vid) (tag mark : ℕ) → FitsKey ids (Tag p v tag) → FitsKey ids (Tag p u mark) → bytes_cmp (key ids (Tag p v tag)) (key ids (Tag p u mark)) ≡ tag_cmp (tag_at v tag) (tag_at u mark)
