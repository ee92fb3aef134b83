-- What ties a part's state to the store that keeps it.
use Rattle.std.specs.Prelude.{◌≡◌, ℕ, ◌<◌, ◌^◌, true, false, not, List, ◌++◌, None, Some}
use Rattle.std.specs.FinMap.{get, insert, remove, empty, contains_key, retain_keys}
use Rattle.std.specs.List.{AllByRecursion}
use Rattle.std.specs.Option.{option_map}
use Rattle.std.specs.Ordering.{eq_by_cmp, nat_cmp}
use Rattle.graph_bytes.specs.Fits.{FitsRow}
use Rattle.graph_model.specs.Edges.{edges_in, is_once_each}
use Rattle.graph_model.specs.Keys.{vid_cmp}
use Rattle.graph_model.specs.declared.edge_id.EdgeId.{EdgeId}
use Rattle.graph_model.specs.declared.half.Half.{Half}
use Rattle.graph_model.specs.declared.val.Val.{Val}
use Rattle.graph_model.specs.declared.vid.Vid.{Vid}
use Rattle.kv_part.specs.Store.{Contents, written}
use Rattle.maps.specs.Keys.{has_key}
use Rattle.maps.specs.Lists.{put_all}
use Rattle.part_keys.specs.declared.chain.PrimeRec.{PrimeRec}
use Rattle.part_keys.specs.declared.key.Key.TheVariants.{Tag, OutEdge, InEdge, Guard, Client}
use Rattle.part_keys.specs.KeyOrder.{tag_at}
use Rattle.part_keys.specs.Keys.{FitsKey}
use Rattle.part_rules.specs.Machine.{out_written, in_halves}
use Rattle.part_rules.specs.Part.{Part, blank, number_of, guard_of, chain_on, is_on}
use Rattle.part_rules.specs.declared.kept.Kept.{Kept}
use Rattle.part_store.specs.Keeps.{Keeps, FitsOut, FitsInto, FitsTag, FitsChain, FitsOutcome}
use Rattle.part_store.specs.Reads.{tag_is_in, out_is_in, number_in_store, chain_in_store, guard_in_store, last_in_store, tags_in_store}
use Rattle.part_store.specs.Settings.{IsSetting}
use Rattle.part_store.specs.Writes.{out_writes, in_writes, standing_writes, standing_removals, guard_writes, client_writes, tag_writes, tag_removals}
use Rattle.part_store.specs.declared.setting.Setting.{Setting}

-- Two states with the same chains that one store keeps are one.
abbrev pub KeepsOne : Type 0
KeepsOne = (s : Setting) → IsSetting s → (m : Contents) (p q : Part) → Keeps s p m → Keeps s q m → p.chains ≡ q.chains → p ≡ q

-- The empty store keeps the state before the first entry.
abbrev pub KeepsBlank : Type 0
KeepsBlank = (s : Setting) → Keeps s blank empty

-- ---- what is read in the store is what the state has

-- a tag's row is here, and an out-half
abbrev pub RowsAreRead : Setting → Part → Contents → Type 0
RowsAreRead s p m =
    ((v : Vid) (tag : ℕ) → FitsKey s.ids (Tag s.part v tag) → tag_is_in s m v tag ≡ contains_key p.tags (tag_at v tag))
    × ((e : EdgeId) → FitsKey s.ids (OutEdge s.part e) → out_is_in s m e ≡ contains_key p.out e)

-- the kept number of an edge, and the chain on it
abbrev pub EdgesAreRead : Setting → Part → Contents → Type 0
EdgesAreRead s p m =
    ((e : EdgeId) → FitsKey s.ids (InEdge s.part e) → number_in_store s m e ≡ number_of p e)
    × ((e : EdgeId) → FitsKey s.ids (OutEdge s.part e) → chain_in_store s m e ≡ option_map (λ chain. (chain.v, chain.id)) (chain_on p e))

-- a guard, and a client's last call
abbrev pub RecordsAreRead : Setting → Part → Contents → Type 0
RecordsAreRead s p m =
    ((source : ℕ) → FitsKey s.ids (Guard s.part source) → guard_in_store s m source ≡ guard_of p source)
    × ((client : ℕ) → FitsKey s.ids (Client s.part client) → last_in_store s m client ≡ get p.clients client)

-- each tag of a vertex
abbrev pub TagsAreRead : Setting → Part → Contents → Type 0
TagsAreRead s p m = (v : Vid) (tag : ℕ) → FitsKey s.ids (Tag s.part v tag) → contains_key p.tags (tag_at v tag) ≡ true → has_key nat_cmp tag (tags_in_store s m v) ≡ true

-- ---- behind the writes of a change the store keeps the changed state

-- the guard for a source part, and a client's last call
abbrev pub RecordsAreKept : Setting → Part → Contents → Type 0
RecordsAreKept s p m =
    ((source term : ℕ) → FitsKey s.ids (Guard s.part source) → term < 2 ^ 64 → Keeps s (record p { guards = insert p.guards source term }) (written m (guard_writes s source term)))
    × ((client : ℕ) (last : Kept) → FitsKey s.ids (Client s.part client) → last.number < 2 ^ 64 → FitsOutcome last.outcome → Keeps s (record p { clients = insert p.clients client last }) (written m (client_writes s client last)))

-- a tag that is put, and all tags of a vertex removed
abbrev pub TagsAreKept : Setting → Part → Contents → Type 0
TagsAreKept s p m =
    ((v : Vid) (tag : ℕ) (vals : List Val) → FitsKey s.ids (Tag s.part v tag) → FitsRow vals → Keeps s (record p { tags = insert p.tags (tag_at v tag) vals }) (written m (tag_writes s v tag vals)))
    × ((v : Vid) (tags : List ℕ) → AllByRecursion (FitsTag s v) tags → ((t : ℕ) → contains_key p.tags (tag_at v t) ≡ true → has_key nat_cmp t tags ≡ true)
    → Keeps s (record p { tags = retain_keys p.tags (λ key. not (eq_by_cmp vid_cmp v key.vid)) }) (written m (tag_removals s v tags)))

-- the out-halves of a list, and the in-halves of one with a chain's number
abbrev pub HalvesAreKept : Setting → Part → Contents → Type 0
HalvesAreKept s p m =
    ((list : List (EdgeId × Half)) → AllByRecursion (FitsOut s) list → is_once_each (edges_in list) ≡ true → Keeps s (record p { out = out_written p.out list }) (written m (out_writes s list)))
    × ((v : ℕ) (list : List (EdgeId × Half)) → AllByRecursion (FitsInto s) list → is_once_each (edges_in list) ≡ true → v < 2 ^ 64 → Keeps s (record p { inn = put_all p.inn (in_halves v list) }) (written m (in_writes s v list)))

-- the number is new, and no chain stands on the chain's edges
pub record IsNew (p : Part) (v : ℕ) (chain : PrimeRec) : Type 0 where
  pub fresh : get p.chains v ≡ None
  pub free : (e : EdgeId) → is_on e chain ≡ true → chain_on p e ≡ None

-- a chain that begins, one that becomes double, and one that ends
abbrev pub ChainsAreKept : Setting → Part → Contents → Type 0
ChainsAreKept s p m =
    ((v : ℕ) (chain : PrimeRec) → IsNew p v chain → FitsChain s v chain → Keeps s (record p { chains = insert p.chains v chain }) (written m (standing_writes s chain.double chain.v chain.id chain.list)))
    × ((v : ℕ) (chain : PrimeRec) → get p.chains v ≡ Some chain → chain.double ≡ false
    → Keeps s (record p { chains = insert p.chains v (record chain { double = true }) }) (written m (standing_removals s false chain.list ++ standing_writes s true chain.v chain.id chain.list)))
    × ((v : ℕ) (chain : PrimeRec) → get p.chains v ≡ Some chain → Keeps s (record p { chains = remove p.chains v }) (written m (standing_removals s chain.double chain.list)))

-- whatever store keeps whatever state
abbrev pub OfKept : (Setting → Part → Contents → Type 0) → Type 0
OfKept P = (s : Setting) → IsSetting s → (p : Part) (m : Contents) → Keeps s p m → P s p m
