-- What holds of each entry, and of the chains of a part to which its entries route.
use Rattle.std.specs.Prelude.{◌≡◌, ◌⊎◌, ℕ, ◌<◌, ◌≤◌, List, Option, None, Some, Bool, true, false}
use Rattle.std.specs.List.{AllByRecursion}
use Rattle.std.specs.Ordering.{nat_cmp}
use Rattle.std.specs.Option.{option_or}
use Rattle.std.specs.FinMap.{FinMap, get}
use Rattle.graph_model.specs.Keys.{edge_cmp, in_key}
use Rattle.graph_model.specs.Ops.{edges_in}
use Rattle.graph_model.specs.declared.edge_id.EdgeId.{EdgeId}
use Rattle.graph_model.specs.declared.half.Half.{Half}
use Rattle.graph_model.specs.declared.half.Half.TheVariants.{Absent}
use Rattle.graph_model.specs.declared.call_id.CallId.{CallId}
use Rattle.maps.specs.Keys.{has_key}
use Rattle.maps.specs.Lists.{at_key}
use Rattle.part_keys.specs.declared.chain.PrimeRec.{PrimeRec}
use Rattle.part_keys.specs.declared.proposal.Proposal.{Proposal}
use Rattle.part_keys.specs.declared.proposal.Proposal.TheVariants.{Made}
use Rattle.part_keys.specs.declared.entry.PartEntry.{PartEntry}
use Rattle.part_keys.specs.declared.entry.PartEntry.TheVariants.{Prime, Remote, Vertex}
use Rattle.part_keys.specs.Routing.{part_of, routes_to}
use Rattle.part_rules.specs.declared.kept.Kept.{Kept}
use Rattle.part_rules.specs.declared.applied.Applied.{Applied}
use Rattle.part_rules.specs.declared.applied.Applied.TheVariants.{Conflict, Skipped, Begun, Finished}
use Rattle.part_rules.specs.Part.{Part, number_of}
use Rattle.part_rules.specs.Machine.{in_written, mark}

-- Chains that stand. Each edge of a list starts in part p and ends in part q.
pub record AreRouted (parts p q : ℕ) (list : List (EdgeId × Half)) : Type 0 where
  pub from : (e : EdgeId) → has_key edge_cmp e (edges_in list) ≡ true → part_of parts e.src ≡ p
  pub into : (e : EdgeId) → has_key edge_cmp e (edges_in list) ≡ true → part_of parts e.dst ≡ q

-- each chain that stands in part p goes from there to its remote part
abbrev pub GoFrom : ℕ → ℕ → FinMap nat_cmp PrimeRec → Type 0
GoFrom parts p chains = (v : ℕ) (c : PrimeRec) → get chains v ≡ Some c → AreRouted parts p c.remote c.list

-- an item that is an entry routes to the part
abbrev pub item_routes : ℕ → ℕ → Proposal → Bool
item_routes parts p (Made entry) = routes_to parts p entry
item_routes parts p other = true

-- all entries of a decided list do
abbrev pub AllRoute : ℕ → ℕ → List (ℕ × Proposal) → Type 0
AllRoute parts p decided = AllByRecursion (λ (d : ℕ × Proposal). item_routes parts p d.1 ≡ true) decided

-- Clients. Of each client a number at least as great is kept.
pub record Later (number : ℕ) (o : Option Kept) : Type 0 where
  pub last : Kept
  pub is : o ≡ Some last
  pub risen : number ≤ last.number

-- so for each client
abbrev pub Risen : FinMap nat_cmp Kept → FinMap nat_cmp Kept → Type 0
Risen m n = (c : ℕ) (last : Kept) → get m c ≡ Some last → Later last.number (get n c)

-- Calls. An answer to a call that was new: it was neither before the client's last one, nor that one again
abbrev pub is_new : Applied → Bool
is_new (Conflict chain) = true
is_new Skipped = true
is_new (Begun v) = true
is_new (Finished id) = true
is_new other = false

-- the call's number is above the one kept of its client
abbrev pub IsAbove : ℕ → Option Kept → Type 0
IsAbove number None = Unit {0}
IsAbove number (Some last) = last.number < number

-- a new call was above what was kept of its client, and is what is kept behind it
pub record IsNew (p q : Part) (id : CallId) : Type 0 where
  pub above : IsAbove id.number (get p.clients id.client)
  pub last : Kept
  pub kept : get q.clients id.client ≡ Some last
  pub number : last.number ≡ id.number

-- an entry that is a call's has it so; to any other entry no answer is one to a new call
abbrev pub NewCall : PartEntry → Part → Part × Applied → Type 0
NewCall (Prime id list absent) p behind = is_new behind.1 ≡ true → IsNew p behind.0 id
NewCall (Vertex id op) p behind = is_new behind.1 ≡ true → IsNew p behind.0 id
NewCall other p behind = is_new behind.1 ≡ false

-- Halves together. Of a list of edges all in-halves have at least the number v, or all have a lower one.
abbrev pub AllAtLeast : Part → ℕ → List EdgeId → Type 0
AllAtLeast p v edges = (e : EdgeId) → has_key edge_cmp e edges ≡ true → v ≤ number_of p e

-- each has a lower number
abbrev pub AllBelow : Part → ℕ → List EdgeId → Type 0
AllBelow p v edges = (e : EdgeId) → has_key edge_cmp e edges ≡ true → number_of p e < v

-- all have at least the number, or none has
abbrev pub AllOrNone : Part → ℕ → List EdgeId → Type 0
AllOrNone p v edges = AllAtLeast p v edges ⊎ AllBelow p v edges

-- Which Remotes keep it, for a chain v with these edges, in a part: one of the chain itself, with all of its edges; one of an
-- earlier chain; one of a later chain that is on none of the edges, or comes once the chain's own was taken.
pub data Suits (p : Part) (v : ℕ) (edges : List EdgeId) (w : ℕ) (list : List (EdgeId × Half)) : Type 0 where
  Own : w ≡ v → ((e : EdgeId) → has_key edge_cmp e edges ≡ true → has_key edge_cmp e (edges_in list) ≡ true) → Suits p v edges w list
  Earlier : w < v → Suits p v edges w list
  Elsewhere : ((e : EdgeId) → has_key edge_cmp e edges ≡ true → has_key edge_cmp e (edges_in list) ≡ false) → Suits p v edges w list
  Behind : AllAtLeast p v edges → Suits p v edges w list

-- any other entry suits
abbrev pub SuitsEntry : Part → ℕ → List EdgeId → PartEntry → Type 0
SuitsEntry p v edges (Remote from term w list) = Suits p v edges w list
SuitsEntry p v edges other = Unit {0}

-- Markers. A chain that removes an edge leaves its marker in the edge's in-half where the kept number is lower, and else
-- leaves the in-half as it is.
abbrev pub Marks : Type 0
Marks = (p : Part) (v : ℕ) (list : List (EdgeId × Half)) (e : EdgeId) → at_key edge_cmp e list ≡ Some Absent
    → get (in_written p v list) (in_key e) ≡ option_or (mark (number_of p e) v) (get p.inn (in_key e))
