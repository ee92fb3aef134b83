-- What a part's state says at each key of its store.
use Rattle.std.specs.Prelude.{ℕ, List, Option, None, Some, if◌then◌else◌}
use Rattle.std.specs.Option.{option_map}
use Rattle.std.specs.FinMap.{get}
use Rattle.graph_bytes.specs.Spelling.{row}
use Rattle.graph_model.specs.Keys.{edge_cmp, in_key}
use Rattle.graph_model.specs.declared.edge_id.EdgeId.{EdgeId}
use Rattle.maps.specs.Lists.{at_key}
use Rattle.part_keys.specs.declared.chain.PrimeRec.{PrimeRec}
use Rattle.part_keys.specs.declared.key.Key.{Key}
use Rattle.part_keys.specs.declared.key.Key.TheVariants.{Tag, OutEdge, InEdge, Prime, DoublePrime, Guard, Client}
use Rattle.part_keys.specs.KeyOrder.{tag_at}
use Rattle.part_rules.specs.Part.{Part, chain_on}
use Rattle.part_store.specs.Values.{in_value, prime_value, guard_value, client_value}

-- what is kept of a chain at one of its edges
abbrev pub prime_of : EdgeId → PrimeRec → Option (List ℕ)
prime_of e chain = option_map (prime_value chain.v chain.id) (at_key edge_cmp e chain.list)

-- what a prime key has: the chain that stands there, if its out-halves aren't written
abbrev pub single_at : EdgeId → Option PrimeRec → Option (List ℕ)
single_at e None = None
single_at e (Some chain) = if chain.double then None else prime_of e chain

-- what a double prime key has: the chain that stands there, if its out-halves are written
abbrev pub double_at : EdgeId → Option PrimeRec → Option (List ℕ)
double_at e None = None
double_at e (Some chain) = if chain.double then prime_of e chain else None

-- the value at a key of the part, by its kind
abbrev pub fact : Part → Key → Option (List ℕ)
fact p (Tag part v tag) = option_map row (get p.tags (tag_at v tag))
fact p (OutEdge part e) = option_map row (get p.out e)
fact p (InEdge part e) = option_map in_value (get p.inn (in_key e))
fact p (Prime part e) = single_at e (chain_on p e)
fact p (DoublePrime part e) = double_at e (chain_on p e)
fact p (Guard part source) = option_map guard_value (get p.guards source)
fact p (Client part client) = option_map client_value (get p.clients client)
