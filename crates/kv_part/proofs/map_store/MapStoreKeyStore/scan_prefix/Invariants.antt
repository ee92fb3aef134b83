use Rattle.std.proofs.Common.{◌≡◌, ◌++◌}
use Rattle.kv_part.specs.Store.{under}
use Rattle.kv_part.specs.MapStore.{contents}
use Rattle.kv_part.proofs.Scan.{scan, IsAhead}
use Rattle.kv_part.proofs.map_store.MapStoreKeyStore.scan_prefix.Given as goal

-- the pairs so far, with those of the places that are left, are all
abbrev pub invariant-loop-key : goal.invariant-loop-key
invariant-loop-key l = record {
  so_far : l.pairs ++ scan (λ k. k.items) l.prefix l.key-iterator ≡ under l.prefix (contents l.self);
  ahead : IsAhead (λ k. k.items) l.prefix l.key-iterator;
}
