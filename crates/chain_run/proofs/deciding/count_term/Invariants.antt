use Rattle.std.proofs.Common.{◌≡◌, ◌+◌, ◌≤◌, drop}
use Rattle.raft_log.specs.Decided.{count_term}
use Rattle.chain_run.proofs.deciding.count_term.Given as goal

-- those so far, with those that are left
abbrev pub invariant-loop-item : goal.invariant-loop-item
invariant-loop-item l = record {
  so_far : l.count + count_term (drop l.item-index l.items) l.term ≡ count_term l.items l.term;
  few : l.count ≤ l.item-index;
}
