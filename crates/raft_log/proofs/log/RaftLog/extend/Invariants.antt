use Rattle.std.proofs.Common.{◌≡◌, ◌++◌, ◌≤◌, length}
use Rattle.std.specs.Vec.Iter.{into_iter_items}
use Rattle.raft_log.specs.Config.{AreEntries}
use Rattle.raft_log.proofs.log.RaftLog.extend.Given as goal

-- what is left has room, and goes behind the log
abbrev pub invariant-loop-entry : goal.invariant-loop-entry
invariant-loop-entry l = record {
  next : (goal.iterator-loop-entry).can_next l.entry-iterator;
  finite : (goal.iterator-loop-entry).is_finite l.entry-iterator;
  log : l.self.0 ++ into_iter_items l.entry-iterator ≡ l.fn.self.0 ++ l.fn.entries.items;
  room : length (into_iter_items l.entry-iterator) ≤ l.self.1;
  items : AreEntries (into_iter_items l.entry-iterator);
}
