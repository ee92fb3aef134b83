use Rattle.std.proofs.Common.{◌≡◌, drop, ℕ}
use Rattle.std.specs.List.{list_all}
use Rattle.raft_log.specs.Majority.{is_among as among}
use Rattle.table_writing.proofs.rows.are_among.Given as goal

abbrev pub invariant-loop-number : goal.invariant-loop-number
invariant-loop-number l = list_all (λ (n : ℕ). among n l.others) (drop l.number-index l.numbers) ≡ list_all (λ (n : ℕ). among n l.others) l.numbers
