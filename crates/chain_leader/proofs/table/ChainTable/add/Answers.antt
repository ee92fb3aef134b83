use Rattle.std.proofs.Common.{ap}
use Rattle.chain_leader.proofs.Rows.{put_at, put_gap, rising_gap}
use Rattle.chain_leader.proofs.table.ChainTable.add.Goals as goal

pub returns-in-Ok-clause-table : goal.returns-in-Ok-clause-table
returns-in-Ok-clause-table c = put_at _ _ c.as_slice.ensures.value _ (ap (λ p. p.0) c.self.view_is) c.args.v _ c.self.invariant c.in-Ok.ensures.found c.args.chain

pub returns-in-Ok-insert-clause-table : goal.returns-in-Ok-insert-clause-table
returns-in-Ok-insert-clause-table c = rw (c.in-Ok-insert.ensures.items) (put_gap _ _ c.as_slice.ensures.value _ (ap (λ p. p.0) c.self.view_is) c.args.v _ c.in-Err.ensures.absent c.args.chain)

pub invariant_of-self-in-Ok-insert : goal.invariant_of-self-in-Ok-insert
invariant_of-self-in-Ok-insert c = rw (c.in-Ok-insert.ensures.items) (rising_gap _ _ c.as_slice.ensures.value _ (ap (λ p. p.0) c.self.view_is) c.args.v _ c.self.invariant c.in-Err.ensures.absent c.args.chain)
