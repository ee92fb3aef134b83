use Rattle.std.proofs.Common.{ap, ◌∙◌}
use Rattle.part_rules.specs.Machine.{applied}
use Rattle.chain_leader.specs.Leading.{chain_in}
use Rattle.replica_peer.specs.Ended.{forgotten}
use Rattle.replica_peer.specs.Worked.{with_row}
use Rattle.replica_peer.proofs.Follows.{forgotten_is}
use Rattle.replica_peer.proofs.applying.apply_one.Goals as goal

pub returns-clause-table : goal.returns-clause-table
returns-clause-table g c = λ p rest shows.
    let behind = (applied c.args.machine.now.setting.parts c.args.index c.args.entry.now p).0 in
    c.follow.ensures.table
    ∙ ap (λ gone. with_row (forgotten c.args.table.now.0 gone) c.args.begins) (c.gone_in-gone.ensures behind rest (c.apply-said.ensures.shows p rest shows).0)
    ∙ ap (λ t. with_row t c.args.begins) (forgotten_is c.args.table.now.0 behind (chain_in c.args.entry.now))
