use Rattle.std.proofs.Common.{sym}
use Rattle.part_machine.proofs.Endings.{abort_plan}
use Rattle.part_machine.proofs.ending.plan_abort.Goals as goal

pub returns : goal.returns
returns g c = λ p next index is-next st.
    rw (c.in_ok-push_outcome.ensures, c.in_ok-push_no_chains.ensures, c.new-batch.ensures, c.as_slice.ensures.list)
    (abort_plan c.args.s c.requires.setting is-next st c.args.v c.in-Some.chain.now (sym c.in-Some.ensures) c.if-chain.false)
