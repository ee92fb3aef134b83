use Rattle.std.proofs.Common.{sym}
use Rattle.part_machine.proofs.Endings.{double_plan}
use Rattle.part_machine.proofs.ending.plan_double.Goals as goal

pub returns : goal.returns
returns g c = λ p next index is-next st.
    rw (c.in_ok-push_outcome.ensures, c.in_ok-push_chains.ensures.ok, c.in_ok-push_no_chains.ensures, c.in_ok-push_outs.ensures.ok, c.new-batch.ensures, c.as_slice.ensures.list, c.as_slice-2.ensures.list, c.as_slice-3.ensures.list, c.in_ok-copied_chain.ensures)
    (double_plan c.args.s c.requires.setting is-next st c.args.v c.in-Some.chain.now (sym c.in-Some.ensures) c.if-chain.false)
