use Rattle.std.proofs.Common.{nat_lt, sym, ap, ◌∙◌, arith}
use Rattle.std.proofs.lemmas.Bool.{lt-ltb}
use Rattle.part_machine.proofs.Oks.{not_below}
use Rattle.part_machine.proofs.Remotings.{fence_stale, fence_plan}
use Rattle.part_machine.proofs.remoting.plan_fence.Goals as goal

pub returns-then-term-kept : goal.returns-then-term-kept
returns-then-term-kept g c = λ p chains next index is-next st.
    rw (c.still.ensures, c.guard_at-kept.ensures.is)
    (fence_stale c.args.s c.requires.setting is-next st c.args.source c.args.term c.args.v c.requires.source c.args.edges.now
    (ap (λ k. nat_lt c.args.term k) (sym c.guard_at-kept.ensures.is) ∙ lt-ltb c.args.term c.guard_at-kept.result (omega (arith, c.if-term-kept.true))))

pub returns : goal.returns
returns g c = λ p chains next index is-next st.
    rw (c.in_ok-push_guard.ensures.ok, c.new-guard.ensures)
    (fence_plan c.args.s c.requires.setting is-next st c.args.source c.args.term c.args.v c.requires.source c.args.edges.now c.all_written.result
    (ap (λ k. nat_lt c.args.term k) (sym c.guard_at-kept.ensures.is) ∙ not_below c.args.term c.guard_at-kept.result (omega (arith, c.if-term-kept.false)))
    (c.all_written.ensures p st.keeps) c.push_guard.ensures.fits.1)
