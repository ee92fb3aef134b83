use Rattle.std.proofs.Common.{◌≡◌, arith, ap, sym, ◌∙◌, take}
use Rattle.fault_schedule.specs.Words.{without_spaces}
use Rattle.fault_schedule.proofs.LineLemmas.{one_less, ends_there, none_left}
use Rattle.fault_schedule.proofs.line.without_spaces.Goals.{then-loop-end-test+else-line-end-eq32, else-loop-end-test}
use Rattle.fault_schedule.proofs.line.without_spaces.Goals as goal

pub loop-end-preserved : goal.loop-end-preserved
loop-end-preserved c = record {
  within = omega (arith, c.loop-end.invariant.within);
  same = one_less c.args.line.now c.loop-end.end c.loop-end-test.true c.loop-end.invariant.within c.if-line-end-eq32.true ∙ c.loop-end.invariant.same;
}

pub returns : goal.returns
returns c =
    elim c.loop-end-test.branch [
      | then-loop-end-test+else-line-end-eq32 w ↦ sym (ends_there c.args.line.now c.loop-end.end w.loop-end-test.true c.loop-end.invariant.within w.if-line-end-eq32.false) ∙ c.loop-end.invariant.same
      | else-loop-end-test w ↦
          let gone : c.loop-end.end ≡ 0 = omega (arith, w.loop-end-test.false) in
          ap (λ k. take k c.args.line.now) gone ∙ sym none_left ∙ ap (λ k. without_spaces (take k c.args.line.now)) (sym gone) ∙ c.loop-end.invariant.same
    ]
