use Rattle.std.proofs.Common.{◌≡◌, ℕ, ◌+◌, drop, filter, ap, sym, ◌∙◌}
use Rattle.std.specs.Prelude.{nat_lt}
use Rattle.part_rules.specs.Part.{is_fresh}
use Rattle.part_machine.specs.Edges.{is_lower}
use Rattle.part_machine.proofs.EdgeReads.{fresh_lower}
use Rattle.part_machine.proofs.EdgeSteps.{next_of, grown_by}
use Rattle.part_machine.proofs.edges.fresh_of.Goals as goal

pub loop-half-preserved : goal.loop-half-preserved
loop-half-preserved g c =
    let left = drop c.loop-half.half-index c.args.list.now in
    let rest = drop (c.loop-half.half-index + 1) c.args.list.now in
    let next = next_of c.args.list.now c.loop-half.half-index c.half-item.result c.loop-half-test.true c.half-item.is in
    let lower : nat_lt c.number_at-number.result c.args.v ≡ is_lower c.args.s (g.S.KeyStore.meaning c.args.store.now) c.args.v c.half-item.result = ap (λ (n : ℕ). nat_lt n c.args.v) c.number_at-number.ensures.is in
    record {
      fresh = λ p keeps. grown_by (is_fresh p c.args.v) c.loop-half.made c.push_if.new.made left rest (filter (is_fresh p c.args.v) c.args.list.now) c.half-item.result (nat_lt c.number_at-number.result c.args.v) next
          (lower ∙ sym (fresh_lower c.args.s p (g.S.KeyStore.meaning c.args.store.now) keeps c.args.v c.half-item.result c.number_at-number.ensures.fits)) c.in_ok-push_if.ensures (c.loop-half.invariant.fresh p keeps);
      left = grown_by (is_lower c.args.s (g.S.KeyStore.meaning c.args.store.now) c.args.v) c.loop-half.made c.push_if.new.made left rest (filter (is_lower c.args.s (g.S.KeyStore.meaning c.args.store.now) c.args.v) c.args.list.now) c.half-item.result (nat_lt c.number_at-number.result c.args.v) next
          lower c.in_ok-push_if.ensures c.loop-half.invariant.left;
    }
