use Rattle.std.proofs.Common.{◌≡◌, Bool, ◌+◌, drop, filter, ap, sym, ◌∙◌}
use Rattle.std.specs.Prelude.{not, ◌&&◌}
use Rattle.part_machine.specs.Edges.{is_taken, is_left}
use Rattle.part_machine.proofs.EdgeReads.{taken_left}
use Rattle.part_machine.proofs.EdgeSteps.{next_of, grown_by}
use Rattle.part_machine.proofs.edges.taken_of.Goals as goal

pub loop-half-preserved : goal.loop-half-preserved
loop-half-preserved g c =
    let left = drop c.loop-half.half-index c.args.list.now in
    let rest = drop (c.loop-half.half-index + 1) c.args.list.now in
    let next = next_of c.args.list.now c.loop-half.half-index c.half-item.result c.loop-half-test.true c.half-item.is in
    let wanted : c.takes.result ≡ is_left c.args.s (g.S.KeyStore.meaning c.args.store.now) c.args.absent c.half-item.result = c.takes.ensures ∙ ap (λ (b : Bool). not (c.args.absent && b)) c.has_out-here.ensures.is in
    record {
      taken = λ p keeps. grown_by (is_taken p c.args.absent) c.loop-half.made c.push_if.new.made left rest (filter (is_taken p c.args.absent) c.args.list.now) c.half-item.result c.takes.result next
          (wanted ∙ sym (taken_left c.args.s p (g.S.KeyStore.meaning c.args.store.now) keeps c.args.absent c.half-item.result c.has_out-here.ensures.fits)) c.in_ok-push_if.ensures (c.loop-half.invariant.taken p keeps);
      left = grown_by (is_left c.args.s (g.S.KeyStore.meaning c.args.store.now) c.args.absent) c.loop-half.made c.push_if.new.made left rest (filter (is_left c.args.s (g.S.KeyStore.meaning c.args.store.now) c.args.absent) c.args.list.now) c.half-item.result c.takes.result next
          wanted c.in_ok-push_if.ensures c.loop-half.invariant.left;
    }
