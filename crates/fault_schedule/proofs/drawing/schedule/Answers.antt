use Rattle.std.proofs.Common.{◌≡◌, ◌-◌, arith, sym, ◌∙◌, ap, ◌++◌, []}
use Rattle.std.proofs.lemmas.List.{append-nil}
use Rattle.fault_schedule.proofs.DrawingLemmas.{next_line, none_left}
use Rattle.fault_schedule.specs.Drawing.{lines, stream_at}
use Rattle.fault_schedule.proofs.drawing.schedule.Goals as goal

pub loop-preserved : goal.loop-preserved
loop-preserved c =
    rw c.in_ok-push.ensures.ok (next_line c.args.nodes c.args.parts (stream_at c.loop.rng) c.args.count c.loop.counter c.loop.controls c.draw.result (stream_at c.draw.new.rng) _ c.loop-test.true c.draw.ensures c.loop.invariant)

pub returns : goal.returns
returns c =
    let gone : c.args.count - c.loop.counter ≡ 0 = omega (arith, c.loop-test.false) in
    let rest : lines c.args.nodes c.args.parts (c.args.count - c.loop.counter) (stream_at c.loop.rng) ≡ [] =
    ap (λ k. lines c.args.nodes c.args.parts k (stream_at c.loop.rng)) gone ∙ none_left c.args.nodes c.args.parts (stream_at c.loop.rng) in
    record { ok = sym (append-nil c.loop.controls) ∙ ap (λ more. c.loop.controls ++ more) (sym rest) ∙ c.loop.invariant }
