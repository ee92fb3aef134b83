use Rattle.std.proofs.Common.{refl, ◌+◌, ◌∙◌, sym, subst}
use Rattle.nebstore_app.specs.Answering.{AnswersLine, StopsLine}
use Rattle.nebstore_app.proofs.Results.{on_err}
use Rattle.nebstore_app.proofs.Running.{Running, run_start, run_more, run_left}
use Rattle.nebstore_app.proofs.script.run_lines.Goals as goal

pub loop-line-init : goal.loop-line-init
loop-line-init g c = record {
  running = subst (λ w. Running c.args.cut c.args.script.now c.args.script.now _ 1 w (g.K.Sink.written c.args.sink.now) (g.K.Sink.written c.args.sink.now)) (sym c.requires) (run_start c.args.cut c.args.script.now (g.K.Sink.written c.args.sink.now));
  steady = refl;
}

pub loop-line-preserved : goal.loop-line-preserved
loop-line-preserved g c =
    let told = c.in_ok-run_line.ensures.answered in
    record {
      running = subst (λ x. Running c.args.cut c.args.script.now c.in-Some.behind.now x.1 (c.loop-line.number + 1) c.run_line.new.world (g.K.Sink.written c.args.sink.now) (g.K.Sink.written c.run_line.new.sink)) (sym c.read_line-work.ensures)
          (run_more c.args.cut c.args.script.now c.loop-line.rest.now c.in-Some.behind.now c.in-Some.line.now c.loop-line.awaited c.loop-line.number c.loop-line.world c.run_line.new.world told.0
          (g.K.Sink.written c.args.sink.now) (g.K.Sink.written c.loop-line.sink) (g.K.Sink.written c.run_line.new.sink)
          c.loop-line.invariant.running c.in-Some.ensures.found c.in-Some.ensures.shorter
          (subst (λ x. AnswersLine c.loop-line.world c.run_line.new.world x.0 told.0) c.read_line-work.ensures told.1) told.2);
      steady = c.in_ok-run_line.ensures.steady ∙ c.loop-line.invariant.steady;
    }

pub returns-in_err-run_line-clause-left : goal.returns-in_err-run_line-clause-left
returns-in_err-run_line-clause-left g c =
    on_err c.from_residual.result _ (λ e is.
    run_left c.args.cut c.args.script.now c.loop-line.rest.now c.in-Some.behind.now c.in-Some.line.now c.loop-line.awaited c.loop-line.number c.loop-line.world c.run_line.new.world
    (g.K.Sink.written c.args.sink.now) (g.K.Sink.written c.loop-line.sink) (g.K.Sink.written c.run_line.new.sink)
    c.loop-line.invariant.running c.in-Some.ensures.found
    (subst (λ x. StopsLine c.loop-line.world c.run_line.new.world c.loop-line.number x.0 (g.K.Sink.written c.loop-line.sink) (g.K.Sink.written c.run_line.new.sink)) c.read_line-work.ensures c.in_err-run_line.ensures.left))

pub returns-in_err-run_line-clause-reached : goal.returns-in_err-run_line-clause-reached
returns-in_err-run_line-clause-reached g c = c.in_err-run_line.ensures.left.1.reached
