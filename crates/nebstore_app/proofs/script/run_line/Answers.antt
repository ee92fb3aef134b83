use Rattle.std.proofs.Common.{◌≡◌, ◌++◌, ap, ◌∙◌, subst}
use Rattle.first_script.specs.Print.{print_line}
use Rattle.outside_io.specs.Bytes.{AppendsFront}
use Rattle.nebstore_app.proofs.Results.{on_err}
use Rattle.nebstore_app.proofs.Running.{stops_answered, stops_written}
use Rattle.nebstore_app.proofs.script.run_line.Goals as goal

pub returns-in_err-print_line-clause-left : goal.returns-in_err-print_line-clause-left
returns-in_err-print_line-clause-left g c =
    on_err c.from_residual-in_err-print_line.result _ (λ e is.
    stops_answered c.args.world.now c.answer_line.new.world c.args.number c.args.work.now c.in_ok-answer.answer (g.K.Sink.written c.args.sink.now) c.in_ok-answer.ensures.answered)

pub returns-in_err-write_all-clause-left : goal.returns-in_err-write_all-clause-left
returns-in_err-write_all-clause-left g c =
    let text : c.as_slice.result.now ≡ print_line c.args.number c.in_ok-answer.answer =
    c.as_slice.ensures.value ∙ c.in_ok-print_line.ensures ∙ ap (λ bytes. bytes ++ print_line c.args.number c.in_ok-answer.answer) c.new-text.ensures.items in
    on_err c.from_residual-in_err-write_all.result _ (λ e is.
    stops_written c.args.world.now c.answer_line.new.world c.args.number c.args.work.now c.in_ok-answer.answer (g.K.Sink.written c.args.sink.now) (g.K.Sink.written c.write_all.new.sink) c.in_ok-answer.ensures.answered
    (subst (λ bytes. AppendsFront (g.K.Sink.written c.args.sink.now) bytes (g.K.Sink.written c.write_all.new.sink)) text c.in_err-write_all.ensures.front))
