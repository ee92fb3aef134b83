use Rattle.statement_run.proofs.Tallies.{noted}
use Rattle.statement_run.proofs.tally.Tally.note.Goals as goal

pub returns : goal.returns
returns c = λ answers h. noted c.args.self.now _ answers c.args.answer.now h c.requires.goes c.requires.calls c.now_pending-pending.ensures c.still_skipped-skipped.ensures c.stop_of-stop.ensures
