-- What the answers of a statement's calls tell of its end.
use Rattle.std.specs.Prelude.{◌≡◌, List, length}
use Rattle.std.specs.List.{list_any, list_all}
use Rattle.graph_model.specs.declared.answer.Answer.{Answer}
use Rattle.statement_run.specs.Ending.{is_pending, is_skipped, stopped_at}
use Rattle.statement_run.specs.declared.tally.Tally.{Tally}

-- how many there are, whether one is Pending, whether all are Skipped, and the one that ended the statement
pub record IsTally (t : Tally) (answers : List Answer) : Type 0 where
  pub calls : t.calls ≡ length answers
  pub pending : t.pending ≡ list_any is_pending answers
  pub skipped : t.skipped ≡ list_all is_skipped answers
  pub stop : t.stop ≡ stopped_at 1 answers
