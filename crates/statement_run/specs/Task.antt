-- A statement of the program tells one of the definitions.
use Rattle.std.specs.Prelude.{◌≡◌, ◌<◌, [], ◌∷◌, ◌++◌}
use Rattle.std.specs.List.{list_any}
use Rattle.graph_model.specs.declared.answer.Answer.{Answer}
use Rattle.statement_run.specs.Statement.{Running, starting, is_last}
use Rattle.statement_run.specs.Bound.{statement_of}
use Rattle.statement_run.specs.At.{IsAt}
use Rattle.statement_run.specs.Tally.{IsTally}
use Rattle.statement_run.specs.declared.task.Task.{Task}

pub record Tells (t : Task) (r : Running) : Type 0 where
  pub parts : 0 < t.parts
  pub statement : r.statement ≡ statement_of t.parts t.bound
  pub stopped : t.stopped ≡ list_any is_last r.answers
  pub tally : IsTally t.tally r.answers
  pub at : IsAt t.bound t.views t.walk r.answers

-- before its first answer
abbrev pub fresh : Task → Running
fresh t = starting (statement_of t.parts t.bound)

-- behind an answer
abbrev pub behind : Running → Answer → Running
behind r answer = record r { answers = r.answers ++ answer ∷ [] }
