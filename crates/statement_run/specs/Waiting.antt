-- Statements that wait.
use Rattle.std.specs.Prelude.{◌≡◌, List, ◌∷◌, map, Some}
use Rattle.std.specs.List.{AllByRecursion}
use Rattle.graph_model.specs.declared.call_id.CallId.{CallId}
use Rattle.statement_run.specs.Statement.{Running, call_next, unended}
use Rattle.statement_run.specs.Call.{Begins, IsReady, unnamed}
use Rattle.statement_run.specs.Task.{Tells, fresh}
use Rattle.statement_run.specs.declared.call.Begun.{Begun}
use Rattle.statement_run.specs.declared.task.Task.{Task}
use Rattle.statement_run.specs.declared.waiting.Waiting.{Waiting}

-- a statement that waits, and its first call, which has no name yet
pub record Waits (w : Waiting) : Type 0 where
  pub task : Tells w.task (fresh w.task)
  pub first : IsReady unnamed w.task.parts (call_next (fresh w.task)) w.first

abbrev pub fresh_all : List Waiting → List Running
fresh_all waiting = map (λ (w : Waiting). fresh w.task) waiting

-- Of some statements this is the first that has a call, which is ready to begin under a name; these stand behind it.
pub record IsFirst (id : CallId) (waiting : List Waiting) (t : Task) (b : Begun) (behind : List Waiting) : Type 0 where
  pub queue : unended (fresh_all waiting) ≡ fresh t ∷ fresh_all behind
  pub tells : Tells t (fresh t)
  pub asks : call_next (fresh t) ≡ Some b.call.op
  pub begins : Begins id (record { parts = t.parts; op = b.call.op }) b
  pub waits : AllByRecursion Waits behind
