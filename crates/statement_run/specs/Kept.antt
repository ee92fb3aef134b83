-- What a client keeps of its lines: those of the statements that haven't ended, and how the others ended.
use Rattle.std.specs.Prelude.{ℕ, List, [], ◌∷◌, ◌++◌, map, Option, None, Some, if◌then◌else◌}
use Rattle.std.specs.FinMap.{FinMap, empty, get, insert}
use Rattle.std.specs.Ordering.{nat_cmp}
use Rattle.std.specs.Option.{is_some, option_and_then}
use Rattle.maps.specs.Maps.{altered}
use Rattle.graph_model.specs.declared.answer.Answer.{Answer}
use Rattle.schema_book.specs.declared.bound.Bound.{Bound}
use Rattle.statement_run.specs.Statement.{Running, call_next, told}
use Rattle.statement_run.specs.Ending.{ending_of}
use Rattle.statement_run.specs.declared.client.Busy.{Busy}
use Rattle.statement_run.specs.declared.client.Client.{Client}
use Rattle.statement_run.specs.declared.ending.Ending.{Ending}
use Rattle.statement_run.specs.declared.task.Task.{Task}
use Rattle.statement_run.specs.declared.waiting.Waiting.{Waiting}

-- a statement's line, and what it is bound to
pub record Line : Type 0 where
  pub number : ℕ
  pub bound : Bound

-- by line, a place for each statement that was queued, and there how it ended, if it has
abbrev pub Ends : Type 0
Ends = FinMap nat_cmp (Option Ending)

-- the lines of the statements in the row, and the places of all
pub record Kept : Type 0 where
  pub lines : List Line
  pub ends : Ends

abbrev pub nothing_kept : Kept
nothing_kept = record { lines = []; ends = empty }

-- a statement is queued: its line stands last, and has its place
abbrev pub held : Line → Kept → Kept
held line k = record { lines = k.lines ++ line ∷ []; ends = insert k.ends line.number None }

-- a statement has ended: how it did stands in its line's place
abbrev pub filled : Line → List Answer → Ends → Ends
filled line answers ends = altered ends line.number (λ _. Some (ending_of line.bound answers))

-- The statements at the front of the row that make no call any more have ended; the others stay.
abbrev pub noted_in : List Line → List Running → Ends → Kept
noted_in [] queue ends = record { lines = []; ends = ends }
noted_in (line ∷ lines) [] ends = record { lines = line ∷ lines; ends = ends }
noted_in (line ∷ lines) (r ∷ queue) ends =
    if is_some (call_next r) then record { lines = line ∷ lines; ends = ends }
    else noted_in lines queue (filled line r.answers ends)

abbrev pub noted : List Running → Kept → Kept
noted queue k = noted_in k.lines queue k.ends

-- where an answer ends the open call, the statements that end by it
abbrev pub noted_by : List Running → Option Answer → Kept → Kept
noted_by queue None k = k
noted_by queue (Some answer) k = noted (told answer queue) k

-- how the statement of a line ended, if it has
abbrev pub ended_at : ℕ → Kept → Option Ending
ended_at number k = option_and_then (λ place. place) (get k.ends number)

-- what a client of the program keeps
abbrev pub line_of : Task → Line
line_of t = record { number = t.line; bound = t.bound }

abbrev pub lines_waiting : List Waiting → List Line
lines_waiting waiting = map (λ (w : Waiting). line_of w.task) waiting

abbrev pub lines_in : Option Busy → List Line
lines_in None = []
lines_in (Some b) = line_of b.task ∷ lines_waiting b.waiting.items

abbrev pub kept_by : Client → Kept
kept_by client = record { lines = lines_in client.busy; ends = client.lines }
