-- What a line is answered, from what its calls are answered.
use Rattle.std.specs.Prelude.{ℕ, ℤ, ◌+◌, Bool, true, false, List, [], ◌∷◌, map, flat_map, Option, None, Some, option_map, unwrap_or, if◌then◌else◌}
use Rattle.std.specs.List.{list_any, list_all}
use Rattle.first_graph.specs.declared.answer.Answer.{Answer}
use Rattle.first_graph.specs.declared.answer.Answer.TheVariants as answer
use Rattle.first_graph.specs.declared.edge_id.EdgeId.{EdgeId}
use Rattle.first_graph.specs.declared.found.Found.{Found}
use Rattle.first_graph.specs.declared.val.Val.{Val}
use Rattle.first_graph.specs.declared.val.Val.TheVariants.{Null, Int}
use Rattle.first_script.specs.declared.statement.Statement.{Statement}
use Rattle.first_script.specs.declared.statement.Statement.TheVariants.{Insert, Out, In}
use Rattle.first_script.specs.declared.work.Work.{Work}
use Rattle.first_script.specs.declared.work.Work.TheVariants.{Ready, Call, Refused}
use Rattle.first_script.specs.declared.line_answer.LineAnswer.{LineAnswer}
use Rattle.first_script.specs.declared.line_answer.LineAnswer.TheVariants.{Fine, Skipped, Pending, Rows, Conflict, Cancelled, Unknown, Syntax}

-- the end of an edge that a row shows
abbrev pub end_value : Option ℤ → Val
end_value None = Null
end_value (Some vid) = Int vid

-- the first value of a row
abbrev pub first_value : List Val → Val
first_value [] = Null
first_value (value ∷ row) = value

-- the row that is shown for a found edge: one of its ends, and its degree
abbrev pub shown_row : (EdgeId → ℤ) → Found → List Val
shown_row end found = end_value (option_map end found.edge) ∷ first_value found.row ∷ []

-- what the calls found
abbrev pub found_by : Answer → List Found
found_by (answer.Shown view) = view
found_by answer.Fine = []
found_by answer.Skipped = []
found_by answer.Pending = []
found_by (answer.Conflict id) = []
found_by answer.Cancelled = []
found_by answer.Unknown = []

-- a statement that was done: rows for a GO
abbrev pub finished : Statement → List Found → LineAnswer
finished (Insert src dst degree) found = Fine
finished (Out vid) found = Rows (map (shown_row (λ edge. edge.dst)) found)
finished (In vid) found = Rows (map (shown_row (λ edge. edge.src)) found)

-- the first call that stopped the statement: its answer, with its place
abbrev pub stop_from : ℕ → List Answer → Option LineAnswer
stop_from place [] = None
stop_from place (answer.Conflict id ∷ answers) = Some (Conflict id place)
stop_from place (answer.Cancelled ∷ answers) = Some (Cancelled place)
stop_from place (answer.Unknown ∷ answers) = Some (Unknown place)
stop_from place (answer.Fine ∷ answers) = stop_from (place + 1) answers
stop_from place (answer.Skipped ∷ answers) = stop_from (place + 1) answers
stop_from place (answer.Pending ∷ answers) = stop_from (place + 1) answers
stop_from place (answer.Shown view ∷ answers) = stop_from (place + 1) answers

-- whether a call is answered so
abbrev pub is_pending : Answer → Bool
is_pending answer.Pending = true
is_pending answer.Fine = false
is_pending answer.Skipped = false
is_pending (answer.Conflict id) = false
is_pending answer.Cancelled = false
is_pending answer.Unknown = false
is_pending (answer.Shown view) = false

abbrev pub is_skipped : Answer → Bool
is_skipped answer.Skipped = true
is_skipped answer.Fine = false
is_skipped answer.Pending = false
is_skipped (answer.Conflict id) = false
is_skipped answer.Cancelled = false
is_skipped answer.Unknown = false
is_skipped (answer.Shown view) = false

-- whether there was a call, and all were skipped
abbrev pub all_skipped : List Answer → Bool
all_skipped [] = false
all_skipped (first ∷ answers) = list_all is_skipped (first ∷ answers)

-- a statement that no call stopped
abbrev pub went_through : Statement → List Answer → LineAnswer
went_through statement answers =
    if list_any is_pending answers then Pending else
    (if all_skipped answers then Skipped else finished statement (flat_map found_by answers))

-- what a statement is answered, by what its calls are answered, one after another
abbrev pub statement_answer : Statement → List Answer → LineAnswer
statement_answer statement answers = unwrap_or (stop_from 1 answers) (went_through statement answers)

-- What the lines are answered, by the answers of the calls, in order. Where no answer is left for a call the run
-- ended.
abbrev pub line_answers : List Work → List Answer → List LineAnswer
line_answers [] answers = []
line_answers (Ready ∷ works) answers = Fine ∷ line_answers works answers
line_answers (Refused ∷ works) answers = Syntax ∷ line_answers works answers
line_answers (Call statement ∷ works) [] = []
line_answers (Call statement ∷ works) (first ∷ answers) = statement_answer statement (first ∷ []) ∷ line_answers works answers
