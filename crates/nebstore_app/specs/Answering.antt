-- How a script is answered, line by line.
use Rattle.std.specs.Prelude.{◌≡◌, ℕ, ◌+◌, ◌≤◌, List, [], ◌∷◌, ◌++◌, length, take, Option, Bool, true, false}
use Rattle.first_graph.specs.declared.answer.Answer.{Answer}
use Rattle.first_script.specs.Lines.{lines, whole_lines}
use Rattle.first_script.specs.Works.{ops_of}
use Rattle.first_script.specs.Answers.{line_answers}
use Rattle.first_script.specs.Print.{print}
use Rattle.first_script.specs.declared.line_answer.LineAnswer.{LineAnswer}
use Rattle.first_script.specs.declared.work.Work.{Work}
use Rattle.outside_io.specs.Bytes.{AppendsFront}
use Rattle.nebstore_app.specs.declared.event.Event.{Event}
use Rattle.nebstore_app.specs.World.{World, IsReached}
use Rattle.nebstore_app.specs.Calls.{calls_of, replies_of, numbered, IsQuiet}

-- the most bytes of a script that count
abbrev pub most_bytes : ℕ
most_bytes = 16777216

-- the lines of a script; of one that was cut off, those that an LF ends
abbrev pub lines_by : Bool → List ℕ → List (List ℕ)
lines_by true bytes = whole_lines bytes
lines_by false bytes = lines bytes

-- all calls of these works were made, in order, each once, and answered so
pub record IsAnswered (script : List Work) (events : List Event) (answers : List Answer) : Type 0 where
  pub calls : calls_of events ≡ numbered 1 (ops_of script)
  pub replies : replies_of events ≡ numbered 1 answers
  pub each : length answers ≡ length (ops_of script)

-- the first calls of these works were made, in order, each once, and the first of them answered so
pub record IsPartlyAnswered (script : List Work) (events : List Event) (answers : List Answer) : Type 0 where
  pub made : ℕ
  pub calls : calls_of events ≡ numbered 1 (take made (ops_of script))
  pub replies : replies_of events ≡ numbered 1 answers
  pub few : length answers ≤ length (ops_of script)

-- what is printed of a script whose calls were answered so
abbrev pub printed : List Work → List Answer → List ℕ
printed script answers = print 1 (line_answers script answers)

-- one line was answered
pub record AnswersLine (w v : World) (work : Work) (a : LineAnswer) : Type 0 where
  pub quiet : IsQuiet v
  pub last : v.last ≡ w.last + length (ops_of (work ∷ []))
  pub answers : List Answer
  pub each : length answers ≡ length (ops_of (work ∷ []))
  pub calls : calls_of v.events ≡ calls_of w.events ++ numbered (w.last + 1) (ops_of (work ∷ []))
  pub replies : replies_of v.events ≡ replies_of w.events ++ numbered (w.last + 1) answers
  pub is : line_answers (work ∷ []) answers ≡ a ∷ []

-- one line was begun and not answered, or its answer was not written
pub record LeavesLine (w v : World) (work : Work) (answers : List Answer) : Type 0 where
  pub reached : IsReached v
  pub made : ℕ
  pub few : length answers ≤ length (ops_of (work ∷ []))
  pub calls : calls_of v.events ≡ calls_of w.events ++ numbered (w.last + 1) (take made (ops_of (work ∷ [])))
  pub replies : replies_of v.events ≡ replies_of w.events ++ numbered (w.last + 1) answers

-- one line was left, and at most a front of its answer was written
abbrev pub StopsLine : World → World → ℕ → Work → Option (List ℕ) → Option (List ℕ) → Type 0
StopsLine w v number work old new =
    (answers : List Answer) × LeavesLine w v work answers × AppendsFront old (print number (line_answers (work ∷ []) answers)) new
