-- What each outcome of a run says, and its exit status.
use Rattle.std.specs.Prelude.{◌≡◌, ◌<◌, ◌≤◌, ◌⊎◌, ℕ, List, [], length, take, Option}
use Rattle.first_graph.specs.declared.answer.Answer.{Answer}
use Rattle.first_script.specs.Lines.{lines, whole_lines}
use Rattle.first_script.specs.Works.{works}
use Rattle.first_script.specs.declared.work.Work.{Work}
use Rattle.outside_io.specs.Bytes.{Appends, AppendsFront, IsEnded}
use Rattle.nebstore_app.specs.declared.event.Event.{Event}
use Rattle.nebstore_app.specs.declared.outcome.Outcome.{Outcome}
use Rattle.nebstore_app.specs.declared.outcome.Outcome.TheVariants.{WrongWords, Ended, SourceFailed, SinkFailed, NoMemory, TooLong}
use Rattle.nebstore_app.specs.Answering.{most_bytes, IsAnswered, IsPartlyAnswered, printed}

abbrev pub status_of : Outcome → ℕ
status_of Ended = 0
status_of WrongWords = 2
status_of SourceFailed = 3
status_of SinkFailed = 4
status_of NoMemory = 5
status_of TooLong = 6

-- the source: the bytes that were read and those that are left, and its faults before and now
pub record Reading : Type 0 where
  pub read : List ℕ
  pub left : Option (List ℕ)
  pub old_faults : ℕ
  pub new_faults : ℕ

-- the sink: the bytes written and its faults, before and now
pub record Writing : Type 0 where
  pub old : Option (List ℕ)
  pub new : Option (List ℕ)
  pub old_faults : ℕ
  pub new_faults : ℕ

-- the source is at its end, within the limit and without a fault
pub record IsReadToEnd (r : Reading) : Type 0 where
  pub ended : IsEnded r.left
  pub few : length r.read ≤ most_bytes
  pub steady : r.new_faults ≡ r.old_faults

-- the source failed within the limit
pub record IsReadToFault (r : Reading) : Type 0 where
  pub few : length r.read ≤ most_bytes
  pub counted : r.old_faults < r.new_faults

-- more bytes than the limit were read, without a fault
pub record IsReadTooFar (r : Reading) : Type 0 where
  pub many : most_bytes < length r.read
  pub steady : r.new_faults ≡ r.old_faults

-- what the script's lines ask: all lines where the source is at its end; those that an LF ends where it failed; those
-- that an LF ends within the limit where there are more bytes
abbrev pub whole_script : Reading → List Work
whole_script r = works (lines r.read)

abbrev pub front_of_script : Reading → List Work
front_of_script r = works (whole_lines (take most_bytes r.read))

-- each call of the script was made and answered, in order, and the answers of all its lines are written
pub record RunsToEnd (script : List Work) (events : List Event) (w : Writing) : Type 0 where
  pub answers : List Answer
  pub answered : IsAnswered script events answers
  pub written : Appends w.old (printed script answers) w.new
  pub steady : w.new_faults ≡ w.old_faults

-- the first calls of the script were made, in order, and a front of its answers is written
pub record StopsEarly (script : List Work) (events : List Event) (w : Writing) : Type 0 where
  pub answers : List Answer
  pub answered : IsPartlyAnswered script events answers
  pub written : AppendsFront w.old (printed script answers) w.new

-- a front of the script that counts was run: of all lines where the source is at its end, and else of those that an LF
-- ends within the limit
abbrev pub IsLeft : Reading → List Event → Writing → Type 0
IsLeft r events w = (IsReadToEnd r × StopsEarly (whole_script r) events w) ⊎ StopsEarly (front_of_script r) events w

-- what each outcome says of what was read, of the events and of what is written
abbrev pub Says : Outcome → Reading → List Event → Writing → Type 0
Says WrongWords r events w = (r.read ≡ []) × (events ≡ []) × (w.new ≡ w.old)
Says Ended r events w = IsReadToEnd r × RunsToEnd (whole_script r) events w
Says SourceFailed r events w = IsReadToFault r × RunsToEnd (front_of_script r) events w
Says SinkFailed r events w = (w.old_faults < w.new_faults) × IsLeft r events w
Says NoMemory r events w = (w.new_faults ≡ w.old_faults) × IsLeft r events w
Says TooLong r events w = IsReadTooFar r × RunsToEnd (front_of_script r) events w

-- the script was run to its end, with this outcome, or left
abbrev pub RanTo : Outcome → List Work → List Event → Writing → Outcome → Type 0
RanTo done script events w outcome =
    ((outcome ≡ done) × RunsToEnd script events w) ⊎ (((outcome ≡ SinkFailed) × (w.old_faults < w.new_faults) × StopsEarly script events w) ⊎ ((outcome ≡ NoMemory) × (w.new_faults ≡ w.old_faults) × StopsEarly script events w))
