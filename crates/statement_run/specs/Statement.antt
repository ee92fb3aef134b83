-- A statement: which call comes next.
use Rattle.std.specs.Prelude.{ℕ, Bool, true, false, List, [], ◌∷◌, ◌++◌, Option, None, Some, if◌then◌else◌}
use Rattle.std.specs.Option.{is_some}
use Rattle.std.specs.List.{list_any}
use Rattle.graph_model.specs.declared.answer.Answer.{Answer}
use Rattle.graph_model.specs.declared.answer.Answer.TheVariants.{Conflict, Cancelled, Unknown}
use Rattle.graph_model.specs.declared.op.Op.{Op}

-- The number of parts by which its calls are routed, and its next call, by the answers of its calls so far; none where it
-- needs no other, or where the answers are too wide for a walk to go on.
pub record Statement : Type 0 where
  pub parts : ℕ
  pub calls : List Answer → Option Op

-- a statement, with the answers of its calls so far
pub record Running : Type 0 where
  pub statement : Statement
  pub answers : List Answer

abbrev pub starting : Statement → Running
starting statement = record { statement = statement; answers = [] }

-- Behind Conflict, Cancelled or Unknown it makes no other call.
abbrev pub is_last : Answer → Bool
is_last (Conflict other) = true
is_last Cancelled = true
is_last Unknown = true
is_last other = false

abbrev pub call_next : Running → Option Op
call_next r = if list_any is_last r.answers then None else r.statement.calls r.answers

-- A client's statements stand in a row, the one that runs first. One that makes no call any more, or made none at all, has
-- ended: the next one runs.
abbrev pub unended : List Running → List Running
unended [] = []
unended (r ∷ rest) = if is_some (call_next r) then r ∷ rest else unended rest

-- the call that comes next, and by how many parts it is routed
pub record Asked : Type 0 where
  pub parts : ℕ
  pub op : Op

abbrev pub asked_by : ℕ → Option Op → Option Asked
asked_by parts None = None
asked_by parts (Some op) = Some (record { parts = parts; op = op })

abbrev pub first_asked : List Running → Option Asked
first_asked [] = None
first_asked (r ∷ rest) = asked_by r.statement.parts (call_next r)

abbrev pub next_in : List Running → Option Asked
next_in queue = first_asked (unended queue)

-- the answer of the call of the statement that runs
abbrev pub told : Answer → List Running → List Running
told answer [] = []
told answer (r ∷ rest) = record r { answers = r.answers ++ answer ∷ [] } ∷ rest

abbrev pub parts_in : Option Asked → ℕ
parts_in None = 0
parts_in (Some asked) = asked.parts
