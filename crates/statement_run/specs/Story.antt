-- A client's story: statements are queued, calls are made, and end with answers. What packets and Rounds do in between is no
-- matter to it.
use Rattle.std.specs.Prelude.{◌≡◌, List, [], ◌∷◌, map, take, length, Option, None, Some}
use Rattle.graph_model.specs.declared.answer.Answer.{Answer}
use Rattle.graph_model.specs.declared.call_id.CallId.{CallId}
use Rattle.graph_model.specs.declared.op.Op.{Op}
use Rattle.statement_run.specs.Statement.{Statement, Running, starting, unended, Asked, next_in, told}
use Rattle.statement_run.specs.Caller.{Open, Caller, nobody, queued, next, invoked, replied}

pub data Move : Type 0 where
  Queues : Statement → Move
  Invokes : CallId → Op → Move
  Replies : Answer → Move

-- each at its place: a call is the one that comes next, where none is open; an answer ends the open call
abbrev pub IsStory : Caller → List Move → Type 0
IsStory c [] = Unit {0}
IsStory c (Queues statement ∷ moves) = IsStory (queued c statement) moves
IsStory c (Invokes id op ∷ moves) = (asked : Asked) × (next c ≡ Some asked) × (asked.op ≡ op) × IsStory (invoked c id asked) moves
IsStory c (Replies answer ∷ moves) = (call : Open) × (c.call ≡ Some call) × IsStory (replied c answer) moves

-- the statements, calls and answers of a story
abbrev pub statements_in : List Move → List Statement
statements_in [] = []
statements_in (Queues statement ∷ moves) = statement ∷ statements_in moves
statements_in (Invokes id op ∷ moves) = statements_in moves
statements_in (Replies answer ∷ moves) = statements_in moves

abbrev pub calls_in : List Move → List Op
calls_in [] = []
calls_in (Queues statement ∷ moves) = calls_in moves
calls_in (Invokes id op ∷ moves) = op ∷ calls_in moves
calls_in (Replies answer ∷ moves) = calls_in moves

abbrev pub answers_in : List Move → List Answer
answers_in [] = []
answers_in (Queues statement ∷ moves) = answers_in moves
answers_in (Invokes id op ∷ moves) = answers_in moves
answers_in (Replies answer ∷ moves) = answer ∷ answers_in moves

-- the calls of statements in a row, one after another, by the answers that they get: as many as the answers, and one more
abbrev pub and_rest : Option Asked → List Op → List Op
and_rest None rest = []
and_rest (Some asked) rest = asked.op ∷ rest

abbrev pub calls_of : List Running → List Answer → List Op
calls_of queue [] = and_rest (next_in queue) []
calls_of queue (answer ∷ answers) = and_rest (next_in queue) (calls_of (told answer (unended queue)) answers)

-- these are the first of those
abbrev pub IsFront : List Op → List Op → Type 0
IsFront calls all = calls ≡ take (length calls) all

-- The calls that a client makes are those of its statements, in order, each once.
abbrev pub CallsInOrder : List Move → Type 0
CallsInOrder moves = IsStory nobody moves → IsFront (calls_in moves) (calls_of (map starting (statements_in moves)) (answers_in moves))
