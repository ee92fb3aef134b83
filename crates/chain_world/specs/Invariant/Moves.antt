-- What happens to a ledger, one thing at a time, and the theorem about it: where each thing meets the discipline, the steps
-- are a run of the graph machine, whose trace is the calls and answers in their order.
use Rattle.std.specs.Prelude.{◌≡◌, ℕ, List, [], ◌∷◌, ◌++◌, length}
use Rattle.graph_model.specs.declared.answer.Answer.{Answer}
use Rattle.graph_model.specs.declared.call_id.CallId.{CallId}
use Rattle.graph_model.specs.declared.op.Op.{Op}
use Rattle.graph_model.specs.declared.op.Op.TheVariants.{Read}
use Rattle.graph_model.specs.declared.query.Query.{Query}
use Rattle.graph_model.specs.declared.graph_step.GStep.{GStep}
use Rattle.graph_model.specs.declared.graph_step.GStep.TheVariants.{Invoke, Reply}
use Rattle.part_keys.specs.declared.proposal.Proposal.{Proposal}
use Rattle.part_keys.specs.Routing.{part_of_query}
use Rattle.part_rules.specs.View.{view}
use Rattle.chain_world.specs.Outside.{IsGraphRun}
use Rattle.chain_world.specs.Ledger.{Ledger, blank_ledger, machine_of, decides, invokes, replies}
use Rattle.chain_world.specs.Course.{Courses, no_courses, recorded}
use Rattle.chain_world.specs.Invariant.ChainFacts.{GoOn}
use Rattle.chain_world.specs.Invariant.Discipline.{IsInvoked, MayDecide, MayInvoke, MayReply, WasSeen}
use Rattle.chain_world.specs.Invariant.Sound.{IsSound}

-- a client makes a call; a part decides an item, with its term; a client is answered, a read with its moment
pub data Move : Type 0 where
  Calls : CallId → Op → Move
  Decides : ℕ → ℕ × Proposal → Move
  Answers : CallId → Answer → ℕ → Move

-- the ledger behind a move
abbrev pub ledger_after : ℕ → Ledger → Move → Ledger
ledger_after parts l (Calls id op) = invokes l id op
ledger_after parts l (Decides p d) = decides parts l p d
ledger_after parts l (Answers id a m) = replies l id a m

-- what became of the chains behind a move
abbrev pub courses_after : ℕ → Ledger → Courses → Move → Courses
courses_after parts l k (Calls id op) = k
courses_after parts l k (Decides p d) = recorded parts l k p d
courses_after parts l k (Answers id a m) = k

-- it meets the discipline
abbrev pub Meets : ℕ → Ledger → Courses → Move → Type 0
Meets parts l k (Calls id op) = MayInvoke l id op
Meets parts l k (Decides p d) = MayDecide parts l k p d
Meets parts l k (Answers id a m) = MayReply parts l id a m

-- the ledger behind a list of moves
abbrev pub ledger_behind : ℕ → Ledger → List Move → Ledger
ledger_behind parts l [] = l
ledger_behind parts l (move ∷ moves) = ledger_behind parts (ledger_after parts l move) moves

-- each of a list of moves meets the discipline at its place
abbrev pub AllMeet : ℕ → Ledger → Courses → List Move → Type 0
AllMeet parts l k [] = Unit {0}
AllMeet parts l k (move ∷ moves) = Meets parts l k move × AllMeet parts (ledger_after parts l move) (courses_after parts l k move) moves

-- what a move is in the trace: calls and answers are, decisions aren't
abbrev pub outward : Move → List GStep
outward (Calls id op) = Invoke id op ∷ []
outward (Decides p d) = []
outward (Answers id a m) = Reply id a ∷ []

-- what a list of moves is in the trace
abbrev pub all_outward : List Move → List GStep
all_outward [] = []
all_outward (move ∷ moves) = outward move ++ all_outward moves

-- The theorem. The steps of a disciplined ledger are a graph run, and its trace is that of the calls and answers.
abbrev pub Refines : Type 0
Refines = (parts : ℕ) (moves : List Move) → AllMeet parts blank_ledger no_courses moves → IsGraphRun (ledger_behind parts blank_ledger moves).steps (all_outward moves)

-- Its step: a move that meets the discipline keeps a ledger sound.
abbrev pub StaysSound : Type 0
StaysSound = (parts : ℕ) (l : Ledger) (k : Courses) → IsSound parts l k → (move : Move) → Meets parts l k move → IsSound parts (ledger_after parts l move) (courses_after parts l k move)

-- each chain that was begun goes on
abbrev pub ChainsGoOn : Type 0
ChainsGoOn = (parts : ℕ) (l : Ledger) (k : Courses) → IsSound parts l k → (move : Move) → Meets parts l k move → GoOn k (courses_after parts l k move)

-- What a query finds in its part, where the part has all that is decided, is what was seen in the graph at this moment.
abbrev pub SeesNow : Type 0
SeesNow = (parts : ℕ) (l : Ledger) (k : Courses) → IsSound parts l k → (id : CallId) (q : Query) → IsInvoked l.steps id (Read q) → (p : ℕ) → part_of_query parts q ≡ p
    → WasSeen l id (view q (machine_of parts l p)) (length l.steps)
