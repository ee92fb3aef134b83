-- What a driver has to do.
use Rattle.std.specs.Prelude.{ℕ, Bool, true, false, List, [], ◌∷◌, ◌++◌, Option, if◌then◌else◌}
use Rattle.raft_log.specs.declared.config.Config.{Config}
use Rattle.replica_model.specs.declared.input.Tick.{Tick}
use Rattle.schema_book.specs.Schema.{Schema}
use Rattle.script_lines.specs.declared.reading.Reading.{Reading}
use Rattle.statement_run.specs.Statement.{Statement}
use Rattle.world_model.specs.declared.event.Event.{Event}
use Rattle.script_model.specs.Faults.{Faults}

-- a statement of a client that is to start
pub record Start : Type 0 where
  pub client : ℕ
  pub statement : Statement

pub data Duty : Type 0 where
  -- a line says so
  Say : Reading → Duty
  -- the collected statements start
  StartCollected : Duty
  -- nothing, but that the point is quiet
  Wait : Duty
  -- the statement is queued by its client; the client's first call, where none is open
  Queue : Start → Duty
  First : ℕ → Duty
  -- Rounds while one of these clients has a statement that hasn't ended; one Round
  While : List ℕ → Duty
  Round : Duty
  -- of a Round, the GiveUps of a client's call, the client's call again, its end with Unknown
  GiveUps : ℕ → Duty
  Again : ℕ → Duty
  Unknown : ℕ → Duty
  -- a peer of a part is told something, where it is up
  Tell : ℕ → ℕ → Tick → Duty
  -- a new space's replicas are created; then peer 1 of each part is elected, where it is up
  Places : Duty
  Elects : Duty
  Elect : ℕ → Duty
  -- this happens
  Do : Event → Duty
  -- a packet is delivered once more, where its receiver is there
  Redeliver : ℕ → Duty
  -- a replica is created, or comes up again; missing where its disk failed
  Create : ℕ → ℕ → ℕ → Option Config → Duty
  Open : ℕ → ℕ → Duty

-- The driver's desk: what is left to do, in order; the faults that are set; the schema; the collected statements; and how many
-- replicas were not created or not opened since their disks failed.
pub record Desk : Type 0 where
  pub agenda : List Duty
  pub faults : Faults
  pub book : Schema
  pub collected : List Start
  pub missing : ℕ

-- Some duties stand together with the one before them: of statements that start together, and of the elections of a new space.
-- All others are done at quiet points.
abbrev pub stands_beside : Duty → Bool
stands_beside (Queue start) = true
stands_beside (First c) = true
stands_beside (Elect p) = true
stands_beside duty = false

-- duties go before what is left
abbrev pub first_do : List Duty → Desk → Desk
first_do duties desk = record desk { agenda = duties ++ desk.agenda }

-- A statement starts.
abbrev pub starts : Start → List Duty
starts start = Queue start ∷ First start.client ∷ []

-- what each of some things gives to do, in their order
abbrev pub for_all : {A : Type 0} → (A → List Duty) → List A → List Duty
for_all give [] = []
for_all give (x ∷ xs) = give x ++ for_all give xs

abbrev pub where_is : Bool → Duty → List Duty
where_is holds duty = if holds then duty ∷ [] else []
