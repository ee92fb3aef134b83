-- Runs of the world, their journals, and the graph steps of a run.
use Rattle.std.specs.Prelude.{◌≡◌, ℕ, List, [], ◌∷◌, ◌++◌, map, Option, Some}
use Rattle.graph_model.specs.declared.graph_step.GStep.{GStep}
use Rattle.graph_model.specs.declared.graph_step.GStep.TheVariants as step
use Rattle.replica_model.specs.declared.packet.Packet.{Packet}
use Rattle.part_keys.specs.Spelled.{Spelling}
use Rattle.statement_run.specs.Caller.{nobody}
use Rattle.world_model.specs.declared.event.Event.{Event}
use Rattle.world_model.specs.declared.event.Event.TheVariants as event
use Rattle.world_model.specs.State.{Space, Vacant, Post, State, began, start, space_of}
use Rattle.world_model.specs.After.{Doing, Noted, Queued, done}
use Rattle.world_model.specs.Lawful.{MayDo}

-- what the world's table makes constant now
abbrev pub space_at : Spelling → State → Space
space_at spelling s = space_of spelling s.table

-- the doings lead from one state to another, each lawful at its place
abbrev pub Run : Spelling → State → List Doing → State → Type 0
Run spelling s [] v = v ≡ s
Run spelling s (d ∷ doings) v = MayDo (space_at spelling s) s d × Run spelling (done (space_at spelling s) s d) doings v

-- the events of some doings
abbrev pub noted_of : Doing → List Event
noted_of (Noted e) = e ∷ []
noted_of (Queued c statement) = []

abbrev pub events_of : List Doing → List Event
events_of [] = []
events_of (d ∷ doings) = noted_of d ++ events_of doings

-- A packet's one spelling, and what bytes spell; what is spelled is read back.
pub record Codec : Type 0 where
  pub spell : Packet → Option (List ℕ)
  pub read : List ℕ → Option Packet
  pub back : (packet : Packet) (bytes : List ℕ) → spell packet ≡ Some bytes → read bytes ≡ Some packet

-- a journal: events of a run from so many nodes, and the packets that were sent in it, each as its bytes
pub record Journal : Type 0 where
  pub events : List Event
  pub packets : List (List ℕ)

abbrev pub spelled_by : Codec → Post → Option (List ℕ)
spelled_by codec post = codec.spell post.packet

pub record IsJournal (spelling : Spelling) (codec : Codec) (n : ℕ) (j : Journal) : Type 0 where
  pub doings : List Doing
  pub state : State
  pub run : Run spelling (start n) doings state
  pub events : j.events ≡ events_of doings
  pub packets : map (spelled_by codec) state.posts ≡ map Some j.packets

-- A journal tells its packets: its bytes spell those that were sent, in order, and nothing else.
abbrev pub JournalsTell : Type 0
JournalsTell = (spelling : Spelling) (codec : Codec) (n : ℕ) (j : Journal) (is : IsJournal spelling codec n j) → map codec.read j.packets ≡ map (λ (post : Post). Some post.packet) is.state.posts

-- what a client sees of an event
abbrev pub outward_of : Event → List GStep
outward_of (event.Invoke id op) = step.Invoke id op ∷ []
outward_of (event.Reply id a) = step.Reply id a ∷ []
outward_of e = []

abbrev pub outwards_of : List Event → List GStep
outwards_of [] = []
outwards_of (e ∷ events) = outward_of e ++ outwards_of events

-- In each run, where nothing was placed and no statement was queued, the world is as it began but for its table: so parts may
-- be allocated exactly there.
abbrev pub NothingYet : State → Type 0
NothingYet s = ((p y : ℕ) → s.placed p y ≡ Vacant) × ((c : ℕ) → s.callers c ≡ nobody)

abbrev pub IsAsItBegan : Type 0
IsAsItBegan = (spelling : Spelling) (n : ℕ) (doings : List Doing) (v : State) → Run spelling (start n) doings v → NothingYet v → v ≡ began v.table
