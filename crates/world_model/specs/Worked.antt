-- A run worked by hand, as a test of the definitions.
use Rattle.std.specs.Prelude.{◌≡◌, List, [], ◌∷◌, Option, None, Some, pos}
use Rattle.raft_log.specs.declared.config.Config.{Config}
use Rattle.graph_model.specs.declared.answer.Answer.{Answer}
use Rattle.graph_model.specs.declared.answer.Answer.TheVariants.{Shown}
use Rattle.graph_model.specs.declared.call_id.CallId.{CallId}
use Rattle.graph_model.specs.declared.graph_step.GStep.TheVariants as step
use Rattle.graph_model.specs.declared.op.Op.{Op}
use Rattle.graph_model.specs.declared.op.Op.TheVariants.{Read}
use Rattle.graph_model.specs.declared.query.Query.TheVariants.{Tag}
use Rattle.graph_model.specs.declared.vid.Vid.TheVariants.{Num as Numbered}
use Rattle.part_keys.specs.declared.chain.Policy.TheVariants.{Forward}
use Rattle.part_keys.specs.declared.vid_kind.VidKind.TheVariants.{Num}
use Rattle.meta_parts.specs.declared.table.MetaBody.TheVariants.{Allocate}
use Rattle.replica_model.specs.declared.input.Tick.TheVariants as tick
use Rattle.part_keys.specs.Spelled.{Spelling}
use Rattle.world_model.specs.declared.event.Event.TheVariants as event
use Rattle.world_model.specs.State.{State, start}
use Rattle.world_model.specs.After.{Doing, Noted, Queued, done}
use Rattle.world_model.specs.Journal.{space_at}
use Rattle.world_model.specs.SmallSpelling.{small}

abbrev pub did : Spelling → State → List Doing → State
did spelling s [] = s
did spelling s (d ∷ doings) = did spelling (done (space_at spelling s) s d) doings

-- one part, of one replica on one node
abbrev pub alone : Config
alone = record { voters = 1 ∷ []; learners = [] }

-- the first call of client 5 asks for a tag
abbrev pub call : CallId
call = record { client = 5; number = 1 }

abbrev pub asked : Op
asked = Read (Tag (Numbered (pos 7)) 3)

-- a statement of that call alone
abbrev pub once : List Answer → Option Op
once [] = Some asked
once (answer ∷ answers) = None

-- A part is allocated; its replica is created and elected; its no-op is committed at once, so it is ready. A client reads: the
-- Request is packet 1, behind the leader's own Resume; its round is confirmed at once, and the Answer is packet 2.
abbrev pub read_alone : List Doing
read_alone =
    Noted (event.Meta (Allocate 1 1 (1 ∷ []) Num)) ∷ Noted (event.Place 1 1 1 (Some alone)) ∷ Noted (event.Tick 1 1 (tick.Elect Forward)) ∷ Queued 5 (record { parts = 1; calls = once })
    ∷ Noted (event.Invoke call asked) ∷ Noted (event.Deliver 1) ∷ Noted (event.Deliver 2) ∷ Noted (event.Reply call (Shown [])) ∷ []

-- the read is of the moment behind its own Invoke
abbrev pub IsReadAlone : Type 0
IsReadAlone = (did small (start 1) read_alone).ledger.steps ≡ step.Invoke call asked ∷ step.Read call 1 ∷ step.Reply call (Shown []) ∷ []
