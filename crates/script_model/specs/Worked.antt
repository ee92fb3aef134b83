-- Lines worked by hand: what they give to do.
use Rattle.std.specs.Prelude.{◌≡◌, ℕ, Bool, true, false, List, [], ◌∷◌, ◌++◌, map, take, Option, None, Some}
use Rattle.fault_schedule.specs.declared.control.Control.TheVariants as control
use Rattle.graph_model.specs.declared.answer.Answer.TheVariants as answer
use Rattle.chain_leader.specs.declared.body.ChainBody.TheVariants as says
use Rattle.meta_parts.specs.declared.table.MetaBody.TheVariants as body
use Rattle.meta_parts.specs.declared.table.PartTable.{PartTable}
use Rattle.meta_parts.specs.Table.{boot, written}
use Rattle.ngql_syntax.specs.declared.define.Define.TheVariants as define
use Rattle.ngql_syntax.specs.declared.statement.Statement.TheVariants as statement
use Rattle.part_keys.specs.Spelled.{Spelling}
use Rattle.part_keys.specs.declared.vid_kind.VidKind.TheVariants.{Num}
use Rattle.replica_model.specs.declared.input.Tick.TheVariants as tick
use Rattle.replica_model.specs.declared.packet.Body.TheVariants as packet_body
use Rattle.replica_model.specs.declared.packet.Packet.{Packet}
use Rattle.replica_model.specs.declared.packet.Place.TheVariants as place
use Rattle.replica_model.specs.declared.packet.To.{To}
use Rattle.replica_model.specs.declared.packet.To.TheVariants as to
use Rattle.script_lines.specs.declared.reading.Reading.{Reading}
use Rattle.script_lines.specs.declared.reading.Reading.TheVariants as reading
use Rattle.world_model.specs.declared.event.Event.TheVariants as event
use Rattle.world_model.specs.State.{space_of, State, began}
use Rattle.script_model.specs.Duties.{Duty, Say, StartCollected, Wait, Round, Tell, Places, Elects, Elect, Do, Create, GiveUps, Again, Unknown, Start, Desk}
use Rattle.script_model.specs.Day.{done_by}
use Rattle.script_model.specs.Faults.{Faults, no_faults, takes}
use Rattle.script_model.specs.Rounds.{clients}
use Rattle.script_model.specs.Script.{desk_for}

-- two nodes; two parts of one replica each, over them
abbrev pub two_parts : PartTable
two_parts = written (boot 2) (body.Allocate 2 1 (1 ∷ 2 ∷ []) Num)

-- `CREATE SPACE g(partition_num = 2, replica_factor = n)`
abbrev pub create_space : ℕ → Reading
create_space factor = reading.Statement (record {
  client = 1;
  collected = false;
  statement = statement.Make (define.Space (record { text = 103 ∷ []; at = 14 }) 2 factor Num false);
})

-- the duties that stand in the place of one
abbrev pub agenda_of : Option Desk → List Duty
agenda_of None = []
agenda_of (Some desk) = desk.agenda

abbrev pub given : Spelling → PartTable → Desk → Duty → List Duty
given spelling t desk duty = agenda_of (done_by (space_of spelling t) (began t) desk duty)

-- Over two nodes a space of one replica a part is allocated, placed and elected; one of three replicas is not made.
abbrev pub IsSpaceMade : Type 0
IsSpaceMade = (spelling : Spelling) →
    (given spelling (boot 2) (desk_for []) (Say (create_space 1)) ≡ Do (event.Meta (body.Allocate 2 1 (1 ∷ 2 ∷ []) Num)) ∷ Places ∷ Wait ∷ Elects ∷ (desk_for []).agenda)
    × (given spelling (boot 2) (desk_for []) (Say (create_space 3)) ≡ (desk_for []).agenda)

-- Behind the allocation part 1 is created on node 1, part 2 on node 2, and then peer 1 of each is elected.
abbrev pub AreReplicasMade : Type 0
AreReplicasMade = (spelling : Spelling) →
    (take 2 (given spelling two_parts (desk_for []) Places) ≡ Create 1 1 1 (Some (record { voters = 1 ∷ []; learners = [] })) ∷ Create 2 2 1 (Some (record { voters = 1 ∷ []; learners = [] })) ∷ [])
    × (take 2 (given spelling two_parts (desk_for []) Elects) ≡ Elect 1 ∷ Elect 2 ∷ [])

-- A Round of the two parts.
abbrev pub IsRound : Type 0
IsRound = (spelling : Spelling) →
    given spelling two_parts (desk_for []) Round
    ≡ (Tell 1 1 tick.Pulse ∷ Tell 2 1 tick.Pulse ∷ map GiveUps clients ++ map Again clients ++ map Unknown clients) ++ (desk_for []).agenda

-- Before a line that isn't marked, what is collected starts.
abbrev pub StartsBefore : Type 0
StartsBefore = (spelling : Spelling) (start : Start) →
    given spelling two_parts (record (desk_for []) { collected = start ∷ [] }) (Say reading.Nothing) ≡ StartCollected ∷ Say reading.Nothing ∷ (desk_for []).agenda

-- the faults behind a control line
abbrev pub faults_behind : Spelling → Faults → Reading → Option Desk
faults_behind spelling faults line = done_by (space_of spelling two_parts) (began two_parts) (record (desk_for []) { faults = faults }) (Say line)

abbrev pub takes_it : Option Desk → State → Packet → Bool
takes_it None s packet = false
takes_it (Some desk) s packet = takes desk.faults s packet

-- an Answer from peer 1 of part 1, on node 1
abbrev pub an_answer : To → Packet
an_answer whom = record { from = place.Peer 1 1; to = whom; body = packet_body.Chain (says.Answer 1 answer.Fine) }

abbrev pub on_nodes : State
on_nodes = record (began two_parts) { nodes = λ p y. p }

-- A cut between the nodes takes what goes from the one to the other, and nothing that a client gets; a lost kind takes both.
abbrev pub IsCut : Type 0
IsCut = (spelling : Spelling) →
    (takes_it (faults_behind spelling no_faults (reading.Control (control.Cut 2 1))) on_nodes (an_answer (to.Peer 2 1)) ≡ true)
    × (takes_it (faults_behind spelling no_faults (reading.Control (control.Cut 2 1))) on_nodes (an_answer (to.Client 1)) ≡ false)
    × (takes_it (faults_behind spelling no_faults (reading.Control (control.Lose 2))) on_nodes (an_answer (to.Client 1)) ≡ true)
