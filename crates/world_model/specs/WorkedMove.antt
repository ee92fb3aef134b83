-- A run worked by hand: a part moves while a chain is pending. It goes on from where the Remote of the chain was sent to part 1
-- (`specs/WorkedChain`, s8). The one peer of part 1, on node 1, goes; peer 2, on node 2, takes its place; and the Remote, which was
-- under way all along, comes to the new peer, by the table.
use Rattle.std.specs.Prelude.{◌≡◌, ℕ, ◌==◌, if◌then◌else◌, Bool, true, false, List, [], ◌∷◌, ◌++◌, Option, None, Some}
use Rattle.raft_log.specs.declared.config.Config.{Config}
use Rattle.raft_log.specs.declared.entry.Entry.{Entry}
use Rattle.raft_log.specs.declared.entry.Item.TheVariants as item
use Rattle.raft_log.specs.declared.message.RaftMsg.{RaftMsg}
use Rattle.raft_log.specs.declared.message.RaftMsg.TheVariants as message
use Rattle.raft_log.specs.declared.role.Role.TheVariants.{Candidate, Leader}
use Rattle.member_change.specs.declared.change.Change.TheVariants.{AddLearner, Promote, Remove}
use Rattle.raft_core.specs.declared.progress.Row.{Row}
use Rattle.raft_core.specs.Core.{opened}
use Rattle.graph_model.specs.declared.answer.Answer.TheVariants.{Fine}
use Rattle.graph_model.specs.declared.graph_step.GStep.TheVariants as step
use Rattle.part_keys.specs.declared.entry.PartEntry.TheVariants as entry
use Rattle.part_keys.specs.declared.proposal.Proposal.TheVariants.{Start, Members, Made}
use Rattle.chain_leader.specs.declared.body.ChainBody.TheVariants as says
use Rattle.meta_parts.specs.declared.table.MetaBody.TheVariants.{Task, Stage as StageBody}
use Rattle.meta_parts.specs.declared.table.PartTable.{PartTable}
use Rattle.meta_parts.specs.declared.table.Stage.{Stage}
use Rattle.meta_parts.specs.declared.table.Stage.TheVariants as stage
use Rattle.meta_parts.specs.declared.table.TaskRow.{TaskRow}
use Rattle.replica_model.specs.declared.input.Tick.TheVariants.{Change, Transfer}
use Rattle.replica_model.specs.declared.packet.Packet.{Packet}
use Rattle.replica_model.specs.declared.packet.Place.{Place}
use Rattle.replica_model.specs.declared.packet.Place.TheVariants as place
use Rattle.replica_model.specs.declared.packet.To.TheVariants as to
use Rattle.replica_model.specs.Letters.{packet_of}
use Rattle.replica_model.specs.Replica.{Replica, fresh, created, no_senders}
use Rattle.replica_model.specs.Stepped.{message_of}
use Rattle.world_model.specs.declared.event.Event.{Event}
use Rattle.world_model.specs.declared.event.Event.TheVariants as event
use Rattle.world_model.specs.State.{Up, Gone, State, start, AtPeer, resolve}
use Rattle.world_model.specs.After.{Doing, Noted}
use Rattle.world_model.specs.Lawful.{Lawful}
use Rattle.world_model.specs.Journal.{space_at, Run}
use Rattle.world_model.specs.SmallSpelling.{small}
use Rattle.world_model.specs.WorkedChain.{halves, call, insertion, two_parts, row_of, begun_log, remote_bytes, newly, ended, heard, finished, and_decided, and_outward, moved, called, until_remote, s8}

-- The table: the move, part 1 while it moves, and part 1 behind the move.
abbrev pub move : Stage → TaskRow
move s = record { part = 1; from = 1; to = 2; old_peer = 1; new_peer = 2; stage = s }

abbrev pub moving : Stage → PartTable
moving s = record two_parts { rows = record (row_of 1) { next_peer = 3 } ∷ row_of 2 ∷ []; tasks = move s ∷ [] }

abbrev pub come : Stage → PartTable
come s = record two_parts { rows = record { part = 1; peers = record { peer = 2; node = 2 } ∷ []; next_peer = 3 } ∷ row_of 2 ∷ []; tasks = move s ∷ [] }

-- The configurations of part 1, behind that of peer 1 alone, and its log: peer 2 is added, votes, and leads; peer 1 goes.
abbrev pub learning : Config
learning = record { voters = 1 ∷ []; learners = 2 ∷ [] }

abbrev pub both : Config
both = record { voters = 1 ∷ 2 ∷ []; learners = [] }

abbrev pub other : Config
other = record { voters = 2 ∷ []; learners = [] }

abbrev pub changed : ℕ → Config → Entry
changed term config = record { term = term; item = item.Members config }

abbrev pub log3 : List Entry
log3 = begun_log ++ changed 1 learning ∷ []

abbrev pub log4 : List Entry
log4 = log3 ++ changed 1 both ∷ []

abbrev pub second_noop : Entry
second_noop = record { term = 2; item = item.NoOp }

abbrev pub log5 : List Entry
log5 = log4 ++ second_noop ∷ []

abbrev pub log6 : List Entry
log6 = log5 ++ changed 2 other ∷ []

abbrev pub log7 : List Entry
log7 = log6 ++ record { term = 2; item = item.Payload remote_bytes } ∷ []

-- Peer 1 leads term 1, with what it knows of peer 2: its next and match, whether an Append is in flight, and what it was told.
abbrev pub row : ℕ → ℕ → ℕ → Bool → ℕ → Row
row peer next matched in_flight told = record { peer = peer; progress = record { next = next; matched = matched; in_flight = in_flight; told = told; confirmed = 0 } }

abbrev pub leads : List Entry → ℕ → Row → Replica
leads log commit r = record newly { core = record (opened 1 1 1 log) { role = Leader; commit = commit; votes = 1 ∷ []; noop = 2; rows = r ∷ [] } }

-- Peer 2 follows it in term 1, and stands for term 2.
abbrev pub follows : List Entry → ℕ → Replica
follows log commit = fresh (record (opened 2 1 0 log) { commit = commit; hint = 1; heard = true })

abbrev pub stands : Replica
stands = fresh (record (opened 2 2 2 log4) { role = Candidate; commit = 3; hint = 1; heard = true; votes = 2 ∷ [] })

-- Peer 1 votes for it, and follows.
abbrev pub votes : Replica
votes = fresh (record (opened 1 2 2 log4) { commit = 4; votes = 1 ∷ []; noop = 2; rows = row 2 5 4 true 4 ∷ [] })

abbrev pub was_leader : Replica
was_leader = fresh (record (opened 1 2 2 log5) { commit = 4; hint = 2; heard = true; votes = 1 ∷ []; noop = 2; rows = row 2 5 4 true 4 ∷ [] })

-- Peer 2 leads term 2, at first without being ready.
abbrev pub elected : Replica
elected = fresh (record (opened 2 2 2 log5) { role = Leader; commit = 3; hint = 1; votes = 2 ∷ 1 ∷ []; noop = 5; rows = row 1 5 0 true 3 ∷ [] })

abbrev pub now_leads : List Entry → ℕ → List Row → (ℕ → Option Place) → Replica
now_leads log commit rows senders =
    record newly { core = record (opened 2 2 2 log) { role = Leader; commit = commit; hint = 1; votes = 2 ∷ 1 ∷ []; noop = 5; rows = rows }; senders = senders }

abbrev pub the_sender : ℕ → Option Place
the_sender index = if index == 7 then Some (place.Peer 2 1) else None

-- a message of the group of part 1
abbrev pub says_to : ℕ → ℕ → RaftMsg → Packet
says_to from whom m = message_of 1 from (whom, m)

-- 1. Peer 2 comes up. The move is opened: part 1 goes from node 1 to node 2, and its new peer is 2.
abbrev pub m1 : Event
m1 = event.Meta (Task 1 1 2 2)

abbrev pub u1 : State
u1 = record s8 { table = moving stage.ChangeLeader }

-- its next stage
abbrev pub m2 : Event
m2 = event.Meta (StageBody 1 stage.AddPart)

abbrev pub u2 : State
u2 = record u1 { table = moving stage.AddPart }

-- peer 2 is created on node 2, with nothing
abbrev pub m3 : Event
m3 = event.Place 1 2 2 None

abbrev pub u3 : State
u3 = moved u2 m3 1 2 (Up (created 2 None)) [] u2.ledger

-- 2. It learns. The next stage:
abbrev pub m4 : Event
m4 = event.Meta (StageBody 1 stage.AddLearner)

abbrev pub u4 : State
u4 = record u3 { table = moving stage.AddLearner }

-- the leader adds it as a learner, which is decided at once; the Append, of that entry alone, is packet 4
abbrev pub m5 : Event
m5 = event.Tick 1 1 (Change (AddLearner 2))

abbrev pub p4 : Packet
p4 = says_to 1 2 (message.Append 1 (record { index = 2; term = 1 }) 3 0 (changed 1 learning ∷ []))

abbrev pub u5 : State
u5 = moved u4 m5 1 1 (Up (leads log3 3 (row 2 3 0 true 3))) (p4 ∷ []) (and_decided u4.ledger 1 (1, Members learning) [])

-- peer 2 has no entry before that one, and says so
abbrev pub m6 : Event
m6 = event.Deliver 4

abbrev pub p5 : Packet
p5 = says_to 2 1 (message.Appended 1 false 0 0)

abbrev pub u6 : State
u6 = moved u5 m6 1 2 (Up (follows [] 0)) (p5 ∷ []) u5.ledger

-- the leader sends its whole log
abbrev pub m7 : Event
m7 = event.Deliver 5

abbrev pub p6 : Packet
p6 = says_to 1 2 (message.Append 1 (record { index = 0; term = 0 }) 3 0 log3)

abbrev pub u7 : State
u7 = moved u6 m7 1 1 (Up (leads log3 3 (row 2 1 0 true 3))) (p6 ∷ []) u6.ledger

-- peer 2 takes it, and answers that it has three entries
abbrev pub m8 : Event
m8 = event.Deliver 6

abbrev pub p7 : Packet
p7 = says_to 2 1 (message.Appended 1 true 3 0)

abbrev pub u8 : State
u8 = moved u7 m8 1 2 (Up (follows log3 3)) (p7 ∷ []) u7.ledger

-- the leader knows it
abbrev pub m9 : Event
m9 = event.Deliver 7

abbrev pub u9 : State
u9 = moved u8 m9 1 1 (Up (leads log3 3 (row 2 4 3 false 3))) [] u8.ledger

-- 3. It votes. It has caught up ..
abbrev pub m10 : Event
m10 = event.Meta (StageBody 1 stage.CatchUp)

abbrev pub u10 : State
u10 = record u9 { table = moving stage.CatchUp }

-- .. and is to become a member:
abbrev pub m11 : Event
m11 = event.Meta (StageBody 1 stage.MemberAdd)

abbrev pub u11 : State
u11 = record u10 { table = moving stage.MemberAdd }

-- the leader lets it vote; of two voters both have to have the entry
abbrev pub m12 : Event
m12 = event.Tick 1 1 (Change (Promote 2))

abbrev pub p8 : Packet
p8 = says_to 1 2 (message.Append 1 (record { index = 3; term = 1 }) 3 0 (changed 1 both ∷ []))

abbrev pub u12 : State
u12 = moved u11 m12 1 1 (Up (leads log4 3 (row 2 4 3 true 3))) (p8 ∷ []) u11.ledger

-- peer 2 has it
abbrev pub m13 : Event
m13 = event.Deliver 8

abbrev pub p9 : Packet
p9 = says_to 2 1 (message.Appended 1 true 4 0)

abbrev pub u13 : State
u13 = moved u12 m13 1 2 (Up (follows log4 3)) (p9 ∷ []) u12.ledger

-- so it is decided; the next Append, with the leader's commit, isn't delivered any more
abbrev pub m14 : Event
m14 = event.Deliver 9

abbrev pub p10 : Packet
p10 = says_to 1 2 (message.Append 1 (record { index = 4; term = 1 }) 4 0 [])

abbrev pub u14 : State
u14 = moved u13 m14 1 1 (Up (leads log4 4 (row 2 5 4 true 4))) (p10 ∷ []) (and_decided u13.ledger 1 (1, Members both) [])

-- 4. It leads. Peer 1 is to go, so it can't go on leading:
abbrev pub m15 : Event
m15 = event.Meta (StageBody 1 stage.MemberRemove)

abbrev pub u15 : State
u15 = record u14 { table = moving stage.MemberRemove }

-- it tells peer 2 to stand
abbrev pub m16 : Event
m16 = event.Tick 1 1 (Transfer 2)

abbrev pub p11 : Packet
p11 = says_to 1 2 (message.TimeoutNow 1)

abbrev pub u16 : State
u16 = moved u15 m16 1 1 (Up (leads log4 4 (row 2 5 4 true 4))) (p11 ∷ []) u15.ledger

-- peer 2 stands for term 2, and asks peer 1
abbrev pub m17 : Event
m17 = event.Deliver 11

abbrev pub p12 : Packet
p12 = says_to 2 1 (message.Vote 2 (record { index = 4; term = 1 }))

abbrev pub u17 : State
u17 = moved u16 m17 1 2 (Up stands) (p12 ∷ []) u16.ledger

-- which leads no more, and votes for it
abbrev pub m18 : Event
m18 = event.Deliver 12

abbrev pub p13 : Packet
p13 = says_to 1 2 (message.Voted 2 true)

abbrev pub u18 : State
u18 = moved u17 m18 1 1 (Up votes) (p13 ∷ []) u17.ledger

-- peer 2 leads, and writes its no-op
abbrev pub m19 : Event
m19 = event.Deliver 13

abbrev pub p14 : Packet
p14 = says_to 2 1 (message.Append 2 (record { index = 4; term = 1 }) 3 0 (second_noop ∷ []))

abbrev pub u19 : State
u19 = moved u18 m19 1 2 (Up elected) (p14 ∷ []) u18.ledger

-- peer 1 takes that
abbrev pub m20 : Event
m20 = event.Deliver 14

abbrev pub p15 : Packet
p15 = says_to 1 2 (message.Appended 2 true 5 0)

abbrev pub u20 : State
u20 = moved u19 m20 1 1 (Up was_leader) (p15 ∷ []) u19.ledger

-- so all is decided, and peer 2 is ready: its commit leaves, and a Resume to itself
abbrev pub m21 : Event
m21 = event.Deliver 15

abbrev pub p16 : Packet
p16 = says_to 2 1 (message.Append 2 (record { index = 5; term = 2 }) 5 0 [])

abbrev pub p17 : Packet
p17 = packet_of 1 2 (to.Peer 1 2) (says.Resume 2 None)

abbrev pub u21 : State
u21 = moved u20 m21 1 2 (Up (now_leads log5 5 (row 1 6 5 true 5 ∷ []) no_senders)) (p16 ∷ p17 ∷ []) (and_decided u20.ledger 1 (2, Start) [])

-- 5. Peer 1 goes. The new leader takes it out, which it decides alone
abbrev pub m22 : Event
m22 = event.Tick 1 2 (Change (Remove 1))

abbrev pub u22 : State
u22 = moved u21 m22 1 2 (Up (now_leads log6 6 [] no_senders)) [] (and_decided u21.ledger 1 (2, Members other) [])

-- the members are as they are to be ..
abbrev pub m23 : Event
m23 = event.Meta (StageBody 1 stage.UpdateMeta)

abbrev pub u23 : State
u23 = record u22 { table = moving stage.UpdateMeta }

-- .. so the table has peer 2 in the place of peer 1
abbrev pub m24 : Event
m24 = event.Meta (StageBody 1 stage.RemovePart)

abbrev pub u24 : State
u24 = record u23 { table = come stage.RemovePart }

-- peer 1 is wiped
abbrev pub m25 : Event
m25 = event.Wipe 1 1

abbrev pub u25 : State
u25 = moved u24 m25 1 1 Gone [] u24.ledger

-- and the move ends
abbrev pub m26 : Event
m26 = event.Meta (StageBody 1 stage.End)

abbrev pub u26 : State
u26 = record u25 { table = come stage.End }

-- 6. The chain goes on. Its Remote, sent before the move, comes to part 1, so to peer 2: it is decided, the in-half is written, and its
-- Done is packet 18
abbrev pub m27 : Event
m27 = event.Deliver 3

abbrev pub p18 : Packet
p18 = packet_of 1 2 (to.Peer 2 1) (says.Done 1 3)

abbrev pub u27 : State
u27 = moved u26 m27 1 2 (Up (now_leads log7 7 [] the_sender)) (p18 ∷ []) (and_decided u26.ledger 1 (2, Made (entry.Remote 2 1 3 halves)) (step.InHalf call ∷ []))

-- the Done comes to part 2: a Local is decided, the out-half is written, the chain is settled, and the Answer is packet 19
abbrev pub m28 : Event
m28 = event.Deliver 18

abbrev pub p19 : Packet
p19 = packet_of 2 1 (to.Client 5) (says.Answer 1 Fine)

abbrev pub u28 : State
u28 = moved u27 m28 2 1 (Up ended) (p19 ∷ []) (and_decided u27.ledger 2 (1, Made (entry.Local 3)) (step.OutHalf call ∷ step.Settle call ∷ []))

-- the Answer comes to the client
abbrev pub m29 : Event
m29 = event.Deliver 19

abbrev pub u29 : State
u29 = called u28 m29 (heard 19) [] u28.ledger

-- and the call ends
abbrev pub m30 : Event
m30 = event.Reply call Fine

abbrev pub u30 : State
u30 = called u29 m30 finished [] (and_outward u29.ledger (step.Reply call Fine))

-- the doings, each lawful at its place: those of the chain up to its Remote, and these
abbrev pub a_move : List Doing
a_move =
    Noted m1 ∷ Noted m2 ∷ Noted m3 ∷ Noted m4 ∷ Noted m5 ∷ Noted m6 ∷ Noted m7 ∷ Noted m8 ∷ Noted m9 ∷ Noted m10
    ∷ Noted m11 ∷ Noted m12 ∷ Noted m13 ∷ Noted m14 ∷ Noted m15 ∷ Noted m16 ∷ Noted m17 ∷ Noted m18 ∷ Noted m19 ∷ Noted m20
    ∷ Noted m21 ∷ Noted m22 ∷ Noted m23 ∷ Noted m24 ∷ Noted m25 ∷ Noted m26 ∷ Noted m27 ∷ Noted m28 ∷ Noted m29 ∷ Noted m30 ∷ []

abbrev pub IsMove : Type 0
IsMove = Run small (start 2) (until_remote ++ a_move) u30

-- who gets the Remote, by the table: first peer 1, and behind the move peer 2
abbrev pub IsRouted : Type 0
IsRouted = (resolve s8.table (to.Part 1 0) ≡ AtPeer 1 1) × (resolve u26.table (to.Part 1 0) ≡ AtPeer 1 2)

-- the graph's steps: while the part moves there are none; behind it the chain goes on, and the call ends as it does without a move
abbrev pub GoesOn : Type 0
GoesOn = (u26.ledger.steps ≡ step.Invoke call insertion ∷ step.Begin call ∷ [])
    × (u30.ledger.steps ≡ step.Invoke call insertion ∷ step.Begin call ∷ step.InHalf call ∷ step.OutHalf call ∷ step.Settle call ∷ step.Reply call Fine ∷ [])

-- neither peer 2 is created before the move is opened, nor is peer 1 wiped before its part decided that it goes
abbrev pub IsInOrder : Type 0
IsInOrder = (Lawful (space_at small s8) s8 (event.Place 1 2 2 None) → ⊥) × (Lawful (space_at small u21) u21 (event.Wipe 1 1) → ⊥)
