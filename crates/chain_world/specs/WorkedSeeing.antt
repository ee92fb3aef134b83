-- A run worked by hand: two leaders of one part at once. The later one writes a tag of vertex 1, which is in part 2 of two
-- parts; the earlier one, still ready, hasn't applied the write and never will, and its See of a read isn't lawful. The later
-- one's is, and shows the row.
use Rattle.std.specs.Prelude.{◌≡◌, List, [], ◌∷◌, None, Some, true, false, pos}
use Rattle.std.specs.FinMap.{empty}
use Rattle.graph_model.specs.declared.answer.Answer.TheVariants as said
use Rattle.graph_model.specs.declared.call_id.CallId.{CallId}
use Rattle.graph_model.specs.declared.found.Found.{Found}
use Rattle.graph_model.specs.declared.op.Op.{Op}
use Rattle.graph_model.specs.declared.op.Op.TheVariants.{PutVertex, Read as ReadOp}
use Rattle.graph_model.specs.declared.query.Query.{Query}
use Rattle.graph_model.specs.declared.query.Query.TheVariants.{Tag}
use Rattle.graph_model.specs.declared.graph_step.GStep.{GStep}
use Rattle.graph_model.specs.declared.graph_step.GStep.TheVariants as step
use Rattle.graph_model.specs.declared.vid.Vid.TheVariants.{Num}
use Rattle.part_keys.specs.declared.chain.Policy.TheVariants.{Forward}
use Rattle.part_keys.specs.declared.entry.PartEntry.TheVariants.{Vertex, Read}
use Rattle.part_keys.specs.declared.proposal.Proposal.{Proposal}
use Rattle.part_keys.specs.declared.proposal.Proposal.TheVariants.{Start, Made}
use Rattle.part_keys.specs.declared.vid_kind.VidKind.TheVariants as kinds
use Rattle.part_rules.specs.Worked.{row, call}
use Rattle.chain_leader.specs.declared.body.ChainBody.TheVariants as says
use Rattle.chain_world.specs.declared.packet.ChainEnd.TheVariants as ends
use Rattle.chain_world.specs.declared.event.ChainEvent.{ChainEvent}
use Rattle.chain_world.specs.declared.event.ChainEvent.TheVariants as event
use Rattle.chain_world.specs.State.{Chains, start, with_leader, with_client, with_posts, packet_of}
use Rattle.chain_world.specs.World.{rule, run, run_from}
use Rattle.chain_world.specs.WorkedRun.{post, leader, decided, posted, nobody, one_more}

-- a call that writes a tag, and one that reads it
abbrev pub writing : CallId
writing = call 1 1

abbrev pub write : Op
write = PutVertex (Num (pos 1)) 3 (row 7) false

abbrev pub reading : CallId
reading = call 2 1

abbrev pub query : Query
query = Tag (Num (pos 1)) 3

-- what it finds
abbrev pub shown : List Found
shown = record { edge = None; inward = false; row = row 7 } ∷ []

-- the graph's steps
abbrev pub called : List GStep
called = step.Invoke writing write ∷ []

abbrev pub wrote : List GStep
wrote = step.Invoke writing write ∷ step.Vertex writing ∷ []

abbrev pub asked : List GStep
asked = step.Invoke writing write ∷ step.Vertex writing ∷ step.Invoke reading (ReadOp query) ∷ []

abbrev pub answered : List GStep
answered = step.Invoke writing write ∷ step.Vertex writing ∷ step.Invoke reading (ReadOp query) ∷ step.Read reading 3 ∷ step.Reply reading (said.Shown shown) ∷ []

-- what the later leader proposes
abbrev pub made : List Proposal
made = Start ∷ Made (Vertex writing write) ∷ []

-- the write is called
abbrev pub v1 : Chains
v1 = posted (with_client (record start { ledger = record { steps = called; decided = λ p. [] } }) 1 (record { last = 1; asks = Some (writing, write) }))
    (post (ends.Client 1) (ends.Part 2) (says.Request 1 (Vertex writing write)))

-- the first leader is ready
abbrev pub v2 : Chains
v2 = with_leader v1 2 1 (leader false empty 0 (Start ∷ []) nobody)

abbrev pub v3 : Chains
v3 = decided v2 called 2 ((1, Start) ∷ [])

abbrev pub v4 : Chains
v4 = posted (with_leader v3 2 1 (leader true empty 1 (Start ∷ []) nobody)) (post (ends.Leader 2 1) (ends.Leader 2 1) (says.Resume 1 None))

-- the second one too; the first one stays
abbrev pub v5 : Chains
v5 = with_leader v4 2 2 (leader false empty 1 (Start ∷ []) nobody)

abbrev pub v6 : Chains
v6 = decided v5 called 2 ((1, Start) ∷ (2, Start) ∷ [])

abbrev pub v7 : Chains
v7 = posted (with_leader v6 2 2 (leader true empty 2 (Start ∷ []) nobody)) (post (ends.Leader 2 2) (ends.Leader 2 2) (says.Resume 2 None))

-- the second one takes the write; it is decided, and applied
abbrev pub v8 : Chains
v8 = with_posts (with_leader v7 2 2 (leader true empty 2 made (one_more nobody 1 None))) []

abbrev pub v9 : Chains
v9 = decided v8 wrote 2 ((1, Start) ∷ (2, Start) ∷ (2, Made (Vertex writing write)) ∷ [])

abbrev pub v10 : Chains
v10 = posted (with_leader v9 2 2 (leader true empty 3 made (one_more nobody 1 None))) (post (ends.Leader 2 2) (ends.Client 1) (says.Answer 1 said.Fine))

-- the read is called
abbrev pub v11 : Chains
v11 = posted (with_client (record v10 { ledger = record { steps = asked; decided = v10.ledger.decided } }) 2 (record { last = 1; asks = Some (reading, ReadOp query) }))
    (post (ends.Client 2) (ends.Part 2) (says.Request 1 (Read reading query)))

-- the second leader answers it, as of now
abbrev pub v12 : Chains
v12 = posted v11 (record { packet = packet_of (ends.Leader 2 2) (ends.Client 2) (says.Answer 1 (said.Shown shown)); moment = 3 })

abbrev pub v13 : Chains
v13 = with_client (record v12 { ledger = record { steps = answered; decided = v12.ledger.decided } }) 2 (record { last = 1; asks = None })

-- the events: up to the read ..
abbrev pub events_before : List ChainEvent
events_before = event.Invoke writing write ∷ event.Lead 2 1 Forward 0 ∷ event.Decide 2 1 0 ∷ event.Apply 2 1
    ∷ event.Lead 2 2 Forward 1 ∷ event.Decide 2 2 0 ∷ event.Apply 2 2
    ∷ event.Take 2 2 0 ∷ event.Decide 2 2 1 ∷ event.Apply 2 2 ∷ event.Invoke reading (ReadOp query) ∷ []

-- .. and behind it: the first leader is to apply on, and to answer, and the second one to answer
abbrev pub events_behind : List ChainEvent
events_behind = event.Apply 2 1 ∷ event.See 2 1 reading ∷ event.See 2 2 reading ∷ event.Reply reading (said.Shown shown) 5 ∷ []

abbrev pub AreTwoLeaders : Type 0
AreTwoLeaders = run kinds.Num 2 events_before ≡ v11

-- the first leader's See isn't lawful, nor can it apply on
abbrev pub SeesNothingOld : Type 0
SeesNothingOld = ((rule kinds.Num 2 v11 (event.See 2 1 reading)).lawful ≡ false) × ((rule kinds.Num 2 v11 (event.Apply 2 1)).lawful ≡ false)

-- the second one's is, and shows what was written
abbrev pub SeesTheNew : Type 0
SeesTheNew = run_from kinds.Num 2 v11 events_behind ≡ v13
