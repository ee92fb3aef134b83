-- A run worked by hand: one chain of two edges, from its call to its answer. With two parts, vertex 1 is in part 2, and the
-- vertices 2 and 4 are in part 1; each part has a leader of term 1. Each state is what an event makes of the one before.
use Rattle.std.specs.Prelude.{◌≡◌, ℕ, ◌==◌, Bool, List, [], ◌∷◌, Option, None, Some, true, false, if◌then◌else◌}
use Rattle.std.specs.FinMap.{empty, insert, remove}
use Rattle.graph_model.specs.declared.answer.Answer.TheVariants as said
use Rattle.graph_model.specs.declared.call_id.CallId.{CallId}
use Rattle.graph_model.specs.declared.op.Op.{Op}
use Rattle.graph_model.specs.declared.op.Op.TheVariants.{PutEdges}
use Rattle.graph_model.specs.declared.graph_step.GStep.{GStep}
use Rattle.graph_model.specs.declared.graph_step.GStep.TheVariants as step
use Rattle.part_keys.specs.declared.chain.ChainState.{ChainState}
use Rattle.part_keys.specs.declared.chain.Mode.{Mode}
use Rattle.part_keys.specs.declared.chain.Mode.TheVariants as mode
use Rattle.part_keys.specs.declared.chain.Policy.TheVariants.{Forward}
use Rattle.part_keys.specs.declared.entry.PartEntry.TheVariants.{Prime, Local, Remote}
use Rattle.part_keys.specs.declared.proposal.Proposal.{Proposal}
use Rattle.part_keys.specs.declared.proposal.Proposal.TheVariants.{Start, Made}
use Rattle.part_rules.specs.Worked.{edge_to, both, row, call}
use Rattle.chain_leader.specs.declared.body.ChainBody.{ChainBody}
use Rattle.chain_leader.specs.declared.body.ChainBody.TheVariants as says
use Rattle.chain_leader.specs.Rules.{Table}
use Rattle.part_keys.specs.declared.vid_kind.VidKind.TheVariants as kinds
use Rattle.chain_world.specs.declared.packet.ChainEnd.{ChainEnd}
use Rattle.chain_world.specs.declared.packet.ChainEnd.TheVariants as ends
use Rattle.chain_world.specs.declared.event.ChainEvent.{ChainEvent}
use Rattle.chain_world.specs.declared.event.ChainEvent.TheVariants as event
use Rattle.chain_world.specs.Ledger.{with_list}
use Rattle.chain_world.specs.State.{Post, Leader, Chains, start, with_leader, with_client, with_posts, packet_of, post_of}
use Rattle.chain_world.specs.World.{run}

-- the call, and its op
abbrev pub id : CallId
id = call 1 1

abbrev pub op : Op
op = PutEdges ((edge_to 2, row 90) ∷ (edge_to 4, row 91) ∷ []) false

-- a packet
abbrev pub post : ChainEnd → ChainEnd → ChainBody → Post
post from to b = post_of (packet_of from to b)

-- a leader of policy Forward
abbrev pub leader : Bool → Table → ℕ → List Proposal → (ℕ → Option ChainEnd) → Leader
leader ready table applied made senders = record { lead = record { ready = ready; policy = Forward; table = table }; applied = applied; made = made; senders = senders }

-- an item is decided: the graph's steps, and the part's list
abbrev pub decided : Chains → List GStep → ℕ → List (ℕ × Proposal) → Chains
decided s steps p list = record s { ledger = record { steps = steps; decided = with_list s.ledger.decided p list } }

-- a packet leaves
abbrev pub posted : Chains → Post → Chains
posted s p = with_posts s (p ∷ [])

-- the chain in the table
abbrev pub state : Mode → Bool → ChainState
state mode asked = record { id = id; remote = 1; list = both; mode = mode; asked = asked; tries = 0; hint = 0 }

-- nobody is kept as a sender
abbrev pub nobody : ℕ → Option ChainEnd
nobody n = None

-- one sender more, of the proposal with that number
abbrev pub one_more : (ℕ → Option ChainEnd) → ℕ → Option ChainEnd → ℕ → Option ChainEnd
one_more senders at sender n = if n == at then sender else senders n

-- the call is made
abbrev pub s1 : Chains
s1 = posted (with_client (record start { ledger = record { steps = step.Invoke id op ∷ []; decided = λ p. [] } }) 1 (record { last = 1; asks = Some (id, op) }))
    (post (ends.Client 1) (ends.Part 2) (says.Request 1 (Prime id both false)))

-- both parts get a leader, each with its no-op
abbrev pub s2 : Chains
s2 = with_leader s1 2 1 (leader false empty 0 (Start ∷ []) nobody)

abbrev pub s3 : Chains
s3 = with_leader s2 1 1 (leader false empty 0 (Start ∷ []) nobody)

-- the no-op of part 2 is decided and applied: its leader is ready
abbrev pub s4 : Chains
s4 = decided s3 (step.Invoke id op ∷ []) 2 ((1, Start) ∷ [])

abbrev pub s5 : Chains
s5 = posted (with_leader s4 2 1 (leader true empty 1 (Start ∷ []) nobody)) (post (ends.Leader 2 1) (ends.Leader 2 1) (says.Resume 1 None))

-- so is that of part 1
abbrev pub s6 : Chains
s6 = decided s5 (step.Invoke id op ∷ []) 1 ((1, Start) ∷ [])

abbrev pub s7 : Chains
s7 = posted (with_leader s6 1 1 (leader true empty 1 (Start ∷ []) nobody)) (post (ends.Leader 1 1) (ends.Leader 1 1) (says.Resume 1 None))

-- the Request is taken: its Prime is proposed ..
abbrev pub s8 : Chains
s8 = with_posts (with_leader s7 2 1 (leader true empty 1 (Start ∷ Made (Prime id both false) ∷ []) (one_more nobody 1 None))) []

-- .. and decided: the chain begins in the graph
abbrev pub begun : List GStep
begun = step.Invoke id op ∷ step.Begin id ∷ []

abbrev pub s9 : Chains
s9 = decided s8 begun 2 ((1, Start) ∷ (1, Made (Prime id both false)) ∷ [])

-- .. and applied: the chain is in the table, and its Remote leaves
abbrev pub table : Table
table = insert empty 2 (state mode.Put false)

abbrev pub s10 : Chains
s10 = posted (with_leader s9 2 1 (leader true table 2 (Start ∷ Made (Prime id both false) ∷ []) (one_more nobody 1 None))) (post (ends.Leader 2 1) (ends.Part 1) (says.Remote 1 2 both))

-- the Remote is taken in part 1, its sender is kept ..
abbrev pub s11 : Chains
s11 = with_posts (with_leader s10 1 1 (leader true empty 1 (Start ∷ Made (Remote 2 1 2 both) ∷ []) (one_more nobody 1 (Some (ends.Leader 2 1))))) []

-- .. it is decided: the in-halves are written in the graph
abbrev pub written : List GStep
written = step.Invoke id op ∷ step.Begin id ∷ step.InHalf id ∷ []

abbrev pub s12 : Chains
s12 = decided s11 written 1 ((1, Start) ∷ (1, Made (Remote 2 1 2 both)) ∷ [])

-- .. and applied: the sender is answered
abbrev pub s13 : Chains
s13 = posted (with_leader s12 1 1 (leader true empty 2 (Start ∷ Made (Remote 2 1 2 both) ∷ []) (one_more nobody 1 (Some (ends.Leader 2 1))))) (post (ends.Leader 1 1) (ends.Leader 2 1) (says.Done 1 2))

-- the Done is taken in part 2: the Local is proposed ..
abbrev pub made : List Proposal
made = Start ∷ Made (Prime id both false) ∷ Made (Local 2) ∷ []

abbrev pub asked : Table
asked = insert table 2 (state mode.Put true)

abbrev pub s14 : Chains
s14 = with_posts (with_leader s13 2 1 (leader true asked 2 made (one_more (one_more nobody 1 None) 2 None))) []

-- .. and decided: the out-halves are written, and the chain is settled
abbrev pub settled : List GStep
settled = step.Invoke id op ∷ step.Begin id ∷ step.InHalf id ∷ step.OutHalf id ∷ step.Settle id ∷ []

abbrev pub s15 : Chains
s15 = decided s14 settled 2 ((1, Start) ∷ (1, Made (Prime id both false)) ∷ (1, Made (Local 2)) ∷ [])

-- .. and applied: the chain is forgotten, and the client is answered
abbrev pub s16 : Chains
s16 = posted (with_leader s15 2 1 (leader true (remove asked 2) 3 made (one_more (one_more nobody 1 None) 2 None))) (post (ends.Leader 2 1) (ends.Client 1) (says.Answer 1 said.Fine))

-- the call is replied
abbrev pub replied : List GStep
replied = step.Invoke id op ∷ step.Begin id ∷ step.InHalf id ∷ step.OutHalf id ∷ step.Settle id ∷ step.Reply id said.Fine ∷ []

abbrev pub s17 : Chains
s17 = with_client (record s16 { ledger = record { steps = replied; decided = s16.ledger.decided } }) 1 (record { last = 1; asks = None })

-- the events
abbrev pub events : List ChainEvent
events = event.Invoke id op ∷ event.Lead 2 1 Forward 0 ∷ event.Lead 1 1 Forward 0
    ∷ event.Decide 2 1 0 ∷ event.Apply 2 1 ∷ event.Decide 1 1 0 ∷ event.Apply 1 1
    ∷ event.Take 2 1 0 ∷ event.Decide 2 1 1 ∷ event.Apply 2 1
    ∷ event.Take 1 1 3 ∷ event.Decide 1 1 1 ∷ event.Apply 1 1
    ∷ event.Take 2 1 4 ∷ event.Decide 2 1 2 ∷ event.Apply 2 1
    ∷ event.Reply id said.Fine 5 ∷ []

-- they lead there, and are lawful each
abbrev pub IsChainRun : Type 0
IsChainRun = run kinds.Num 2 events ≡ s17

-- the graph's steps: the call begins, writes its in-halves, then its out-halves, settles, and is answered
abbrev pub AreItsSteps : Type 0
AreItsSteps = (run kinds.Num 2 events).ledger.steps ≡ replied
