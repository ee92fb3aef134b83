-- A run worked by hand: a chain that is fenced and given up, and its late Remote. It goes on from where the Remote was sent
-- by the leader of part 2 of term 1 (`specs/WorkedRun`): a leader of term 2 with policy Cancel finds the chain.
use Rattle.std.specs.Prelude.{◌≡◌, ℕ, Bool, List, [], ◌∷◌, ◌++◌, Option, None, Some, true, false}
use Rattle.std.specs.FinMap.{empty, insert, remove}
use Rattle.graph_model.specs.declared.answer.Answer.TheVariants as said
use Rattle.graph_model.specs.declared.graph_step.GStep.{GStep}
use Rattle.graph_model.specs.declared.graph_step.GStep.TheVariants as step
use Rattle.part_keys.specs.declared.chain.Mode.TheVariants as mode
use Rattle.part_keys.specs.declared.chain.Policy.TheVariants.{Cancel}
use Rattle.part_keys.specs.declared.entry.PartEntry.TheVariants.{Prime, Abort, Remote, Fence}
use Rattle.part_keys.specs.declared.proposal.Proposal.{Proposal}
use Rattle.part_keys.specs.declared.proposal.Proposal.TheVariants.{Start, Made}
use Rattle.part_rules.specs.Worked.{both, edges}
use Rattle.chain_leader.specs.declared.body.ChainBody.TheVariants as says
use Rattle.chain_leader.specs.Rules.{Table}
use Rattle.part_keys.specs.declared.vid_kind.VidKind.TheVariants as kinds
use Rattle.chain_world.specs.declared.packet.ChainEnd.{ChainEnd}
use Rattle.chain_world.specs.declared.packet.ChainEnd.TheVariants as ends
use Rattle.chain_world.specs.declared.event.ChainEvent.{ChainEvent}
use Rattle.chain_world.specs.declared.event.ChainEvent.TheVariants as event
use Rattle.chain_world.specs.State.{Leader, Chains, with_leader, with_client, with_posts}
use Rattle.chain_world.specs.World.{run_from}
use Rattle.chain_world.specs.WorkedRun.{id, op, post, leader, decided, posted, state, nobody, one_more, begun, s10}

-- a leader of policy Cancel
abbrev pub careful : Bool → Table → ℕ → List Proposal → (ℕ → Option ChainEnd) → Leader
careful ready table applied made senders = record { lead = record { ready = ready; policy = Cancel; table = table }; applied = applied; made = made; senders = senders }

-- the list of part 2 before the new leader, and with its no-op
abbrev pub behind : List (ℕ × Proposal)
behind = (1, Start) ∷ (1, Made (Prime id both false)) ∷ []

abbrev pub behind_start : List (ℕ × Proposal)
behind_start = (1, Start) ∷ (1, Made (Prime id both false)) ∷ (2, Start) ∷ []

-- it leads, its no-op is decided, and applied: it is ready
abbrev pub t1 : Chains
t1 = with_leader s10 2 2 (careful false empty 2 (Start ∷ []) nobody)

abbrev pub t2 : Chains
t2 = decided t1 begun 2 behind_start

abbrev pub t3 : Chains
t3 = posted (with_leader t2 2 2 (careful true empty 3 (Start ∷ []) nobody)) (post (ends.Leader 2 2) (ends.Leader 2 2) (says.Resume 2 None))

-- it takes up the chain in mode Fence
abbrev pub fencing : Table
fencing = insert empty 2 (state mode.Fence false)

-- it keeps no sender of its next proposal
abbrev pub keeps_none : ℕ → Option ChainEnd
keeps_none = one_more nobody 1 None

abbrev pub t4 : Chains
t4 = posted (with_leader t3 2 2 (careful true fencing 3 (Start ∷ []) keeps_none)) (post (ends.Leader 2 2) (ends.Part 1) (says.Fence 2 2 edges))

-- the Fence is taken in part 1 before the Remote, is decided, and applied: the chain wrote nothing
abbrev pub fence_made : List Proposal
fence_made = Start ∷ Made (Fence 2 2 2 edges) ∷ []

abbrev pub sender : ℕ → Option ChainEnd
sender = one_more nobody 1 (Some (ends.Leader 2 2))

abbrev pub t5 : Chains
t5 = with_posts (with_leader t4 1 1 (leader true empty 1 fence_made sender)) []

abbrev pub t6 : Chains
t6 = decided t5 begun 1 ((1, Start) ∷ (1, Made (Fence 2 2 2 edges)) ∷ [])

abbrev pub t7 : Chains
t7 = posted (with_leader t6 1 1 (leader true empty 2 fence_made sender)) (post (ends.Leader 1 1) (ends.Leader 2 2) (says.Fenced 2 2 false))

-- the Abort is proposed ..
abbrev pub aborting : Table
aborting = insert fencing 2 (state mode.Fence true)

abbrev pub abort_made : List Proposal
abort_made = Start ∷ Made (Abort 2) ∷ []

abbrev pub t8 : Chains
t8 = with_posts (with_leader t7 2 2 (careful true aborting 3 abort_made (one_more keeps_none 1 None))) []

-- .. and decided: the call is cancelled in the graph
abbrev pub cancelled : List GStep
cancelled = step.Invoke id op ∷ step.Begin id ∷ step.Cancel id ∷ []

abbrev pub t9 : Chains
t9 = decided t8 cancelled 2 (behind_start ++ (2, Made (Abort 2)) ∷ [])

-- .. and applied: the client is told
abbrev pub t10 : Chains
t10 = posted (with_leader t9 2 2 (careful true (remove aborting 2) 4 abort_made (one_more keeps_none 1 None))) (post (ends.Leader 2 2) (ends.Client 1) (says.Answer 1 said.Cancelled))

-- the late Remote of term 1 is taken, and decided behind the Fence: it writes nothing
abbrev pub t11 : Chains
t11 = with_posts (with_leader t10 1 1 (leader true empty 2 (fence_made ++ Made (Remote 2 1 2 both) ∷ []) (one_more sender 2 (Some (ends.Leader 2 1))))) []

abbrev pub t12 : Chains
t12 = decided t11 cancelled 1 ((1, Start) ∷ (1, Made (Fence 2 2 2 edges)) ∷ (1, Made (Remote 2 1 2 both)) ∷ [])

-- the call is replied
abbrev pub given_up : List GStep
given_up = step.Invoke id op ∷ step.Begin id ∷ step.Cancel id ∷ step.Reply id said.Cancelled ∷ []

abbrev pub t13 : Chains
t13 = with_client (record t12 { ledger = record { steps = given_up; decided = t12.ledger.decided } }) 1 (record { last = 1; asks = None })

-- the events
abbrev pub fence_events : List ChainEvent
fence_events = event.Lead 2 2 Cancel 2 ∷ event.Decide 2 2 0 ∷ event.Apply 2 2 ∷ event.Take 2 2 4
    ∷ event.Take 1 1 5 ∷ event.Decide 1 1 1 ∷ event.Apply 1 1
    ∷ event.Take 2 2 6 ∷ event.Decide 2 2 1 ∷ event.Apply 2 2
    ∷ event.Take 1 1 3 ∷ event.Decide 1 1 2 ∷ event.Reply id said.Cancelled 7 ∷ []

-- they lead there, and are lawful each
abbrev pub IsFenceRun : Type 0
IsFenceRun = run_from kinds.Num 2 s10 fence_events ≡ t13

-- the graph's steps: the call begins, is cancelled, and is answered so; the late Remote gives none
abbrev pub AreGivenUp : Type 0
AreGivenUp = (run_from kinds.Num 2 s10 fence_events).ledger.steps ≡ given_up
