-- A run worked by hand: a chain of two edges that is doubled by one leader and closed by the next. It goes on from where the
-- Remote was sent by the leader of part 2 of term 1 (`specs/WorkedRun`): its client gives up before the Remote arrives.
use Rattle.std.specs.Prelude.{◌≡◌, ℕ, List, [], ◌∷◌, ◌++◌, Option, None, Some, true, false}
use Rattle.std.specs.FinMap.{empty, insert, remove}
use Rattle.graph_model.specs.declared.answer.Answer.TheVariants as said
use Rattle.graph_model.specs.declared.graph_step.GStep.{GStep}
use Rattle.graph_model.specs.declared.graph_step.GStep.TheVariants as step
use Rattle.part_keys.specs.declared.chain.Mode.TheVariants as mode
use Rattle.part_keys.specs.declared.chain.Policy.TheVariants.{Forward}
use Rattle.part_keys.specs.declared.entry.PartEntry.TheVariants.{Prime, Double, Close, Remote}
use Rattle.part_keys.specs.declared.proposal.Proposal.{Proposal}
use Rattle.part_keys.specs.declared.proposal.Proposal.TheVariants.{Start, Made}
use Rattle.part_keys.specs.declared.vid_kind.VidKind.TheVariants as kinds
use Rattle.part_rules.specs.Worked.{both}
use Rattle.chain_leader.specs.declared.body.ChainBody.TheVariants as says
use Rattle.chain_leader.specs.Rules.{Table}
use Rattle.chain_world.specs.declared.packet.ChainEnd.{ChainEnd}
use Rattle.chain_world.specs.declared.packet.ChainEnd.TheVariants as ends
use Rattle.chain_world.specs.declared.event.ChainEvent.{ChainEvent}
use Rattle.chain_world.specs.declared.event.ChainEvent.TheVariants as event
use Rattle.chain_world.specs.State.{Chains, with_leader, with_client, with_posts}
use Rattle.chain_world.specs.World.{run_from}
use Rattle.chain_world.specs.WorkedRun.{id, op, post, leader, decided, posted, state, nobody, one_more, table, begun, s10}

-- the call is given up at the leader of term 1: the Double is proposed ..
abbrev pub doubling : Table
doubling = insert table 2 (state mode.Doubled false)

abbrev pub double_made : List Proposal
double_made = Start ∷ Made (Prime id both false) ∷ Made (Double 2) ∷ []

abbrev pub two_none : ℕ → Option ChainEnd
two_none = one_more (one_more nobody 1 None) 2 None

abbrev pub d1 : Chains
d1 = with_posts (with_leader s10 2 1 (leader true doubling 2 double_made two_none)) []

-- .. and decided: the out-halves are written
abbrev pub primed_list : List (ℕ × Proposal)
primed_list = (1, Start) ∷ (1, Made (Prime id both false)) ∷ []

abbrev pub doubled_list : List (ℕ × Proposal)
doubled_list = (1, Start) ∷ (1, Made (Prime id both false)) ∷ (1, Made (Double 2)) ∷ []

abbrev pub shown : List GStep
shown = step.Invoke id op ∷ step.Begin id ∷ step.OutHalf id ∷ []

abbrev pub d2 : Chains
d2 = decided d1 shown 2 doubled_list

-- .. and applied: the client is told that the call is pending, and replies
abbrev pub d3 : Chains
d3 = posted (with_leader d2 2 1 (leader true doubling 3 double_made two_none)) (post (ends.Leader 2 1) (ends.Client 1) (says.Answer 1 said.Pending))

abbrev pub pending : List GStep
pending = step.Invoke id op ∷ step.Begin id ∷ step.OutHalf id ∷ step.Reply id said.Pending ∷ []

abbrev pub d4 : Chains
d4 = with_client (record d3 { ledger = record { steps = pending; decided = d3.ledger.decided } }) 1 (record { last = 1; asks = None })

-- a leader of term 2 leads, its no-op is decided, and applied: it is ready
abbrev pub d5 : Chains
d5 = with_leader d4 2 2 (leader false empty 3 (Start ∷ []) nobody)

abbrev pub led_list : List (ℕ × Proposal)
led_list = (1, Start) ∷ (1, Made (Prime id both false)) ∷ (1, Made (Double 2)) ∷ (2, Start) ∷ []

abbrev pub d6 : Chains
d6 = decided d5 pending 2 led_list

abbrev pub d7 : Chains
d7 = posted (with_leader d6 2 2 (leader true empty 4 (Start ∷ []) nobody)) (post (ends.Leader 2 2) (ends.Leader 2 2) (says.Resume 2 None))

-- it takes up the chain in mode Doubled, and sends its Remote again
abbrev pub found : Table
found = insert empty 2 (state mode.Doubled false)

abbrev pub one_none : ℕ → Option ChainEnd
one_none = one_more nobody 1 None

abbrev pub d8 : Chains
d8 = posted (with_leader d7 2 2 (leader true found 4 (Start ∷ []) one_none)) (post (ends.Leader 2 2) (ends.Part 1) (says.Remote 2 2 both))

-- the Remote is taken in part 1, is decided, and applied: the in-halves are written
abbrev pub remote_made : List Proposal
remote_made = Start ∷ Made (Remote 2 2 2 both) ∷ []

abbrev pub next_leader : ℕ → Option ChainEnd
next_leader = one_more nobody 1 (Some (ends.Leader 2 2))

abbrev pub d9 : Chains
d9 = with_posts (with_leader d8 1 1 (leader true empty 1 remote_made next_leader)) []

abbrev pub caught_up : List GStep
caught_up = step.Invoke id op ∷ step.Begin id ∷ step.OutHalf id ∷ step.Reply id said.Pending ∷ step.InHalf id ∷ []

abbrev pub d10 : Chains
d10 = decided d9 caught_up 1 ((1, Start) ∷ (1, Made (Remote 2 2 2 both)) ∷ [])

abbrev pub d11 : Chains
d11 = posted (with_leader d10 1 1 (leader true empty 2 remote_made next_leader)) (post (ends.Leader 1 1) (ends.Leader 2 2) (says.Done 2 2))

-- the Done is taken: the Close is proposed ..
abbrev pub closing : Table
closing = insert found 2 (state mode.Doubled true)

abbrev pub close_made : List Proposal
close_made = Start ∷ Made (Close 2) ∷ []

abbrev pub d12 : Chains
d12 = with_posts (with_leader d11 2 2 (leader true closing 4 close_made (one_more one_none 1 None))) []

-- .. and decided: the chain is settled
abbrev pub closed : List GStep
closed = step.Invoke id op ∷ step.Begin id ∷ step.OutHalf id ∷ step.Reply id said.Pending ∷ step.InHalf id ∷ step.Settle id ∷ []

abbrev pub d13 : Chains
d13 = decided d12 closed 2 (led_list ++ (2, Made (Close 2)) ∷ [])

-- .. and applied: the chain is forgotten, and its client, which waits no longer, is told
abbrev pub d14 : Chains
d14 = posted (with_leader d13 2 2 (leader true (remove closing 2) 5 close_made (one_more one_none 1 None))) (post (ends.Leader 2 2) (ends.Client 1) (says.Answer 1 said.Fine))

-- the events
abbrev pub double_events : List ChainEvent
double_events = event.GiveUp 2 1 id ∷ event.Decide 2 1 2 ∷ event.Apply 2 1 ∷ event.Reply id said.Pending 4
    ∷ event.Lead 2 2 Forward 3 ∷ event.Decide 2 2 0 ∷ event.Apply 2 2 ∷ event.Take 2 2 5
    ∷ event.Take 1 1 6 ∷ event.Decide 1 1 1 ∷ event.Apply 1 1
    ∷ event.Take 2 2 7 ∷ event.Decide 2 2 1 ∷ event.Apply 2 2 ∷ []

-- they lead there, and are lawful each
abbrev pub IsDoubleRun : Type 0
IsDoubleRun = run_from kinds.Num 2 s10 double_events ≡ d14

-- the graph's steps: the out-halves are written and the client is told Pending; the in-halves follow, and the chain is settled
abbrev pub AreClosed : Type 0
AreClosed = (run_from kinds.Num 2 s10 double_events).ledger.steps ≡ closed
