-- A run worked by hand: the late repeats. It goes on from the end of a chain (`specs/WorkedRun`): its Request and its Remote come
-- once more, are proposed and decided, and give no step; the client is told again, and the leader of the chain does nothing.
use Rattle.std.specs.Prelude.{◌≡◌, ℕ, List, [], ◌∷◌, ◌++◌, Option, None, Some, true, false}
use Rattle.std.specs.FinMap.{empty, remove}
use Rattle.graph_model.specs.declared.answer.Answer.TheVariants as said
use Rattle.part_keys.specs.declared.entry.PartEntry.TheVariants.{Prime, Local, Remote}
use Rattle.part_keys.specs.declared.proposal.Proposal.{Proposal}
use Rattle.part_keys.specs.declared.proposal.Proposal.TheVariants.{Start, Made}
use Rattle.part_keys.specs.declared.vid_kind.VidKind.TheVariants as kinds
use Rattle.part_rules.specs.Worked.{both}
use Rattle.chain_leader.specs.declared.body.ChainBody.TheVariants as says
use Rattle.chain_world.specs.declared.packet.ChainEnd.{ChainEnd}
use Rattle.chain_world.specs.declared.packet.ChainEnd.TheVariants as ends
use Rattle.chain_world.specs.declared.event.ChainEvent.{ChainEvent}
use Rattle.chain_world.specs.declared.event.ChainEvent.TheVariants as event
use Rattle.chain_world.specs.State.{Chains, with_leader, with_posts}
use Rattle.chain_world.specs.World.{run_from}
use Rattle.chain_world.specs.WorkedRun.{id, leader, decided, posted, post, nobody, one_more, asked, made, replied, s17}

-- what the leaders have proposed, and whose senders they keep
abbrev pub made_again : List Proposal
made_again = made ++ Made (Prime id both false) ∷ []

abbrev pub nobody_yet : ℕ → Option ChainEnd
nobody_yet = one_more (one_more (one_more nobody 1 None) 2 None) 3 None

abbrev pub remotes : List Proposal
remotes = Start ∷ Made (Remote 2 1 2 both) ∷ Made (Remote 2 1 2 both) ∷ []

abbrev pub sender_twice : ℕ → Option ChainEnd
sender_twice = one_more (one_more nobody 1 (Some (ends.Leader 2 1))) 2 (Some (ends.Leader 2 1))

-- the part's lists before
abbrev pub source_list : List (ℕ × Proposal)
source_list = (1, Start) ∷ (1, Made (Prime id both false)) ∷ (1, Made (Local 2)) ∷ []

abbrev pub remote_list : List (ℕ × Proposal)
remote_list = (1, Start) ∷ (1, Made (Remote 2 1 2 both)) ∷ []

-- the Request is taken again, its Prime is decided, and applied: the client is told again
abbrev pub u1 : Chains
u1 = with_posts (with_leader s17 2 1 (leader true (remove asked 2) 3 made_again nobody_yet)) []

abbrev pub u2 : Chains
u2 = decided u1 replied 2 (source_list ++ (1, Made (Prime id both false)) ∷ [])

abbrev pub u3 : Chains
u3 = posted (with_leader u2 2 1 (leader true (remove asked 2) 4 made_again nobody_yet)) (post (ends.Leader 2 1) (ends.Client 1) (says.Answer 1 said.Fine))

-- the Remote is taken again, is decided, and applied: it is Done once more
abbrev pub u4 : Chains
u4 = with_posts (with_leader u3 1 1 (leader true empty 2 remotes sender_twice)) []

abbrev pub u5 : Chains
u5 = decided u4 replied 1 (remote_list ++ (1, Made (Remote 2 1 2 both)) ∷ [])

abbrev pub u6 : Chains
u6 = posted (with_leader u5 1 1 (leader true empty 3 remotes sender_twice)) (post (ends.Leader 1 1) (ends.Leader 2 1) (says.Done 1 2))

-- and that does nothing: the chain is forgotten
abbrev pub u7 : Chains
u7 = with_posts (with_leader u6 2 1 (leader true (remove asked 2) 4 made_again (one_more nobody_yet 4 None))) []

abbrev pub late_events : List ChainEvent
late_events = event.Take 2 1 0 ∷ event.Decide 2 1 3 ∷ event.Apply 2 1 ∷ event.Take 1 1 3 ∷ event.Decide 1 1 2 ∷ event.Apply 1 1 ∷ event.Take 2 1 7 ∷ []

-- they lead there
abbrev pub AreLateRepeats : Type 0
AreLateRepeats = run_from kinds.Num 2 s17 late_events ≡ u7

-- and the graph's steps stay
abbrev pub GiveNoStep : Type 0
GiveNoStep = (run_from kinds.Num 2 s17 late_events).ledger.steps ≡ s17.ledger.steps
