-- The run of the late repeats, worked event by event.
use Rattle.graph_model.specs.Keys.{in_key}
use Rattle.std.proofs.Common.{◌≡◌, [], ◌∷◌, ◌++◌, None, Some, true, false, refl, ap, ◌∙◌}
use Rattle.std.specs.FinMap.{empty, remove, insert}
use Rattle.graph_model.specs.declared.answer.Answer.TheVariants as said
use Rattle.part_keys.specs.declared.chain.Policy.TheVariants.{Forward}
use Rattle.part_keys.specs.declared.vid_kind.VidKind.TheVariants as kinds
use Rattle.part_keys.specs.declared.entry.PartEntry.TheVariants.{Prime, Local, Remote}
use Rattle.part_keys.specs.declared.proposal.Proposal.TheVariants.{Made}
use Rattle.part_rules.specs.declared.applied.Applied.{Applied}
use Rattle.part_rules.specs.declared.applied.Applied.TheVariants as told
use Rattle.part_rules.specs.declared.kept.Outcome.TheVariants as kept
use Rattle.part_rules.specs.Part.{Part, blank}
use Rattle.part_rules.specs.Machine.{writes}
use Rattle.part_rules.specs.Machine as machines
use Rattle.part_rules.specs.Folded.{folded}
use Rattle.part_rules.specs.Worked.{both, edge_to, row, here, last}
use Rattle.part_rules.proofs.Computing.{computing}
use Rattle.chain_leader.specs.declared.body.ChainBody.TheVariants as says
use Rattle.chain_leader.specs.declared.letter.Letter.TheVariants.{Tell, Back}
use Rattle.chain_leader.specs.Leading.{Applies, Taken, on_item, taken}
use Rattle.chain_world.specs.declared.packet.ChainEnd.TheVariants as ends
use Rattle.chain_world.specs.declared.event.ChainEvent.TheVariants as event
use Rattle.chain_world.specs.Ledger.{primed_steps, remote_steps}
use Rattle.chain_world.specs.State.{Chains, machine_behind}
use Rattle.chain_world.specs.World.{after, with_applied, with_taken}
use Rattle.chain_world.specs.WorkedRun.{id, leader, decided, asked, replied, s17}
use Rattle.chain_world.specs.WorkedLate.{made_again, nobody_yet, remotes, sender_twice, source_list, remote_list, u1, u2, u3, u4, u5, u6, u7, late_events, AreLateRepeats, GiveNoStep}
use Rattle.chain_world.proofs.WorkedSteps.{primed, prime, Leads, leads, there}

-- part 2 behind the chain's end
abbrev settled : Part
settled = record primed { out = insert (insert empty (edge_to 4) (row 91)) (edge_to 2) (row 90); chains = remove primed.chains 2; clients = insert primed.clients 1 (last 1 kept.Fine) }

settles : machines.applied 2 3 (Local 2) primed ≡ (settled, told.Settled id)
settles = simp computing

stands : folded 2 source_list ≡ settled
stands = ap (λ (r : Part × Applied). (machines.applied 2 3 (Local 2) r.0).0) prime ∙ ap (λ (r : Part × Applied). r.0) settles

-- the Prime of the same call again
again : (machines.applied 2 4 (Prime id both false) settled).1 ≡ told.Again kept.Fine
again = simp computing

no_steps : primed_steps id (machines.applied 2 4 (Prime id both false) (folded 2 source_list)).1 ≡ []
no_steps = ap (λ (p : Part). primed_steps id (machines.applied 2 4 (Prime id both false) p).1) stands ∙ ap (primed_steps id) again

-- the client is told again
tells : on_item 2 1 settled (record { ready = true; policy = Forward; table = remove asked 2 }) 4 (1, Made (Prime id both false))
    ≡ record { leading = record { ready = true; policy = Forward; table = remove asked 2 }; answers = Tell id said.Fine ∷ []; rules = [] }
tells = simp computing

-- part 1 behind the Remote
abbrev written : Part
written = record blank {
  inn = insert (insert empty (in_key (edge_to 4)) (record { v = 2; half = here 91 })) (in_key (edge_to 2)) (record { v = 2; half = here 90 });
  guards = insert empty 2 1;
}

writes_both : machines.applied 2 2 (Remote 2 1 2 both) blank ≡ (written, told.Done)
writes_both = simp computing

stands_there : folded 2 remote_list ≡ written
stands_there = ap (λ (r : Part × Applied). r.0) writes_both

-- the Remote again writes nothing
nothing : writes (Remote 2 1 2 both) written ≡ false
nothing = simp computing

-- and is Done
answers : on_item 2 1 written (record { ready = true; policy = Forward; table = empty }) 3 (1, Made (Remote 2 1 2 both))
    ≡ record { leading = record { ready = true; policy = Forward; table = empty }; answers = Back (says.Done 1 2) ∷ []; rules = [] }
answers = simp computing

-- the leader of the chain has forgotten it
forgotten : (m : Part) → taken kinds.Num 2 2 1 m (record { ready = true; policy = Forward; table = remove asked 2 }) (says.Done 1 2) 1
    ≡ record { leading = record { ready = true; policy = Forward; table = remove asked 2 }; proposals = []; letters = [] }
forgotten m = simp computing

g2 : after kinds.Num 2 u1 (event.Decide 2 1 3) ≡ u2
g2 = ap (λ more. decided u1 (replied ++ more) 2 (source_list ++ (1, Made (Prime id both false)) ∷ [])) no_steps

g3 : after kinds.Num 2 u2 (event.Apply 2 1) ≡ u3
g3 = ap (λ (a : Applies). with_applied u2 2 1 (leader true (remove asked 2) 3 made_again nobody_yet) a None)
    (ap (λ (p : Part). on_item 2 1 p (record { ready = true; policy = Forward; table = remove asked 2 }) 4 (1, Made (Prime id both false))) stands ∙ tells)

g5 : after kinds.Num 2 u4 (event.Decide 1 1 2) ≡ u5
g5 = ap (λ wrote. decided u4 (replied ++ remote_steps wrote (Some id)) 1 (remote_list ++ (1, Made (Remote 2 1 2 both)) ∷ []))
    (ap (writes (Remote 2 1 2 both)) stands_there ∙ nothing)

g6 : after kinds.Num 2 u5 (event.Apply 1 1) ≡ u6
g6 = ap (λ (a : Applies). with_applied u5 1 1 (leader true empty 2 remotes sender_twice) a (Some (ends.Leader 2 1)))
    (ap (λ (p : Part). on_item 2 1 p (record { ready = true; policy = Forward; table = empty }) 3 (1, Made (Remote 2 1 2 both))) stands_there ∙ answers)

g7 : after kinds.Num 2 u6 (event.Take 2 1 7) ≡ u7
g7 = ap (λ (t : Taken). with_taken u6 2 1 (leader true (remove asked 2) 4 made_again nobody_yet) t None) (forgotten (machine_behind 2 u6 2 4))

all : Leads s17 late_events u7
all = leads {t = u1} refl (leads g2 (leads g3 (leads {t = u4} refl (leads g5 (leads g6 (leads g7 (there u7)))))))

pub late_run : AreLateRepeats
late_run = all.is

pub no_step : GiveNoStep
no_step = ap (λ (s : Chains). s.ledger.steps) late_run
