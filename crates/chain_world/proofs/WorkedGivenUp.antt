-- The events of the worked run with a Fence, one by one.
use Rattle.graph_model.specs.declared.call_id.CallId.{CallId}
use Rattle.std.proofs.Common.{◌≡◌, [], ◌∷◌, ◌++◌, None, Some, true, false, refl, ◌∙◌, ap, Option}
use Rattle.std.specs.FinMap.{empty, insert, remove}
use Rattle.graph_model.specs.declared.answer.Answer.TheVariants as said
use Rattle.graph_model.specs.declared.graph_step.GStep.TheVariants as step
use Rattle.part_keys.specs.declared.chain.Policy.TheVariants.{Forward, Cancel}
use Rattle.part_keys.specs.declared.entry.PartEntry.TheVariants.{Abort, Remote, Fence}
use Rattle.part_keys.specs.declared.proposal.Proposal.TheVariants.{Start, Made}
use Rattle.part_rules.specs.declared.applied.Applied.{Applied}
use Rattle.part_rules.specs.declared.applied.Applied.TheVariants as told
use Rattle.part_rules.specs.Part.{Part, blank}
use Rattle.part_rules.specs.Machine as machines
use Rattle.part_rules.specs.Machine.{writes}
use Rattle.part_rules.specs.Folded.{folded}
use Rattle.part_rules.specs.Worked.{both, edges}
use Rattle.part_rules.proofs.Computing.{computing}
use Rattle.chain_leader.specs.declared.body.ChainBody.TheVariants as says
use Rattle.chain_leader.specs.declared.letter.Letter.TheVariants.{Tell, Cross, Back}
use Rattle.chain_leader.specs.Leading.{Taken, Applies, taken, on_item}
use Rattle.part_keys.specs.declared.vid_kind.VidKind.TheVariants as kinds
use Rattle.chain_world.specs.declared.packet.ChainEnd.TheVariants as ends
use Rattle.chain_world.specs.declared.event.ChainEvent.TheVariants as event
use Rattle.chain_world.specs.Ledger.{remote_steps, ended_steps}
use Rattle.chain_world.specs.State.{Chains, machine_behind}
use Rattle.chain_world.specs.World.{after, with_applied, with_taken}
use Rattle.chain_world.specs.WorkedRun.{id, leader, decided, nobody, one_more, begun, s10}
use Rattle.chain_world.specs.WorkedFence.{careful, keeps_none, behind_start, fencing, fence_made, sender, aborting, abort_made, cancelled, t1, t2, t3, t4, t5, t6, t7, t8, t9, t10, t11, t12, t13, fence_events, IsFenceRun, AreGivenUp}
use Rattle.chain_world.proofs.WorkedSteps.{primed, prime, Leads, leads, there}

-- part 2 with the chain, behind the new leader's no-op
stands : folded 2 behind_start ≡ primed
stands = ap (λ (r : Part × Applied). r.0) prime

-- the chain is taken up
takes_up : taken kinds.Num 2 2 2 primed (record { ready = true; policy = Cancel; table = empty }) (says.Resume 2 None) 2
    ≡ record { leading = record { ready = true; policy = Cancel; table = fencing }; proposals = []; letters = Cross 1 0 (says.Fence 2 2 edges) ∷ [] }
takes_up = simp computing

-- part 1 behind the Fence
abbrev fenced : Part
fenced = record blank { guards = insert empty 2 2 }

-- the Fence
fence : machines.applied 2 2 (Fence 2 2 2 edges) blank ≡ (fenced, told.Fenced false)
fence = simp computing

-- what the leader of part 1 makes of it
answers : on_item 2 1 blank (record { ready = true; policy = Forward; table = empty }) 2 (1, Made (Fence 2 2 2 edges))
    ≡ record { leading = record { ready = true; policy = Forward; table = empty }; answers = Back (says.Fenced 2 2 false) ∷ []; rules = [] }
answers = simp computing

-- what the leader of part 2 makes of its answer
asks : (m : Part) → taken kinds.Num 2 2 2 m (record { ready = true; policy = Cancel; table = fencing }) (says.Fenced 2 2 false) 1
    ≡ record { leading = record { ready = true; policy = Cancel; table = aborting }; proposals = Abort 2 ∷ []; letters = [] }
asks m = simp computing

-- the Abort
abort : (machines.applied 2 4 (Abort 2) primed).1 ≡ told.Aborted id
abort = simp computing

-- its steps
cancels : ended_steps (machines.applied 2 4 (Abort 2) (folded 2 behind_start)).1 ≡ step.Cancel id ∷ []
cancels = ap (λ p. ended_steps (machines.applied 2 4 (Abort 2) p).1) stands ∙ ap ended_steps abort

-- what the leader makes of it
tells : on_item 2 2 primed (record { ready = true; policy = Cancel; table = aborting }) 4 (2, Made (Abort 2))
    ≡ record { leading = record { ready = true; policy = Cancel; table = remove aborting 2 }; answers = Tell id said.Cancelled ∷ []; rules = [] }
tells = simp computing

-- the late Remote writes nothing
late : writes (Remote 2 1 2 both) fenced ≡ false
late = simp computing

-- and gives no step
nothing : (call : Option CallId) → remote_steps (writes (Remote 2 1 2 both) (folded 2 ((1, Start) ∷ (1, Made (Fence 2 2 2 edges)) ∷ []))) call ≡ []
nothing call = ap (λ (r : Part × Applied). remote_steps (writes (Remote 2 1 2 both) r.0) call) fence ∙ ap (λ w. remote_steps w call) late

-- the chain is taken up
f4 : after kinds.Num 2 t3 (event.Take 2 2 4) ≡ t4
f4 = ap (λ (t : Taken). with_taken t3 2 2 (careful true empty 3 (Start ∷ []) nobody) t None) (ap (λ p. taken kinds.Num 2 2 2 p (record { ready = true; policy = Cancel; table = empty }) (says.Resume 2 None) 2) stands ∙ takes_up)

-- the Fence is applied
f7 : after kinds.Num 2 t6 (event.Apply 1 1) ≡ t7
f7 = ap (λ (a : Applies). with_applied t6 1 1 (leader true empty 1 fence_made sender) a (Some (ends.Leader 2 2))) answers

-- its answer is taken
f8 : after kinds.Num 2 t7 (event.Take 2 2 6) ≡ t8
f8 = ap (λ (t : Taken). with_taken t7 2 2 (careful true fencing 3 (Start ∷ []) keeps_none) t None) (asks (machine_behind 2 t7 2 3))

-- the Abort is decided
f9 : after kinds.Num 2 t8 (event.Decide 2 2 1) ≡ t9
f9 = ap (λ more. decided t8 (begun ++ more) 2 (behind_start ++ (2, Made (Abort 2)) ∷ [])) cancels

-- the Abort is applied
f10 : after kinds.Num 2 t9 (event.Apply 2 2) ≡ t10
f10 = ap (λ (a : Applies). with_applied t9 2 2 (careful true aborting 3 abort_made (one_more keeps_none 1 None)) a None)
    (ap (λ p. on_item 2 2 p (record { ready = true; policy = Cancel; table = aborting }) 4 (2, Made (Abort 2))) stands ∙ tells)

-- the late Remote is decided
f12 : after kinds.Num 2 t11 (event.Decide 1 1 2) ≡ t12
f12 = ap (λ more. decided t11 (cancelled ++ more) 1 ((1, Start) ∷ (1, Made (Fence 2 2 2 edges)) ∷ (1, Made (Remote 2 1 2 both)) ∷ [])) (nothing (Some id))

-- the events lead there
all : Leads s10 fence_events t13
all = leads {t = t1} refl (leads {t = t2} refl (leads {t = t3} refl (leads f4 (leads {t = t5} refl (leads {t = t6} refl (leads f7 (leads f8 (leads f9 (leads f10
    (leads {t = t11} refl (leads f12 (leads {t = t13} refl (there t13)))))))))))))

-- all of them
pub fence_run : IsFenceRun
fence_run = all.is

-- and their steps
pub its_steps : AreGivenUp
its_steps = ap (λ (s : Chains). s.ledger.steps) fence_run
