-- The events of the worked run, one by one. What an event looks up in a map is worked out first.
use Rattle.std.proofs.Common.{◌≡◌, List, [], ◌∷◌, ◌++◌, None, Some, true, false, refl, ◌∙◌, ap}
use Rattle.std.specs.FinMap.{empty, insert, remove}
use Rattle.graph_model.specs.declared.answer.Answer.TheVariants as said
use Rattle.graph_model.specs.declared.graph_step.GStep.TheVariants as step
use Rattle.part_keys.specs.declared.chain.PrimeRec.{PrimeRec}
use Rattle.part_keys.specs.declared.chain.Policy.TheVariants.{Forward}
use Rattle.part_keys.specs.declared.entry.PartEntry.TheVariants.{Prime, Local, Remote}
use Rattle.part_keys.specs.declared.proposal.Proposal.TheVariants.{Start, Made}
use Rattle.part_rules.specs.declared.applied.Applied.{Applied}
use Rattle.part_rules.specs.declared.applied.Applied.TheVariants as told
use Rattle.part_rules.specs.declared.kept.Outcome.TheVariants as kept
use Rattle.part_rules.specs.Part.{Part, blank}
use Rattle.part_rules.specs.Machine as machines
use Rattle.part_rules.specs.Machine.{writes}
use Rattle.part_rules.specs.Folded.{folded}
use Rattle.part_rules.specs.Worked.{both, last}
use Rattle.part_rules.proofs.Computing.{computing}
use Rattle.chain_leader.specs.declared.body.ChainBody.TheVariants as says
use Rattle.chain_leader.specs.declared.letter.Letter.TheVariants.{Tell, Cross, Back}
use Rattle.chain_leader.specs.Leading.{Taken, Applies, taken, on_item}
use Rattle.part_keys.specs.declared.vid_kind.VidKind.TheVariants as kinds
use Rattle.chain_world.specs.declared.packet.ChainEnd.TheVariants as ends
use Rattle.chain_world.specs.declared.event.ChainEvent.{ChainEvent}
use Rattle.chain_world.specs.declared.event.ChainEvent.TheVariants as event
use Rattle.chain_world.specs.Ledger.{remote_steps, ended_steps}
use Rattle.chain_world.specs.State.{Chains, start, machine_behind}
use Rattle.chain_world.specs.World.{after, run_from, with_applied, with_taken}
use Rattle.chain_world.specs.WorkedRun.{id, leader, decided, nobody, one_more, table, asked, made, begun, written, s1, s2, s3, s4, s5, s6, s7, s8, s9, s10, s11, s12, s13, s14, s15, s16, s17, events, IsChainRun, AreItsSteps}

-- the chain
abbrev pub rec : PrimeRec
rec = record { v = 2; id = id; remote = 1; list = both; double = false }

-- part 2 where it stands
abbrev pub primed : Part
primed = record blank { chains = insert empty 2 rec; clients = insert empty 1 (last 1 kept.Open) }

-- its Prime
pub prime : machines.applied 2 2 (Prime id both false) blank ≡ (primed, told.Begun 2)
prime = simp computing

-- the part behind the Prime
stands : folded 2 ((1, Start) ∷ (1, Made (Prime id both false)) ∷ []) ≡ primed
stands = ap (λ (r : Part × Applied). r.0) prime

-- its Local
local : (machines.applied 2 3 (Local 2) primed).1 ≡ told.Settled id
local = simp computing

-- what the leader makes of the Prime
begins : on_item 2 1 blank (record { ready = true; policy = Forward; table = empty }) 2 (1, Made (Prime id both false))
    ≡ record { leading = record { ready = true; policy = Forward; table = table }; answers = []; rules = Cross 1 0 (says.Remote 1 2 both) ∷ [] }
begins = simp computing

-- what the other leader makes of the Remote
answers : on_item 2 1 blank (record { ready = true; policy = Forward; table = empty }) 2 (1, Made (Remote 2 1 2 both))
    ≡ record { leading = record { ready = true; policy = Forward; table = empty }; answers = Back (says.Done 1 2) ∷ []; rules = [] }
answers = simp computing

-- what the leader makes of the Done
asks : (m : Part) → taken kinds.Num 2 2 1 m (record { ready = true; policy = Forward; table = table }) (says.Done 1 2) 1
    ≡ record { leading = record { ready = true; policy = Forward; table = asked }; proposals = Local 2 ∷ []; letters = [] }
asks m = simp computing

-- what it makes of the Local
tells : on_item 2 1 primed (record { ready = true; policy = Forward; table = asked }) 3 (1, Made (Local 2))
    ≡ record { leading = record { ready = true; policy = Forward; table = remove asked 2 }; answers = Tell id said.Fine ∷ []; rules = [] }
tells = simp computing

-- the Remote writes
writes_both : writes (Remote 2 1 2 both) blank ≡ true
writes_both = simp computing

-- the steps of the Remote
in_halves : remote_steps (writes (Remote 2 1 2 both) blank) (Some id) ≡ step.InHalf id ∷ []
in_halves = ap (λ w. remote_steps w (Some id)) writes_both

-- the steps of the Local
out_halves : ended_steps (machines.applied 2 3 (Local 2) (folded 2 ((1, Start) ∷ (1, Made (Prime id both false)) ∷ []))).1 ≡ step.OutHalf id ∷ step.Settle id ∷ []
out_halves = ap (λ p. ended_steps (machines.applied 2 3 (Local 2) p).1) stands ∙ ap ended_steps local

-- the Prime is decided
e9 : after kinds.Num 2 s8 (event.Decide 2 1 1) ≡ s9
e9 = simp computing

-- the Prime is applied
e10 : after kinds.Num 2 s9 (event.Apply 2 1) ≡ s10
e10 = ap (λ (a : Applies). with_applied s9 2 1 (leader true empty 1 (Start ∷ Made (Prime id both false) ∷ []) (one_more nobody 1 None)) a None) begins

-- the Remote is decided
e12 : after kinds.Num 2 s11 (event.Decide 1 1 1) ≡ s12
e12 = ap (λ more. decided s11 (begun ++ more) 1 ((1, Start) ∷ (1, Made (Remote 2 1 2 both)) ∷ [])) in_halves

-- the Remote is applied
e13 : after kinds.Num 2 s12 (event.Apply 1 1) ≡ s13
e13 = ap (λ (a : Applies). with_applied s12 1 1 (leader true empty 1 (Start ∷ Made (Remote 2 1 2 both) ∷ []) (one_more nobody 1 (Some (ends.Leader 2 1)))) a (Some (ends.Leader 2 1))) answers

-- the Done is taken
e14 : after kinds.Num 2 s13 (event.Take 2 1 4) ≡ s14
e14 = ap (λ (t : Taken). with_taken s13 2 1 (leader true table 2 (Start ∷ Made (Prime id both false) ∷ []) (one_more nobody 1 None)) t None) (asks (machine_behind 2 s13 2 2))

-- the Local is decided
e15 : after kinds.Num 2 s14 (event.Decide 2 1 2) ≡ s15
e15 = ap (λ more. decided s14 (written ++ more) 2 ((1, Start) ∷ (1, Made (Prime id both false)) ∷ (1, Made (Local 2)) ∷ [])) out_halves

-- the Local is applied
e16 : after kinds.Num 2 s15 (event.Apply 2 1) ≡ s16
e16 = ap (λ (a : Applies). with_applied s15 2 1 (leader true asked 2 made (one_more (one_more nobody 1 None) 2 None)) a None)
    (ap (λ p. on_item 2 1 p (record { ready = true; policy = Forward; table = asked }) 3 (1, Made (Local 2))) stands ∙ tells)

-- the events lead from one state to another
pub record Leads (s : Chains) (es : List ChainEvent) (u : Chains) : Type 0 where
  pub is : run_from kinds.Num 2 s es ≡ u

-- an event more
pub leads : {s t u : Chains} {e : ChainEvent} {es : List ChainEvent} → after kinds.Num 2 s e ≡ t → Leads t es u → Leads s (e ∷ es) u
leads {es = es} h k = record { is = ap (λ x. run_from kinds.Num 2 x es) h ∙ k.is }

-- no event
pub there : (s : Chains) → Leads s [] s
there s = record { is = refl }

-- the events lead there
all : Leads start events s17
all = leads {t = s1} refl (leads {t = s2} refl (leads {t = s3} refl (leads {t = s4} refl (leads {t = s5} refl (leads {t = s6} refl (leads {t = s7} refl (leads {t = s8} refl
    (leads e9 (leads e10 (leads {t = s11} refl (leads e12 (leads e13 (leads e14 (leads e15 (leads e16 (leads {t = s17} refl (there s17)))))))))))))))))

-- all of them
pub chain_run : IsChainRun
chain_run = all.is

-- and their steps
pub its_steps : AreItsSteps
its_steps = ap (λ (s : Chains). s.ledger.steps) chain_run
