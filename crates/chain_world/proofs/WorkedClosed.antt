-- The run of a chain that is doubled and closed, worked event by event.
use Rattle.std.proofs.Common.{◌≡◌, List, [], ◌∷◌, ◌++◌, None, Some, true, false, refl, ◌∙◌, ap}
use Rattle.std.specs.FinMap.{empty, insert, remove}
use Rattle.graph_model.specs.declared.answer.Answer.TheVariants as said
use Rattle.graph_model.specs.declared.graph_step.GStep.TheVariants as step
use Rattle.part_keys.specs.declared.chain.Policy.TheVariants.{Forward}
use Rattle.part_keys.specs.declared.entry.PartEntry.TheVariants.{Prime, Double, Close, Remote}
use Rattle.part_keys.specs.declared.proposal.Proposal.{Proposal}
use Rattle.part_keys.specs.declared.proposal.Proposal.TheVariants.{Start, Made}
use Rattle.part_keys.specs.declared.vid_kind.VidKind.TheVariants as kinds
use Rattle.part_rules.specs.declared.applied.Applied.{Applied}
use Rattle.part_rules.specs.declared.applied.Applied.TheVariants as told
use Rattle.part_rules.specs.declared.kept.Outcome.TheVariants as kept
use Rattle.part_rules.specs.Part.{Part, blank}
use Rattle.part_rules.specs.Machine as machines
use Rattle.part_rules.specs.Machine.{writes}
use Rattle.part_rules.specs.Folded.{folded}
use Rattle.part_rules.specs.Worked.{both, edge_to, row, last}
use Rattle.part_rules.proofs.Computing.{computing}
use Rattle.chain_leader.specs.declared.body.ChainBody.TheVariants as says
use Rattle.chain_leader.specs.declared.letter.Letter.TheVariants.{Tell, Cross, Back}
use Rattle.chain_leader.specs.Rules.{Table}
use Rattle.chain_leader.specs.Leading.{Leading, Taken, Applies, taken, on_item, given_up}
use Rattle.chain_world.specs.declared.packet.ChainEnd.TheVariants as ends
use Rattle.chain_world.specs.declared.event.ChainEvent.TheVariants as event
use Rattle.chain_world.specs.Ledger.{remote_steps, ended_steps}
use Rattle.chain_world.specs.State.{Chains, machine_behind}
use Rattle.chain_world.specs.World.{after, with_applied, with_taken}
use Rattle.chain_world.specs.WorkedRun.{id, leader, decided, nobody, one_more, table, made, begun, s10}
use Rattle.chain_world.specs.WorkedDouble.{doubling, double_made, two_none, primed_list, doubled_list, pending, led_list, found, one_none, remote_made, next_leader, closing, close_made, caught_up, d1, d2, d3, d4, d5, d6, d7, d8, d9, d10, d11, d12, d13, d14, double_events, IsDoubleRun, AreClosed}
use Rattle.chain_world.proofs.WorkedSteps.{rec, primed, prime, Leads, leads, there}

-- a ready leader of policy Forward
abbrev led : Table → Leading
led t = record { ready = true; policy = Forward; table = t }

-- part 2 with the chain, and behind its Double
stands : folded 2 primed_list ≡ primed
stands = ap (λ (r : Part × Applied). r.0) prime

abbrev doubled : Part
doubled = record primed { out = insert (insert empty (edge_to 4) (row 91)) (edge_to 2) (row 90); chains = insert primed.chains 2 (record rec { double = true }); clients = insert primed.clients 1 (last 1 kept.Pending) }

double : machines.applied 2 3 (Double 2) primed ≡ (doubled, told.Doubled id)
double = simp computing

stands_double : folded 2 doubled_list ≡ doubled
stands_double = ap (λ (r : Part × Applied). (machines.applied 2 3 (Double 2) r.0).0) prime ∙ ap (λ (r : Part × Applied). r.0) double

-- the call is given up
gives_up : given_up (led table) id ≡ record { leading = led doubling; proposals = Double 2 ∷ []; letters = [] }
gives_up = simp computing

-- the steps of the Double, and what its leader makes of it
shows : ended_steps (machines.applied 2 3 (Double 2) (folded 2 primed_list)).1 ≡ step.OutHalf id ∷ []
shows = ap (λ p. ended_steps (machines.applied 2 3 (Double 2) p).1) stands ∙ ap (λ (r : Part × Applied). ended_steps r.1) double

tells_pending : on_item 2 1 primed (led doubling) 3 (1, Made (Double 2)) ≡ record { leading = led doubling; answers = Tell id said.Pending ∷ []; rules = [] }
tells_pending = simp computing

-- the next leader takes up the chain
takes_up : taken kinds.Num 2 2 2 doubled (led empty) (says.Resume 2 None) 2 ≡ record { leading = led found; proposals = []; letters = Cross 1 0 (says.Remote 2 2 both) ∷ [] }
takes_up = simp computing

-- the Remote writes, and is Done
writes_both : writes (Remote 2 2 2 both) blank ≡ true
writes_both = simp computing

answers : on_item 2 1 blank (led empty) 2 (1, Made (Remote 2 2 2 both)) ≡ record { leading = led empty; answers = Back (says.Done 2 2) ∷ []; rules = [] }
answers = simp computing

-- the Done asks for the Close
asks : (m : Part) → taken kinds.Num 2 2 2 m (led found) (says.Done 2 2) 1 ≡ record { leading = led closing; proposals = Close 2 ∷ []; letters = [] }
asks m = simp computing

-- the Close, its steps, and what its leader makes of it
close : (machines.applied 2 5 (Close 2) doubled).1 ≡ told.Closed id
close = simp computing

settles : ended_steps (machines.applied 2 5 (Close 2) (folded 2 led_list)).1 ≡ step.Settle id ∷ []
settles = ap (λ p. ended_steps (machines.applied 2 5 (Close 2) p).1) stands_double ∙ ap ended_steps close

tells_fine : on_item 2 2 doubled (led closing) 5 (2, Made (Close 2)) ≡ record { leading = led (remove closing 2); answers = Tell id said.Fine ∷ []; rules = [] }
tells_fine = simp computing

g1 : after kinds.Num 2 s10 (event.GiveUp 2 1 id) ≡ d1
g1 = ap (λ (t : Taken). with_taken s10 2 1 (leader true table 2 (Start ∷ Made (Prime id both false) ∷ []) (one_more nobody 1 None)) t None) gives_up

g2 : after kinds.Num 2 d1 (event.Decide 2 1 2) ≡ d2
g2 = ap (λ more. decided d1 (begun ++ more) 2 doubled_list) shows

g3 : after kinds.Num 2 d2 (event.Apply 2 1) ≡ d3
g3 = ap (λ (a : Applies). with_applied d2 2 1 (leader true doubling 2 double_made two_none) a None)
    (ap (λ p. on_item 2 1 p (led doubling) 3 (1, Made (Double 2))) stands ∙ tells_pending)

g8 : after kinds.Num 2 d7 (event.Take 2 2 5) ≡ d8
g8 = ap (λ (t : Taken). with_taken d7 2 2 (leader true empty 4 (Start ∷ []) nobody) t None) (ap (λ p. taken kinds.Num 2 2 2 p (led empty) (says.Resume 2 None) 2) stands_double ∙ takes_up)

g10 : after kinds.Num 2 d9 (event.Decide 1 1 1) ≡ d10
g10 = ap (λ wrote. decided d9 (pending ++ remote_steps wrote (Some id)) 1 ((1, Start) ∷ (1, Made (Remote 2 2 2 both)) ∷ [])) writes_both

g11 : after kinds.Num 2 d10 (event.Apply 1 1) ≡ d11
g11 = ap (λ (a : Applies). with_applied d10 1 1 (leader true empty 1 remote_made next_leader) a (Some (ends.Leader 2 2))) answers

g12 : after kinds.Num 2 d11 (event.Take 2 2 7) ≡ d12
g12 = ap (λ (t : Taken). with_taken d11 2 2 (leader true found 4 (Start ∷ []) one_none) t None) (asks (machine_behind 2 d11 2 4))

g13 : after kinds.Num 2 d12 (event.Decide 2 2 1) ≡ d13
g13 = ap (λ more. decided d12 (caught_up ++ more) 2 (led_list ++ (2, Made (Close 2)) ∷ [])) settles

g14 : after kinds.Num 2 d13 (event.Apply 2 2) ≡ d14
g14 = ap (λ (a : Applies). with_applied d13 2 2 (leader true closing 4 close_made (one_more one_none 1 None)) a None)
    (ap (λ p. on_item 2 2 p (led closing) 5 (2, Made (Close 2))) stands_double ∙ tells_fine)

all : Leads s10 double_events d14
all = leads g1 (leads g2 (leads g3 (leads {t = d4} refl (leads {t = d5} refl (leads {t = d6} refl (leads {t = d7} refl (leads g8 (leads {t = d9} refl
    (leads g10 (leads g11 (leads g12 (leads g13 (leads g14 (there d14))))))))))))))

pub double_run : IsDoubleRun
double_run = all.is

pub its_steps : AreClosed
its_steps = ap (λ (s : Chains). s.ledger.steps) double_run
