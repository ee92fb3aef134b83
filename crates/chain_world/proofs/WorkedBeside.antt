-- The run of two leaders of one part, worked event by event.
use Rattle.chain_leader.specs.Leading.{Applies, on_item}
use Rattle.part_rules.specs.declared.applied.Applied.{Applied}
use Rattle.part_rules.specs.Worked.{tagged}
use Rattle.part_rules.specs.Part.{Part, blank}
use Rattle.chain_world.specs.WorkedRun.{posted, leader, nobody, one_more}
use Rattle.graph_model.proofs.SameLemmas.{answer_itself}
use Rattle.graph_model.specs.Same.{is_same_answer}
use Rattle.part_rules.specs.Folded.{folded}
use Rattle.part_rules.specs.View.{view}
use Rattle.std.proofs.Common.{◌≡◌, List, [], ◌∷◌, None, true, refl, ap, ◌∙◌}
use Rattle.std.specs.FinMap.{empty}
use Rattle.graph_model.specs.declared.answer.Answer.TheVariants as said
use Rattle.graph_model.specs.declared.found.Found.{Found}
use Rattle.part_keys.specs.declared.chain.Policy.TheVariants.{Forward}
use Rattle.part_keys.specs.declared.vid_kind.VidKind.TheVariants as kinds
use Rattle.part_keys.specs.declared.entry.PartEntry.TheVariants.{Vertex}
use Rattle.part_keys.specs.declared.proposal.Proposal.TheVariants.{Start, Made}
use Rattle.part_rules.proofs.Computing.{computing}
use Rattle.part_rules.specs.declared.applied.Applied.TheVariants as told
use Rattle.part_rules.specs.Machine as machines
use Rattle.chain_leader.specs.declared.letter.Letter.TheVariants.{Tell}
use Rattle.chain_leader.specs.declared.body.ChainBody.TheVariants as says
use Rattle.chain_world.specs.declared.packet.ChainEnd.TheVariants as ends
use Rattle.chain_world.specs.declared.event.ChainEvent.TheVariants as event
use Rattle.chain_world.specs.State.{start, packet_of}
use Rattle.chain_world.specs.World.{after, with_applied}
use Rattle.chain_world.specs.WorkedSeeing.{v1, v2, v3, v4, v5, v6, v7, v8, v9, v10, v11, v12, v13, events_before, events_behind, AreTwoLeaders, SeesNothingOld, SeesTheNew, writing, write, reading, query, shown, made}
use Rattle.chain_world.proofs.WorkedSteps.{Leads, leads, there}

e9 : after kinds.Num 2 v8 (event.Decide 2 2 1) ≡ v9
e9 = simp computing

-- the part behind the write
writes : machines.applied 2 3 (Vertex writing write) blank ≡ (tagged, told.Finished writing)
writes = simp computing

stands : folded 2 ((1, Start) ∷ (2, Start) ∷ (2, Made (Vertex writing write)) ∷ []) ≡ tagged
stands = ap (λ (r : Part × Applied). r.0) writes

-- the second leader applies it
tells : on_item 2 2 blank (record { ready = true; policy = Forward; table = empty }) 3 (2, Made (Vertex writing write))
    ≡ record { leading = record { ready = true; policy = Forward; table = empty }; answers = Tell writing said.Fine ∷ []; rules = [] }
tells = simp computing

e10 : after kinds.Num 2 v9 (event.Apply 2 2) ≡ v10
e10 = ap (λ (a : Applies). with_applied v9 2 2 (leader true empty 2 made (one_more nobody 1 None)) a None) tells

all_before : Leads start events_before v11
all_before = leads {t = v1} refl (leads {t = v2} refl (leads {t = v3} refl (leads {t = v4} refl (leads {t = v5} refl (leads {t = v6} refl (leads {t = v7} refl (leads {t = v8} refl
    (leads e9 (leads e10 (leads {t = v11} refl (there v11)))))))))))

pub two_leaders : AreTwoLeaders
two_leaders = all_before.is

pub nothing_old : SeesNothingOld
nothing_old = (refl, refl)

-- what the query finds behind the write
sees : view query tagged ≡ shown
sees = simp computing

finds : view query (folded 2 ((1, Start) ∷ (2, Start) ∷ (2, Made (Vertex writing write)) ∷ [])) ≡ shown
finds = ap (view query) stands ∙ sees

-- the read is answered
e12 : after kinds.Num 2 v11 (event.See 2 2 reading) ≡ v12
e12 = ap (λ (found : List Found). posted v11 (record { packet = packet_of (ends.Leader 2 2) (ends.Client 2) (says.Answer 1 (said.Shown found)); moment = 3 })) finds

-- the call ends
brought : is_same_answer (said.Shown shown) (said.Shown shown) ≡ true
brought = answer_itself (said.Shown shown)

e13 : after kinds.Num 2 v12 (event.Reply reading (said.Shown shown) 5) ≡ v13
e13 = refl

all_behind : Leads v11 events_behind v13
all_behind = leads {t = v11} refl (leads {t = v11} refl (leads e12 (leads e13 (there v13))))

pub sees_the_new : SeesTheNew
sees_the_new = all_behind.is
