-- What a leader takes of a packet, as the world has it.
use Rattle.std.proofs.Common.{◌≡◌, ℕ, List, [], ◌++◌, Option, None, Bool, true, false, cond, length, map, take, refl, ap, ◌∙◌}
use Rattle.std.specs.Prelude.{◌&&◌, ◌==◌, nat_lt}
use Rattle.std.specs.FinMap.{FinMap, entries, insert, remove}
use Rattle.std.specs.List.{filter}
use Rattle.std.specs.Option.{unwrap_or}
use Rattle.std.specs.Ordering.{nat_cmp}
use Rattle.std.proofs.lemmas.List.{length-map, take-map}
use Rattle.part_keys.specs.declared.chain.PrimeRec.{PrimeRec}
use Rattle.part_keys.specs.declared.proposal.Proposal.{Proposal}
use Rattle.part_keys.specs.declared.vid_kind.VidKind.{VidKind}
use Rattle.part_rules.specs.Part.{Part}
use Rattle.part_rules.specs.Folded.{folded}
use Rattle.part_rules.specs.View.{chains_behind}
use Rattle.part_rules.proofs.FoldsNamed.{named_by_prime}
use Rattle.part_fold.specs.Standing.{rec_of, is_behind}
use Rattle.chain_leader.specs.declared.body.ChainBody.TheVariants as says
use Rattle.chain_leader.specs.declared.letter.Letter.{Letter}
use Rattle.chain_leader.specs.Leader.{leads}
use Rattle.chain_leader.specs.Leading.{Leading, Taken, still, resuming, standing_behind, taken}
use Rattle.chain_leader.specs.Resuming.{AreStanding}
use Rattle.chain_world.specs.declared.packet.ChainEnd.{ChainEnd}
use Rattle.chain_world.specs.declared.packet.ChainPacket.{ChainPacket}
use Rattle.chain_world.specs.Events.{behind_taking, part_from, kept_sender, taking}
use Rattle.chain_world.specs.State.{posts_of}
use Rattle.chain_run.specs.declared.chains.Chains.{Chains}
use Rattle.chain_run.specs.declared.leaders.Seated.{Seated}
use Rattle.chain_run.specs.Shows.{list_in, posted, leader_of, seat, client_in, world_of}
use Rattle.chain_run.proofs.Happening.{took}

none_either : (b : Bool) (x y : Taken) → x.proposals ≡ [] → y.proposals ≡ [] → (cond b x y).proposals ≡ []
none_either true x y e f = e
none_either false x y e f = f

-- a Resume proposes nothing
pub resume_proposes : (ids : VidKind) (parts part term : ℕ) (machine : Part) (l : Leading) (of : ℕ) (behind : Option ℕ) (from : ℕ) → (taken ids parts part term machine l (says.Resume of behind) from).proposals ≡ []
resume_proposes ids parts part term machine l of behind from = none_either (l.ready && (of == term)) (resuming term l (standing_behind machine behind)) (still l) refl refl

-- the chains that are taken up
pub are_standing : (parts : ℕ) (items : List (ℕ × Proposal)) (after : Option ℕ) (chains : FinMap nat_cmp PrimeRec) (all standing : List PrimeRec) (more : Bool)
    → chains ≡ (folded parts items).chains → all ≡ map rec_of (filter (is_behind (unwrap_or after 0)) (entries chains)) → standing ≡ take 64 all → more ≡ nat_lt 64 (length all)
    → AreStanding (folded parts items) after standing more
are_standing parts items after chains all standing more same is first further =
    let behind : List (ℕ × PrimeRec) = chains_behind (unwrap_or after 0) (folded parts items) in
    let here : all ≡ map rec_of behind = is ∙ ap (λ (m : FinMap nat_cmp PrimeRec). map rec_of (filter (is_behind (unwrap_or after 0)) (entries m))) same in
    record {
      named = λ v rec there. (named_by_prime parts items v rec there).named;
      first = first ∙ ap (take 64) here ∙ take-map rec_of 64 behind;
      further = further ∙ ap (λ l. nat_lt 64 (length l)) here ∙ ap (nat_lt 64) (length-map behind rec_of);
    }

-- a leader is there behind a packet, and its letters have left
module _ (ids : VidKind) (parts : ℕ) (c n : Chains) (p t : ℕ) (l made : Seated) (packet : ChainPacket) (items : List (ℕ × Proposal)) (letters : List Letter) (front : items ≡ take l.applied (list_in c.decided p)) where
  abbrev takes : List (ℕ × Proposal) → Taken
  takes is = taken ids parts p t (folded parts is) (leads l.lead) packet.body (part_from packet.from)

  abbrev sender : Option ChainEnd
  sender = kept_sender packet.from packet.body

  pub packet_taken : leader_of made ≡ behind_taking (leader_of l) (takes items) sender → letters ≡ (takes items).letters
      → n.steps ≡ c.steps → n.decided ≡ c.decided → n.founded ≡ c.founded → n.callers ≡ c.callers → n.leaders ≡ insert (remove c.leaders (seat p t)) (seat p t) made
      → posted n.posts ≡ posted c.posts ++ posts_of p t None letters
      → world_of n ≡ taking ids parts (world_of c) p t (leader_of l) packet
  packet_taken leading said steps decided founded callers leaders posts =
      let here : List (ℕ × Proposal) = take l.applied (list_in c.decided p) in
      took c n p t made (behind_taking (leader_of l) (takes here) sender) (posts_of p t None (takes here).letters)
      steps (ap list_in decided) (ap list_in founded) (ap client_in callers) leaders
      (leading ∙ ap (λ is. behind_taking (leader_of l) (takes is) sender) front)
      (posts ∙ ap (λ ls. posted c.posts ++ posts_of p t None ls) (said ∙ ap (λ is. (takes is).letters) front))
