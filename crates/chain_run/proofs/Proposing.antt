-- What a leader proposes, as the world has it.
use Rattle.std.proofs.Common.{◌≡◌, ℕ, List, [], ◌∷◌, ◌++◌, Option, None, Some, Bool, true, false, cond, length, map, refl, ap, sym, ◌∙◌}
use Rattle.std.specs.Prelude.{◌==◌, if◌then◌else◌}
use Rattle.std.specs.FinMap.{get, insert, remove}
use Rattle.std.proofs.lemmas.List.{append-nil}
use Rattle.graph_model.specs.declared.call_id.CallId.{CallId}
use Rattle.part_keys.specs.declared.entry.PartEntry.{PartEntry}
use Rattle.part_keys.specs.declared.proposal.Proposal.TheVariants.{Made}
use Rattle.chain_leader.specs.Leader.{leads}
use Rattle.chain_leader.specs.Leading.{Leading, Taken, still, asking, given_up}
use Rattle.chain_leader.specs.Rules.{give_up}
use Rattle.chain_world.specs.declared.packet.ChainEnd.{ChainEnd}
use Rattle.chain_world.specs.Events.{sender_of, behind_taking, with_taken}
use Rattle.chain_world.specs.State.{Leader, posts_of}
use Rattle.chain_run.specs.declared.chains.Chains.{Chains}
use Rattle.chain_run.specs.declared.leaders.Seated.{Seated}
use Rattle.chain_run.specs.Shows.{posted, list_in, client_in, leader_of, seat, world_of}
use Rattle.chain_run.specs.Steps.{gave}
use Rattle.chain_run.proofs.Keeping.{sender_kept, sender_gone}
use Rattle.chain_run.proofs.Happening.{took}

module _ (l n : Seated) (lead : n.lead ≡ l.lead) (applied : n.applied ≡ l.applied) where
  proposed : (entries : List PartEntry) (sender : Option ChainEnd) → n.made ≡ l.made ++ map Made entries → get n.senders ≡ (λ (k : ℕ). if k == length l.made then sender_of entries sender else get l.senders k)
      → leader_of n ≡ behind_taking (leader_of l) (gave (leads l.lead) entries) sender
  proposed entries sender made senders = λ i. record { lead = leads (lead i); applied = applied i; made = made i; senders = senders i }

  -- nothing, so that no sender is kept
  pub proposed_none : (number : ℕ) (entries : List PartEntry) (sender : Option ChainEnd) → [] ≡ entries → number ≡ length l.made → n.made ≡ l.made → n.senders ≡ remove l.senders number
      → leader_of n ≡ behind_taking (leader_of l) (gave (leads l.lead) entries) sender
  proposed_none number entries sender are at made senders =
      proposed [] sender (made ∙ sym (append-nil l.made)) (ap get senders ∙ sender_gone l.senders number ∙ (λ i (k : ℕ). if k == at i then None else get l.senders k))
      ∙ (λ i. behind_taking (leader_of l) (gave (leads l.lead) (are i)) sender)

  -- an entry, with its sender
  pub proposed_from : (number : ℕ) (entry : PartEntry) (from : ChainEnd) (sender : Option ChainEnd) → Some from ≡ sender → number ≡ length l.made → n.made ≡ l.made ++ Made entry ∷ [] → n.senders ≡ insert l.senders number from
      → leader_of n ≡ behind_taking (leader_of l) (gave (leads l.lead) (entry ∷ [])) sender
  proposed_from number entry from sender is at made senders =
      proposed (entry ∷ []) (Some from) made (ap get senders ∙ sender_kept l.senders number from ∙ (λ i (k : ℕ). if k == at i then Some from else get l.senders k))
      ∙ (λ i. behind_taking (leader_of l) (gave (leads l.lead) (entry ∷ [])) (is i))

  -- an entry, with none
  pub proposed_alone : (number : ℕ) (entry : PartEntry) (sender : Option ChainEnd) → None ≡ sender → number ≡ length l.made → n.made ≡ l.made ++ Made entry ∷ [] → n.senders ≡ remove l.senders number
      → leader_of n ≡ behind_taking (leader_of l) (gave (leads l.lead) (entry ∷ [])) sender
  proposed_alone number entry sender is at made senders =
      proposed (entry ∷ []) None made (ap get senders ∙ sender_gone l.senders number ∙ (λ i (k : ℕ). if k == at i then None else get l.senders k))
      ∙ (λ i. behind_taking (leader_of l) (gave (leads l.lead) (entry ∷ [])) (is i))

-- what rules gave that send nothing, by what they take
pub behind_gave : (l : Leader) (leading : Leading) (entries : List PartEntry) (b : Taken) (s t : Option ChainEnd) → leading ≡ b.leading → entries ≡ b.proposals → s ≡ t → behind_taking l (gave leading entries) s ≡ behind_taking l b t
behind_gave l leading entries b s t leads proposes sends = λ i. record {
  lead = leads i;
  applied = l.applied;
  made = l.made ++ map Made (proposes i);
  senders = λ (n : ℕ). if n == length l.made then sender_of (proposes i) (sends i) else l.senders n;
}

silent_both : (b : Bool) (x y : Taken) → x.letters ≡ [] → y.letters ≡ [] → (cond b x y).letters ≡ []
silent_both true x y e f = e
silent_both false x y e f = f

-- a call that is given up sends nothing
silent : (l : Leading) (id : CallId) → (given_up l id).letters ≡ []
silent l id = silent_both l.ready (asking l (give_up l.table id)) (still l) refl refl

pub gave_it_up : (c n : Chains) (p t : ℕ) (l made : Seated) (id : CallId) → leader_of made ≡ behind_taking (leader_of l) (given_up (leads l.lead) id) None
    → n.steps ≡ c.steps → n.decided ≡ c.decided → n.founded ≡ c.founded → n.callers ≡ c.callers → n.leaders ≡ insert (remove c.leaders (seat p t)) (seat p t) made → n.posts ≡ c.posts
    → world_of n ≡ with_taken (world_of c) p t (leader_of l) (given_up (leads l.lead) id) None
gave_it_up c n p t l made id leading steps decided founded callers leaders posts =
    took c n p t made (behind_taking (leader_of l) (given_up (leads l.lead) id) None) (posts_of p t None (given_up (leads l.lead) id).letters)
    steps (ap list_in decided) (ap list_in founded) (ap client_in callers) leaders leading
    (ap posted posts ∙ sym ((λ i. posted c.posts ++ posts_of p t None (silent (leads l.lead) id i)) ∙ append-nil (posted c.posts)))
