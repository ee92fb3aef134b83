-- A leader that is new, and a configuration that is proposed, as the world has it.
use Rattle.std.proofs.Common.{◌≡◌, ℕ, List, [], ◌∷◌, ◌++◌, Some, true, false, length, ap, ◌∙◌}
use Rattle.std.specs.Prelude.{◌&&◌, ◌==◌, if◌then◌else◌}
use Rattle.std.specs.FinMap.{get, empty, insert, remove, get-empty}
use Rattle.std.specs.Ordering.{nat_cmp}
use Rattle.std.proofs.lemmas.Bool.{and_from}
use Rattle.part_keys.specs.declared.chain.Policy.{Policy}
use Rattle.part_keys.specs.declared.proposal.Proposal.{Proposal}
use Rattle.part_keys.specs.declared.proposal.Proposal.TheVariants.{Start, Members}
use Rattle.part_keys.specs.declared.vid_kind.VidKind.{VidKind}
use Rattle.raft_log.specs.declared.config.Config.{Config}
use Rattle.chain_world.specs.declared.event.ChainEvent.TheVariants as event
use Rattle.chain_world.specs.Events.{is_part, may_lead, new_leader, with_made}
use Rattle.chain_world.specs.State.{with_leader, with_founded}
use Rattle.chain_world.specs.World.{after}
use Rattle.chain_run.specs.declared.chains.Chains.{Chains}
use Rattle.chain_run.specs.declared.leaders.Seated.{Seated}
use Rattle.chain_run.specs.Shows.{list_in, posted, leader_of, seat, leader_in, client_in, world_of}
use Rattle.chain_run.proofs.Keeping.{seated, seated_again}
use Rattle.chain_run.proofs.Happening.{happens, same_world, founded_on, proposed_on}

pub is_new : (n : Seated) (policy : Policy) (a : ℕ) → n.lead.ready ≡ false → n.lead.policy ≡ policy → n.lead.table.0 ≡ empty → n.applied ≡ a → n.made ≡ Start ∷ [] → n.senders ≡ empty → leader_of n ≡ new_leader policy a
is_new n policy a ready is table applied made senders = λ i. record {
  lead = record { ready = ready i; policy = is i; table = table i };
  applied = applied i;
  made = made i;
  senders = (ap (λ m (k : ℕ). get m k) senders ∙ (λ j (k : ℕ). get-empty nat_cmp k j)) i;
}

pub led : (ids : VidKind) (parts : ℕ) (c n : Chains) (p t : ℕ) (l : Seated) (policy : Policy) (a : ℕ) → is_part parts p ≡ true → may_lead (world_of c) p t a ≡ true → leader_of l ≡ new_leader policy a
    → n.steps ≡ c.steps → n.decided ≡ c.decided → n.founded ≡ c.founded → n.posts ≡ c.posts → n.callers ≡ c.callers → n.leaders ≡ insert c.leaders (seat p t) l
    → world_of n ≡ after ids parts (world_of c) (event.Lead p t policy a)
led ids parts c n p t l policy a part may is steps decided founded posts callers leaders =
    happens ids parts (world_of c) (event.Lead p t policy a) (world_of n) (and_from _ _ part may)
    (same_world n (with_leader (world_of c) p t (new_leader policy a)) steps (ap list_in decided) (ap list_in founded)
    (ap leader_in leaders ∙ seated c.leaders p t l ∙ (λ i (q u : ℕ). if (q == p) && (u == t) then Some (is i) else leader_in c.leaders q u))
    (ap posted posts) (ap client_in callers))

-- the first one
pub founded : (ids : VidKind) (parts : ℕ) (c n : Chains) (p t : ℕ) (part : is_part parts p ≡ true) (config copy : Config) → t ≡ 0 → list_in c.founded p ≡ [] → copy ≡ config
    → n.steps ≡ c.steps → n.decided ≡ c.decided → n.leaders ≡ c.leaders → n.posts ≡ c.posts → n.callers ≡ c.callers
    → list_in n.founded ≡ (λ (q : ℕ). if q == p then list_in c.founded p ++ Members copy ∷ [] else list_in c.founded q)
    → world_of n ≡ after ids parts (world_of c) (event.Members p t config)
founded ids parts c n p t part config copy first none is steps decided leaders posts callers made =
    founded_on ids parts (world_of c) p t part (world_of n) config first (ap (λ (made : List Proposal). length made == 0) none)
    (same_world n (with_founded (world_of c) p (Members config ∷ [])) steps (ap list_in decided)
    (made ∙ (λ i (q : ℕ). if q == p then none i ++ Members (is i) ∷ [] else list_in c.founded q))
    (ap leader_in leaders) (ap posted posts) (ap client_in callers))

-- a further one, by a leader
pub named : (ids : VidKind) (parts : ℕ) (c n : Chains) (p t : ℕ) (l made : Seated) (part : is_part parts p ≡ true) (there : get c.leaders (seat p t) ≡ Some l) (config : Config) → (t == 0) ≡ false → leader_of made ≡ with_made (leader_of l) (Members config ∷ [])
    → n.steps ≡ c.steps → n.decided ≡ c.decided → n.founded ≡ c.founded → n.posts ≡ c.posts → n.callers ≡ c.callers → n.leaders ≡ insert (remove c.leaders (seat p t)) (seat p t) made
    → world_of n ≡ after ids parts (world_of c) (event.Members p t config)
named ids parts c n p t l made part there config above is steps decided founded posts callers leaders =
    proposed_on ids parts c p t l part there (world_of n) config above
    (same_world n (with_leader (world_of c) p t (with_made (leader_of l) (Members config ∷ []))) steps (ap list_in decided) (ap list_in founded)
    (ap leader_in leaders ∙ seated_again c.leaders p t made ∙ (λ i (q u : ℕ). if (q == p) && (u == t) then Some (is i) else leader_in c.leaders q u))
    (ap posted posts) (ap client_in callers))
