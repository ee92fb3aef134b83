-- Who fences and gives up chains: leaders of policy Cancel alone.
use Rattle.std.specs.Prelude.{◌≡◌, ℕ, List, Some, true}
use Rattle.std.specs.FinMap.{get}
use Rattle.part_keys.specs.declared.chain.ChainState.{ChainState}
use Rattle.part_keys.specs.declared.chain.Policy.{Policy}
use Rattle.part_keys.specs.declared.chain.Policy.TheVariants.{Cancel}
use Rattle.part_keys.specs.declared.proposal.Proposal.TheVariants.{Made}
use Rattle.part_keys.specs.declared.entry.PartEntry.TheVariants.{Abort}
use Rattle.chain_leader.specs.Rules.{Table}
use Rattle.part_keys.specs.declared.vid_kind.VidKind.{VidKind}
use Rattle.chain_world.specs.declared.event.ChainEvent.{ChainEvent}
use Rattle.chain_world.specs.Places.{At, Among}
use Rattle.chain_world.specs.State.{Leader, Chains, decided_of}
use Rattle.chain_world.specs.World.{run}
use Rattle.chain_world.specs.Invariant.Protocol.{HasFenced, is_fence}

-- only with policy Cancel a chain is in mode Fence
abbrev pub FencesBy : Policy → Table → Type 0
FencesBy policy table = (v : ℕ) (row : ChainState) → get table v ≡ Some row → is_fence row.mode ≡ true → policy ≡ Cancel

-- of each leader: its table, and what it has fenced
pub record AreCancelling (s : Chains) : Type 0 where
  pub rows : (p t : ℕ) (l : Leader) → s.leaders p t ≡ Some l → FencesBy l.lead.policy l.lead.table
  pub fenced : (p t v : ℕ) (l : Leader) → s.leaders p t ≡ Some l → HasFenced s p t v → l.lead.policy ≡ Cancel

-- An Abort that is decided was proposed by a leader of policy Cancel.
abbrev pub CancelsByPolicy : Type 0
CancelsByPolicy = (ids : VidKind) (parts : ℕ) (events : List ChainEvent) (p i t v : ℕ) → At (decided_of (run ids parts events) p) i (t, Made (Abort v))
    → (l : Leader) × ((run ids parts events).leaders p t ≡ Some l) × (l.lead.policy ≡ Cancel) × Among (Made (Abort v)) l.made
