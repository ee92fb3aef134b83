-- Who shows a chain before it is settled: a leader that was told that its client waits no longer.
use Rattle.std.specs.Prelude.{◌≡◌, ℕ, ◌≤◌, List, length, Some}
use Rattle.std.specs.FinMap.{get}
use Rattle.graph_model.specs.declared.call_id.CallId.{CallId}
use Rattle.part_keys.specs.declared.chain.ChainState.{ChainState}
use Rattle.part_keys.specs.declared.chain.PrimeRec.{PrimeRec}
use Rattle.part_keys.specs.declared.proposal.Proposal.{Proposal}
use Rattle.part_keys.specs.declared.proposal.Proposal.TheVariants.{Made}
use Rattle.part_keys.specs.declared.entry.PartEntry.TheVariants.{Double}
use Rattle.part_rules.specs.declared.applied.Applied.TheVariants as told
use Rattle.chain_leader.specs.Rules.{Table}
use Rattle.part_keys.specs.declared.vid_kind.VidKind.{VidKind}
use Rattle.chain_world.specs.declared.event.ChainEvent.{ChainEvent}
use Rattle.chain_world.specs.declared.event.ChainEvent.TheVariants as event
use Rattle.chain_world.specs.Places.{Among}
use Rattle.chain_world.specs.Invariant.Discipline.{WasAnswered}
use Rattle.chain_world.specs.State.{Leader, Chains, decided_of, made_by}
use Rattle.chain_world.specs.World.{run}
use Rattle.chain_world.specs.Invariant.Protocol.{StandsAt}

-- chain v of the part is of this call: so it is behind each front of the list behind which it stands
pub record IsOf (parts : ℕ) (decided : List (ℕ × Proposal)) (v : ℕ) (id : CallId) : Type 0 where
  pub within : v ≤ length decided
  pub its : (n : ℕ) (rec : PrimeRec) → n ≤ length decided → StandsAt parts decided n v rec → rec.id ≡ id

-- each row of a table is of its chain's call
abbrev pub RowsAre : (ℕ → CallId → Type 0) → Table → Type 0
RowsAre of table = (v : ℕ) (row : ChainState) → get table v ≡ Some row → of v row.id

-- each Double that was proposed is of a chain whose call was given up there; `given p t id` is what was given up so far
pub record AreDoubling (parts : ℕ) (s : Chains) (given : ℕ → ℕ → CallId → Type 0) : Type 0 where
  pub rows : (p t : ℕ) (l : Leader) → s.leaders p t ≡ Some l → RowsAre (IsOf parts (decided_of s p)) l.lead.table
  pub doubles : (p t v : ℕ) → Among (Made (Double v)) (made_by s p t) → (id : CallId) × IsOf parts (decided_of s p) v id × given p t id

-- Where a Double showed a call's chain, that call was given up at the leader of its term.
abbrev pub ShowsGivenUp : Type 0
ShowsGivenUp = (ids : VidKind) (parts : ℕ) (events : List ChainEvent) (p i t v : ℕ) (id : CallId) → WasAnswered parts (decided_of (run ids parts events) p) i t (Double v) (told.Doubled id) → Among (event.GiveUp p t id) events
