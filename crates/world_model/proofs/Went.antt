-- What an event at one part's replica makes of the world of chains.
use Rattle.std.proofs.Common.{◌≡◌, ◌≢◌, ◌⊎◌, ℕ, List, [], true, false, refl, sym, subst}
use Rattle.std.specs.List.{AllByRecursion}
use Rattle.raft_log.specs.declared.entry.Item.{Item}
use Rattle.raft_log.specs.Decided.{Leadership}
use Rattle.raft_core.specs.Core.{Core, is_leading}
use Rattle.raft_group.specs.Group.{Group}
use Rattle.chain_world.specs.declared.event.ChainEvent.{ChainEvent}
use Rattle.chain_world.specs.Ledger.{Ledger}
use Rattle.chain_world.specs.State.{Chains, Post as ChainPost}
use Rattle.chain_world.specs.World.{is_part, run_from}
use Rattle.replica_model.specs.declared.input.Tick.{Tick}
use Rattle.world_model.specs.State.{Space}
use Rattle.world_model.specs.Grouped.{Has}
use Rattle.world_model.specs.Chained.{HasMade, HasLeaders, HasNoOther}
use Rattle.world_model.proofs.Backed.{Backed}

-- Some events of the chains, at the leader alone of the term that this peer leads, where it leads.
pub record Went (sp : Space) (told : ℕ → Tick → Type 0) (p : ℕ) (c : Chains) (h : Group) (ledger : Ledger) (core : Core) : Type 0 where
  pub events : List ChainEvent
  pub chains : Chains
  pub is : run_from sp.ids sp.parts c events ≡ chains
  pub backed : AllByRecursion (Backed told) events
  pub ledger_is : chains.ledger ≡ ledger
  pub founded : chains.founded ≡ c.founded
  pub clients : chains.clients ≡ c.clients
  pub others : (q u : ℕ) → (q ≢ p) ⊎ ((u ≢ core.term) ⊎ (is_leading core.role ≡ false)) → chains.leaders q u ≡ c.leaders q u
  pub posts : (x : ChainPost) → Has c.posts x → Has chains.posts x
  pub made : is_part sp.parts p ≡ true → HasMade sp chains p h.leaders
  pub led : is_part sp.parts p ≡ true → HasLeaders chains p h.leaders
  pub unled : HasNoOther chains p h.leaders

-- none at all
abbrev pub went_nowhere : (sp : Space) (told : ℕ → Tick → Type 0) (p : ℕ) (c : Chains) (g h : Group) (ledger : Ledger) (core : Core) → h.leaders ≡ g.leaders → c.ledger ≡ ledger
    → (is_part sp.parts p ≡ true → HasMade sp c p g.leaders) → (is_part sp.parts p ≡ true → HasLeaders c p g.leaders) → HasNoOther c p g.leaders → Went sp told p c h ledger core
went_nowhere sp told p c g h ledger core same listed made led unled = record {
  events = [];
  chains = c;
  is = refl;
  backed = tt;
  ledger_is = listed;
  founded = refl;
  clients = refl;
  others = λ q u other. refl;
  posts = λ x has. has;
  made = λ part. subst (λ (xs : List (Leadership Item)). HasMade sp c p xs) (sym same) (made part);
  led = λ part. subst (λ (xs : List (Leadership Item)). HasLeaders c p xs) (sym same) (led part);
  unled = subst (λ (xs : List (Leadership Item)). HasNoOther c p xs) (sym same) unled;
}
