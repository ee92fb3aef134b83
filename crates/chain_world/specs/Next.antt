-- Decide in the words of leaderships: what stands in a part's list are its leaders' entries, in order, none left out.
use Rattle.std.specs.Prelude.{◌≡◌, ◌↔◌, ℕ, List, Some, true, slice_get}
use Rattle.raft_log.specs.Decided.{Leadership, made_in, IsNext}
use Rattle.part_keys.specs.declared.proposal.Proposal.{Proposal}
use Rattle.part_keys.specs.declared.vid_kind.VidKind.{VidKind}
use Rattle.chain_world.specs.State.{Chains, decided_of, made_by}
use Rattle.chain_world.specs.declared.event.ChainEvent.TheVariants as event
use Rattle.chain_world.specs.World.{is_part, rule}

-- these leaderships made what the leaders of part p proposed
abbrev pub HaveMade : Chains → ℕ → List (Leadership Proposal) → Type 0
HaveMade s p leaders = (t : ℕ) → made_in leaders t ≡ made_by s p t

-- An event Decide of the proposal n of term t, which is x, is lawful exactly where x is the next entry.
abbrev pub DecidesNext : Type 0
DecidesNext = (ids : VidKind) (parts : ℕ) (s : Chains) (p : ℕ) (leaders : List (Leadership Proposal)) → is_part parts p ≡ true → HaveMade s p leaders → (t : ℕ) (x : Proposal)
    → ((n : ℕ) × ((rule ids parts s (event.Decide p t n)).lawful ≡ true) × (slice_get (made_by s p t) n ≡ Some x)) ↔ IsNext leaders (decided_of s p) (t, x)
