-- What the laws of the rules say.
use Rattle.std.specs.Prelude.{◌≡◌, ℕ, List, map, Bool}
use Rattle.std.specs.Option.{option_map}
use Rattle.std.specs.FinMap.{get}
use Rattle.graph_model.specs.declared.call_id.CallId.{CallId}
use Rattle.part_keys.specs.declared.chain.PrimeRec.{PrimeRec}
use Rattle.part_keys.specs.declared.chain.ChainState.{ChainState}
use Rattle.part_keys.specs.declared.chain.Policy.{Policy}
use Rattle.part_keys.specs.declared.proposal.Proposal.{Proposal}
use Rattle.part_keys.specs.declared.vid_kind.VidKind.{VidKind}
use Rattle.part_rules.specs.Part.{Part}
use Rattle.chain_leader.specs.declared.body.ChainBody.{ChainBody}
use Rattle.chain_leader.specs.declared.letter.Letter.{Letter}
use Rattle.chain_leader.specs.declared.letter.Letter.TheVariants.{Cross}
use Rattle.chain_leader.specs.Rules.{Table, on_primed, on_remote, give_up, resume, on_fence, forget}
use Rattle.chain_leader.specs.Leading.{Leading, Taken, Applies, taken, on_item, given_up, pulsed}

-- Blind to routes. No rule looks at how often a chain was taken up, or at the hint that its row keeps for whoever sends.
-- A chain without both
abbrev pub bare : ChainState → ChainState
bare chain = record chain { tries = 0; hint = 0 }

-- tables agree but in tries and hints
pub record SameChains (t u : Table) : Type 0 where
  pub at : (v : ℕ) → option_map bare (get t v) ≡ option_map bare (get u v)

-- a rule of two tables: the same answer, and tables that agree again
pub record SameMade {A : Type 0} (made other : Table × A) : Type 0 where
  pub tables : SameChains made.0 other.0
  pub answer : made.1 ≡ other.1

-- the rules, of two tables
pub record AreBlind (t u : Table) : Type 0 where
  pub primed : (rec : PrimeRec) → SameMade (on_primed t rec) (on_primed u rec)
  pub remote : (v : ℕ) → SameMade (on_remote t v) (on_remote u v)
  pub given_up : (id : CallId) → SameMade (give_up t id) (give_up u id)
  pub resumed : (rec : PrimeRec) (policy : Policy) → SameMade (resume t rec policy) (resume u rec policy)
  pub fenced : (v : ℕ) (written : Bool) → SameMade (on_fence t v written) (on_fence u v written)
  pub forgotten : (v : ℕ) → SameChains (forget t v) (forget u v)

-- leaders that agree but in tries and hints
pub record SameLeading (l m : Leading) : Type 0 where
  pub ready : l.ready ≡ m.ready
  pub policy : l.policy ≡ m.policy
  pub tables : SameChains l.table m.table

-- a letter without its tries
abbrev pub unrouted : Letter → Letter
unrouted (Cross part tries body) = Cross part 0 body
unrouted other = other

-- the same letters but for tries
abbrev pub SameLetters : List Letter → List Letter → Type 0
SameLetters letters others = map unrouted letters ≡ map unrouted others

-- what two leaders make of the same packet or tick
pub record SameTaken (made other : Taken) : Type 0 where
  pub leading : SameLeading made.leading other.leading
  pub proposals : made.proposals ≡ other.proposals
  pub letters : SameLetters made.letters other.letters

-- what they make of the same entry
pub record SameApplies (made other : Applies) : Type 0 where
  pub leading : SameLeading made.leading other.leading
  pub answers : SameLetters made.answers other.answers
  pub rules : SameLetters made.rules other.rules

-- what two leaders of one part and term do
pub record LeadAlike (l m : Leading) : Type 0 where
  pub taken : (ids : VidKind) (parts part term : ℕ) (machine : Part) (body : ChainBody) (from : ℕ) → SameTaken (taken ids parts part term machine l body from) (taken ids parts part term machine m body from)
  pub applied : (parts term : ℕ) (machine : Part) (index : ℕ) (d : ℕ × Proposal) → SameApplies (on_item parts term machine l index d) (on_item parts term machine m index d)
  pub given_up : (id : CallId) → SameTaken (given_up l id) (given_up m id)
  pub pulsed : SameLetters (pulsed l) (pulsed m)
