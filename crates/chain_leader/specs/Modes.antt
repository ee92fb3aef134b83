-- That a chain is put or fenced for as long as a leader knows it, and that a leader that isn't ready sends for no chain.
use Rattle.std.specs.Prelude.{◌≡◌, ℕ, [], ◌∷◌, None, Some, Bool, true, false}
use Rattle.std.specs.List.{AllByRecursion}
use Rattle.std.specs.FinMap.{get}
use Rattle.graph_model.specs.declared.call_id.CallId.{CallId}
use Rattle.part_keys.specs.declared.chain.PrimeRec.{PrimeRec}
use Rattle.part_keys.specs.declared.chain.ChainState.{ChainState}
use Rattle.part_keys.specs.declared.chain.Mode.{Mode}
use Rattle.part_keys.specs.declared.chain.Mode.TheVariants.{Fence}
use Rattle.part_keys.specs.declared.chain.Policy.{Policy}
use Rattle.part_keys.specs.declared.entry.PartEntry.{PartEntry}
use Rattle.part_keys.specs.declared.entry.PartEntry.TheVariants.{Close, Abort}
use Rattle.part_keys.specs.declared.proposal.Proposal.{Proposal}
use Rattle.part_keys.specs.declared.vid_kind.VidKind.{VidKind}
use Rattle.part_rules.specs.Part.{Part}
use Rattle.chain_leader.specs.declared.body.ChainBody.{ChainBody}
use Rattle.chain_leader.specs.declared.letter.Letter.{Letter}
use Rattle.chain_leader.specs.declared.letter.Letter.TheVariants.{Cross}
use Rattle.chain_leader.specs.Rules.{Table, message, on_primed, on_remote, give_up, resume, on_fence, forget}
use Rattle.chain_leader.specs.Leading.{Leading, Ruled, still, body_of, sends, taken, on_item, given_up, pulsed}

-- a chain is fenced, or it is put: in mode Put or Doubled
abbrev pub is_fenced : Mode → Bool
is_fenced Fence = true
is_fenced other = false

-- a chain that both tables have is fenced in both, or in none
pub record KeepModes (t u : Table) : Type 0 where
  pub at : (v : ℕ) (c d : ChainState) → get t v ≡ Some c → get u v ≡ Some d → is_fenced c.mode ≡ is_fenced d.mode

-- one letter leaves: what the mode in the table behind the rule asks for, a Fence of a chain that is fenced and a Remote of
-- any other
pub record GoesByMode (term v : ℕ) (made : Ruled) : Type 0 where
  pub chain : ChainState
  pub there : get made.table v ≡ Some chain
  pub is : made.letters ≡ Cross chain.remote chain.tries (body_of term chain (message chain.mode v)) ∷ []

-- an Abort is asked for of a chain that is fenced alone; a Close of one that isn't
abbrev pub AsksByMode : Table → ℕ → PartEntry → Type 0
AsksByMode t v (Abort w) = (c : ChainState) → get t v ≡ Some c → is_fenced c.mode ≡ true
AsksByMode t v (Close w) = (c : ChainState) → get t v ≡ Some c → is_fenced c.mode ≡ false
AsksByMode t v other = Unit {0}

-- One mode: no rule turns a chain that is put into one that is fenced, or back, and each letter and each entry is that of
-- the chain's mode
pub record OneMode (t : Table) : Type 0 where
  pub primed : (rec : PrimeRec) → get t rec.v ≡ None → KeepModes t (on_primed t rec).0
  pub remote : (v : ℕ) → KeepModes t (on_remote t v).0
  pub given_up : (id : CallId) → KeepModes t (give_up t id).0
  pub resumed : (rec : PrimeRec) (policy : Policy) → KeepModes t (resume t rec policy).0
  pub fenced : (v : ℕ) (written : Bool) → KeepModes t (on_fence t v written).0
  pub forgotten : (v : ℕ) → KeepModes t (forget t v)
  pub primed_goes : (term : ℕ) (rec : PrimeRec) → GoesByMode term rec.v (sends term (on_primed t rec))
  pub resumed_goes : (term : ℕ) (rec : PrimeRec) (policy : Policy) → GoesByMode term rec.v (sends term (resume t rec policy))
  pub remote_asks : (v : ℕ) (x : PartEntry) → (on_remote t v).1 ≡ Some x → AsksByMode t v x
  pub fence_asks : (v : ℕ) (written : Bool) (x : PartEntry) → (on_fence t v written).1 ≡ Some x → AsksByMode t v x

-- a letter for a chain
abbrev pub is_for_chain : Letter → Bool
is_for_chain (Cross part tries body) = true
is_for_chain other = false

-- Only a ready leader sends: one that isn't takes no rule, and no letter of it is for a chain
pub record IsSilent (l : Leading) : Type 0 where
  pub by_packet : (ids : VidKind) (parts part term : ℕ) (machine : Part) (body : ChainBody) (from : ℕ) → (taken ids parts part term machine l body from).letters ≡ []
  pub as_it_was : (ids : VidKind) (parts part term : ℕ) (machine : Part) (body : ChainBody) (from : ℕ) → (taken ids parts part term machine l body from).leading ≡ l
  pub by_call : (id : CallId) → given_up l id ≡ still l
  pub by_pulse : pulsed l ≡ []
  pub by_item : (parts term : ℕ) (machine : Part) (index : ℕ) (d : ℕ × Proposal) → AllByRecursion (λ (letter : Letter). is_for_chain letter ≡ false) (on_item parts term machine l index d).rules

abbrev pub OnlyReadySend : Type 0
OnlyReadySend = (l : Leading) → l.ready ≡ false → IsSilent l
