-- That the rules name their chains.
use Rattle.std.specs.Prelude.{◌≡◌, ◌⊎◌, ℕ, List, [], ◌∷◌, Option, None, Some, Bool, false}
use Rattle.std.specs.FinMap.{get}
use Rattle.graph_model.specs.declared.call_id.CallId.{CallId}
use Rattle.graph_model.specs.declared.edge_id.EdgeId.{EdgeId}
use Rattle.graph_model.specs.declared.half.Half.{Half}
use Rattle.graph_model.specs.Ops.{edges_in}
use Rattle.part_keys.specs.declared.chain.PrimeRec.{PrimeRec}
use Rattle.part_keys.specs.declared.chain.ChainState.{ChainState}
use Rattle.part_keys.specs.declared.chain.Mode.{Mode}
use Rattle.part_keys.specs.declared.chain.Mode.TheVariants.{Put}
use Rattle.part_keys.specs.declared.chain.Policy.{Policy}
use Rattle.part_keys.specs.declared.entry.PartEntry.{PartEntry}
use Rattle.part_keys.specs.declared.entry.PartEntry.TheVariants.{Double}
use Rattle.chain_leader.specs.declared.body.ChainBody.TheVariants as says
use Rattle.chain_leader.specs.declared.letter.Letter.{Letter}
use Rattle.chain_leader.specs.declared.letter.Letter.TheVariants.{Cross}
use Rattle.chain_leader.specs.Rules.{Table, on_primed, ending_done, on_remote, give_up, resume, ending_fenced, on_fence}
use Rattle.chain_leader.specs.Leading.{sends}

-- an entry that ends a chain: the chain is in the table, nothing was asked of it, and its mode asks for this entry
pub record Ends (t : Table) (v : ℕ) (ending : Mode → Option PartEntry) (x : PartEntry) : Type 0 where
  pub chain : ChainState
  pub there : get t v ≡ Some chain
  pub unasked : chain.asked ≡ false
  pub is : ending chain.mode ≡ Some x

-- an entry that doubles a chain: the chain is in the table, is that call's, in mode Put, and nothing was asked of it
pub record Doubles (t : Table) (id : CallId) (x : PartEntry) : Type 0 where
  pub v : ℕ
  pub chain : ChainState
  pub there : get t v ≡ Some chain
  pub its : chain.id ≡ id
  pub put : chain.mode ≡ Put
  pub unasked : chain.asked ≡ false
  pub is : x ≡ Double v

-- one letter leaves, to the chain's remote part: its Remote with its list, or its Fence with its edges
pub record Crosses (term v remote : ℕ) (list : List (EdgeId × Half)) (letters : List Letter) : Type 0 where
  pub tries : ℕ
  pub is : (letters ≡ Cross remote tries (says.Remote term v list) ∷ []) ⊎ (letters ≡ Cross remote tries (says.Fence term v (edges_in list)) ∷ [])

-- a chain that is taken up is as the table has it, or where it isn't there as its record has it
abbrev pub CrossesBy : ℕ → PrimeRec → Option ChainState → List Letter → Type 0
CrossesBy term rec None letters = Crosses term rec.v rec.remote rec.list letters
CrossesBy term rec (Some chain) letters = Crosses term rec.v chain.remote chain.list letters

-- what the rules propose and send
pub record NameTheirChains (t : Table) : Type 0 where
  pub done : (v : ℕ) (x : PartEntry) → (on_remote t v).1 ≡ Some x → Ends t v (ending_done v) x
  pub fenced : (v : ℕ) (written : Bool) (x : PartEntry) → (on_fence t v written).1 ≡ Some x → Ends t v (ending_fenced v written) x
  pub given_up : (id : CallId) (x : PartEntry) → (give_up t id).1 ≡ Some x → Doubles t id x
  pub primed : (term : ℕ) (rec : PrimeRec) → Crosses term rec.v rec.remote rec.list (sends term (on_primed t rec)).letters
  pub resumed : (term : ℕ) (rec : PrimeRec) (policy : Policy) → CrossesBy term rec (get t rec.v) (sends term (resume t rec policy)).letters
