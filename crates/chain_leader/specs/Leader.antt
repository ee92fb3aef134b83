-- A leader, as the program keeps it.
use Rattle.chain_leader.specs.declared.leader.Leader.{Leader}
use Rattle.chain_leader.specs.Leading.{Leading}
use Rattle.std.specs.Prelude.{◌≡◌, ℕ, Bool, true, false, List, Option, None, Some}
use Rattle.std.specs.FinMap.{contains_key, get}
use Rattle.graph_model.specs.declared.edge_id.EdgeId.{EdgeId}
use Rattle.graph_model.specs.declared.half.Half.{Half}
use Rattle.graph_model.specs.Ops.{edges_in}
use Rattle.part_keys.specs.declared.chain.PrimeRec.{PrimeRec}
use Rattle.part_keys.specs.declared.chain.ChainState.{ChainState}
use Rattle.part_keys.specs.declared.chain.ChainMsg.{ChainMsg}
use Rattle.part_keys.specs.declared.chain.ChainMsg.TheVariants as send
use Rattle.part_keys.specs.declared.chain.Policy.{Policy}
use Rattle.chain_leader.specs.declared.letter.Letter.{Letter}
use Rattle.chain_leader.specs.declared.letter.Letter.TheVariants.{Cross}
use Rattle.chain_leader.specs.Rules.{message, mode_for, next_try}
use Rattle.part_rules.specs.declared.applied.Applied.{Applied}
use Rattle.part_rules.specs.declared.applied.Applied.TheVariants.{Begun}
use Rattle.part_rules.specs.Part.{Part}
use Rattle.chain_leader.specs.declared.body.ChainBody.{ChainBody}
use Rattle.chain_leader.specs.declared.body.ChainBody.TheVariants.{Remote, Fence, Resume}

-- the leader, without its spare rows
abbrev pub leads : Leader → Leading
leads l = record { ready = l.ready; policy = l.policy; table = l.table.0 }

-- whether it says to take up chains
abbrev pub is_resume : ChainBody → Bool
is_resume (Resume t after) = true
is_resume other = false

-- whether the record of that chain stands in the part, if there is a chain
abbrev pub StandsBehind : Part → Option ℕ → Bool → Type 0
StandsBehind behind None stands = Unit
StandsBehind behind (Some v) stands = contains_key behind.chains v ≡ stands

-- the record of the chain that began, as it stands in the part
abbrev pub BeganBehind : Part → Applied → Option PrimeRec → Type 0
BeganBehind behind (Begun v) rec = get behind.chains v ≡ rec
BeganBehind behind other rec = Unit

-- what a message says, for a chain with that list
abbrev pub said_of : ℕ → List (EdgeId × Half) → ChainMsg → ChainBody
said_of term list (send.Remote v) = Remote term v list
said_of term list (send.Fence v) = Fence term v (edges_in list)

-- the letter that leaves when a chain that stands is taken up, by its row in the table
abbrev pub resumption : ℕ → PrimeRec → Policy → Option ChainState → Letter
resumption term rec policy None = Cross rec.remote 0 (said_of term rec.list (message (mode_for rec policy) rec.v))
resumption term rec policy (Some chain) = Cross chain.remote (next_try chain.tries) (said_of term chain.list (message chain.mode rec.v))
