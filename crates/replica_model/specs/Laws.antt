-- What the laws of a step say.
use Rattle.std.specs.Prelude.{◌≡◌, ◌==◌, ◌⊎◌, ℕ, ◌<◌, ◌≤◌, Bool, List, [], ◌∷◌, ◌++◌, true, false}
use Rattle.std.specs.List.{AllByRecursion, list_any}
use Rattle.std.specs.FinMap.{contains_key}
use Rattle.raft_core.specs.Core.{is_leading}
use Rattle.raft_core.specs.Rounds.{confirmed_of}
use Rattle.graph_model.specs.declared.answer.Answer.{Answer}
use Rattle.graph_model.specs.declared.answer.Answer.TheVariants.{Shown}
use Rattle.graph_model.specs.declared.edge_id.EdgeId.{EdgeId}
use Rattle.graph_model.specs.declared.half.Half.{Half}
use Rattle.chain_leader.specs.declared.body.ChainBody.{ChainBody}
use Rattle.chain_leader.specs.declared.body.ChainBody.TheVariants as says
use Rattle.chain_leader.specs.declared.letter.Letter.{Letter}
use Rattle.chain_leader.specs.Rules.{Table}
use Rattle.replica_model.specs.declared.packet.Place.TheVariants as place
use Rattle.replica_model.specs.declared.packet.To.{To}
use Rattle.replica_model.specs.declared.packet.Body.{Body}
use Rattle.replica_model.specs.declared.packet.Body.TheVariants as body
use Rattle.replica_model.specs.declared.input.Input.{Input}
use Rattle.replica_model.specs.declared.input.Input.TheVariants as input
use Rattle.replica_model.specs.Replica.{Home, Row, Replica}
use Rattle.replica_model.specs.Asks.{Nothing, asks}
use Rattle.replica_model.specs.Letters.{is_about, used}
use Rattle.replica_model.specs.Stepped.{Leaving, Stepped, keeps_rows, answer_row}

-- whether a packet tells what a read found
abbrev pub is_view : Answer → Bool
is_view (Shown view) = true
is_view other = false

abbrev pub tells : ChainBody → Bool
tells (says.Answer number answer) = is_view answer
tells other = false

abbrev pub tells_view : Body → Bool
tells_view (body.Raft message) = false
tells_view (body.Chain said) = tells said

-- each read that waits has a round
abbrev pub HaveRounds : List Row → Type 0
HaveRounds rows = AllByRecursion (λ (row : Row). 0 < row.round) rows

-- what leaves is the answer of one of these reads, with its round
pub record AnswersRow (part me : ℕ) (rows : List Row) (l : Leaving) : Type 0 where
  pub front : List Row
  pub row : Row
  pub rest : List Row
  pub among : rows ≡ front ++ row ∷ rest
  pub is : l ≡ answer_row part me row

-- A packet leaves with a round that is confirmed behind the step. What tells a view leaves with one above 0, as the answer of
-- a read that waited before the step, with its round, or with a round that the step began.
pub record WaitedFor (part : ℕ) (r : Replica) (n : ℕ) (l : Leaving) : Type 0 where
  pub reached : l.round ≤ n
  pub counts : tells_view l.packet.body ≡ true → 0 < l.round
  pub waited : tells_view l.packet.body ≡ true → AnswersRow part r.core.me r.rows l ⊎ (r.core.round < l.round)

abbrev pub AnswersConfirmed : Home → Replica → Stepped → Type 0
AnswersConfirmed home r st = HaveRounds r.rows → AllByRecursion (WaitedFor home.part r (confirmed_of st.replica.core)) st.leaves

abbrev pub KeepsRounds : Replica → Stepped → Type 0
KeepsRounds r st = HaveRounds r.rows → HaveRounds st.replica.rows

-- a leader that doesn't lead on, or whose last configuration changed, has no rows behind the step
abbrev pub DropsRows : Replica → Stepped → Type 0
DropsRows r st = is_leading r.core.role ≡ true → keeps_rows r.core st.replica.core ≡ false → st.replica.rows ≡ []

-- no hint stands of a chain that isn't in the table
abbrev pub HintsStand : Replica → Type 0
HintsStand r = (v : ℕ) → contains_key r.lead.table v ≡ false → r.hints v ≡ 0

abbrev pub KeepsHints : Replica → Stepped → Type 0
KeepsHints r st = HintsStand r → HintsStand st.replica

-- whether a packet is a Remote or a Fence of that chain
abbrev pub writes_of : ℕ → ChainBody → Bool
writes_of v (says.Remote term w list) = w == v
writes_of v (says.Fence term w edges) = w == v
writes_of v other = false

abbrev pub is_of_chain : ℕ → Body → Bool
is_of_chain v (body.Raft message) = false
is_of_chain v (body.Chain said) = writes_of v said

-- behind a step by which a Remote or a Fence leaves, its chain has no hint
abbrev pub UsesHints : Stepped → Type 0
UsesHints st = (v : ℕ) → AllByRecursion (λ (l : Leaving). is_of_chain v l.packet.body ≡ true → st.replica.hints v ≡ 0) st.leaves

-- a hint behind letters that leave
pub record HintsGo (hints : ℕ → ℕ) (table : Table) (letters : List Letter) : Type 0 where
  pub sent : (v : ℕ) → list_any (is_about v) letters ≡ true → used hints table letters v ≡ 0
  pub gone : (v : ℕ) → contains_key table v ≡ false → used hints table letters v ≡ 0
  pub stays : (v : ℕ) → list_any (is_about v) letters ≡ false → contains_key table v ≡ true → used hints table letters v ≡ hints v

-- a Remote or a Fence that comes from a client is nothing to any replica
abbrev pub from_client : ℕ → To → ChainBody → Input
from_client c whom said = input.Sent (record { from = place.Client c; to = whom; body = body.Chain said })

abbrev pub IsNoRemote : Home → Replica → Type 0
IsNoRemote home r = (c : ℕ) (whom : To) (term v : ℕ) (list : List (EdgeId × Half)) → asks home r (from_client c whom (says.Remote term v list)) ≡ Nothing

abbrev pub IsNoFence : Home → Replica → Type 0
IsNoFence home r = (c : ℕ) (whom : To) (term v : ℕ) (edges : List EdgeId) → asks home r (from_client c whom (says.Fence term v edges)) ≡ Nothing
