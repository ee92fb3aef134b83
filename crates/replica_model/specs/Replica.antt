-- A replica's state, and what is derived from it.
use Rattle.std.specs.Prelude.{ℕ, ◌&&◌, Bool, List, [], ◌∷◌, take, Option, None, Some}
use Rattle.std.specs.Ordering.{eq_by_cmp}
use Rattle.std.specs.List.{list_any}
use Rattle.raft_log.specs.declared.config.Config.{Config}
use Rattle.raft_log.specs.declared.entry.Item.TheVariants.{Members}
use Rattle.raft_core.specs.Core.{Core, opened as core_opened, is_leading}
use Rattle.raft_core.specs.Durable.{Durable, reopened}
use Rattle.graph_model.specs.Keys.{call_cmp}
use Rattle.graph_model.specs.declared.call_id.CallId.{CallId}
use Rattle.graph_model.specs.declared.answer.Answer.{Answer}
use Rattle.part_keys.specs.declared.proposal.Proposal.{Proposal}
use Rattle.part_keys.specs.declared.vid_kind.VidKind.{VidKind}
use Rattle.part_rules.specs.Part.{Part}
use Rattle.part_rules.specs.Folded.{folded}
use Rattle.chain_leader.specs.Leading.{Leading, idle}
use Rattle.replica_model.specs.declared.packet.Place.{Place}
use Rattle.part_keys.specs.Spelled.{Spelling}
use Rattle.replica_model.specs.Spelling.{values_of}

-- where a replica belongs: its part, how many parts there are, of which kind the space's ids are, and how entries are spelled
pub record Home : Type 0 where
  pub part : ℕ
  pub parts : ℕ
  pub ids : VidKind
  pub spelling : Spelling

-- a read that waits for its round: its call, its answer, and the round
pub record Row : Type 0 where
  pub id : CallId
  pub answer : Answer
  pub round : ℕ

-- The Raft peer; what it keeps as a leader; the senders of the Remotes and Fences that it proposed as the leader that it
-- is, by index; of each chain the peer that the last NotLeader since the last send named, 0 where none did; and the reads
-- that wait, by rising round.
pub record Replica : Type 0 where
  pub core : Core
  pub lead : Leading
  pub senders : ℕ → Option Place
  pub hints : ℕ → ℕ
  pub rows : List Row

abbrev pub no_senders : ℕ → Option Place
no_senders index = None

abbrev pub no_hints : ℕ → ℕ
no_hints v = 0

-- a replica that has just come up
abbrev pub fresh : Core → Replica
fresh core = record { core = core; lead = idle; senders = no_senders; hints = no_hints; rows = [] }

-- opened with what is durable
abbrev pub opened : ℕ → Durable → Replica
opened me left = fresh (reopened me left)

-- created: with the first configuration at term 0, or with nothing
abbrev pub created : ℕ → Option Config → Replica
created me None = fresh (core_opened me 0 0 [])
created me (Some first) = fresh (core_opened me 0 0 (record { term = 0; item = Members first } ∷ []))

-- what it has applied: what its committed entries spell; and so its part's machine
abbrev pub applied_by : Home → Replica → List (ℕ × Proposal)
applied_by home r = values_of home.spelling (take r.core.commit r.core.log)

abbrev pub machine_of : Home → Replica → Part
machine_of home r = folded home.parts (applied_by home r)

abbrev pub leads : Replica → Bool
leads r = is_leading r.core.role

-- a leader that has applied its own no-op
abbrev pub leads_ready : Replica → Bool
leads_ready r = leads r && r.lead.ready

-- whether a read of that call waits
abbrev pub waits : List Row → CallId → Bool
waits rows id = list_any (λ (row : Row). eq_by_cmp call_cmp row.id id) rows
