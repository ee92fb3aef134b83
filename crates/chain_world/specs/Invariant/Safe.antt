-- What holds of a world in each of its states.
use Rattle.std.specs.Prelude.{◌≡◌, ℕ, ◌≤◌, Some}
use Rattle.graph_model.specs.declared.call_id.CallId.{CallId}
use Rattle.graph_model.specs.declared.op.Op.{Op}
use Rattle.chain_world.specs.Ledger.{machine_of}
use Rattle.chain_world.specs.Course.{Courses}
use Rattle.chain_world.specs.Founded.{AreFounded}
use Rattle.chain_world.specs.Edges.{AreLast}
use Rattle.chain_world.specs.Invariant.Sound.{IsSound}
use Rattle.chain_world.specs.Invariant.Discipline.{IsInvoked, IsReplied}
use Rattle.chain_world.specs.State.{Chains}
use Rattle.chain_world.specs.Invariant.Protocol.{IsKept}

-- Clients. An open call was made by its client and isn't replied; no call has a greater number than its client's last.
pub record AreAsking (s : Chains) : Type 0 where
  pub asks : (c : ℕ) (id : CallId) (op : Op) → (s.clients c).asks ≡ Some (id, op) → (id.client ≡ c) × IsInvoked s.ledger.steps id op × (IsReplied s.ledger.steps id → ⊥)
  pub invoked : (id : CallId) (op : Op) → IsInvoked s.ledger.steps id op → id.number ≤ (s.clients id.client).last
  pub replied : (id : CallId) → IsReplied s.ledger.steps id → id.number ≤ (s.clients id.client).last

-- A world is sound: what became of its chains is so that all of this holds, and the ledger is that of a run of the graph;
-- it is what the decided lists say, and what the parts have of each edge is what the last chain on it gave.
pub record IsSafe (parts : ℕ) (s : Chains) : Type 0 where
  pub courses : Courses
  pub kept : IsKept parts s courses
  pub ledger : IsSound parts s.ledger courses
  pub asking : AreAsking s
  pub founded : AreFounded parts s.ledger.decided courses
  pub last : AreLast parts (machine_of parts s.ledger) courses
