-- Calls that were seen before.
use Rattle.std.specs.Prelude.{ℕ, nat_lt, ◌==◌, false, List, [], ◌++◌, Option, None, Some, if◌then◌else◌}
use Rattle.graph_model.specs.declared.call_id.CallId.{CallId}
use Rattle.graph_model.specs.declared.edge_id.EdgeId.{EdgeId}
use Rattle.graph_model.specs.declared.half.Half.{Half}
use Rattle.kv_part.specs.Store.{Contents}
use Rattle.kv_part.specs.declared.batch.Write.{Write}
use Rattle.part_rules.specs.declared.kept.Kept.{Kept}
use Rattle.part_keys.specs.Routing.{remote_of}
use Rattle.part_keys.specs.declared.chain.PrimeRec.{PrimeRec}
use Rattle.part_rules.specs.declared.kept.Outcome.{Outcome}
use Rattle.part_rules.specs.declared.kept.Outcome.TheVariants as kept
use Rattle.part_rules.specs.declared.applied.Applied.{Applied}
use Rattle.part_rules.specs.declared.applied.Applied.TheVariants.{Old, Again, Begun, Finished}
use Rattle.part_store.specs.Reads.{last_in_store}
use Rattle.part_store.specs.Writes.{client_writes, standing_writes}
use Rattle.part_store.specs.declared.setting.Setting.{Setting}
use Rattle.part_machine.specs.declared.plan.Plan.{Plan}

-- the answer to a call whose number isn't above the client's last one; none to a new call
abbrev pub seen_by : CallId → Option Kept → Option Applied
seen_by id None = None
seen_by id (Some last) =
    if nat_lt id.number last.number then Some Old
    else if id.number == last.number then Some (Again last.outcome)
    else None

-- a client's last call with another outcome, where it is this call
abbrev pub writes_if_last : Setting → CallId → Outcome → Option Kept → List Write
writes_if_last s id outcome None = []
writes_if_last s id outcome (Some last) = if last.number == id.number then client_writes s id.client (record last { outcome = outcome }) else []

-- the writes that give a call its outcome
abbrev pub outcome_writes : Setting → Contents → CallId → Outcome → List Write
outcome_writes s m id outcome = writes_if_last s id outcome (last_in_store s m id.client)

-- the chain that begins at an index, with these edges
abbrev pub begun_chain : Setting → ℕ → CallId → List (EdgeId × Half) → PrimeRec
begun_chain s index id list = record { v = index; id = id; remote = remote_of s.parts list; list = list; double = false }

-- its plan
abbrev pub begun_plan : Setting → ℕ → CallId → List (EdgeId × Half) → Plan
begun_plan s index id list = record {
  batch = standing_writes s false index id list ++ client_writes s id.client (record { number = id.number; outcome = kept.Open });
  turn = Some (record { at = index; chain = Some (begun_chain s index id list) });
  answer = Begun index;
}

-- a call's plan that finishes behind these writes
abbrev pub finished : Setting → CallId → List Write → Plan
finished s id writes = record { batch = writes ++ client_writes s id.client (record { number = id.number; outcome = kept.Fine }); turn = None; answer = Finished id }
