-- What a Round is: to each replica that is up a Pulse; the GiveUps of calls that had fifteen Rounds; each open call again; and the end
-- of those that had sixty-four.
use Rattle.std.specs.Prelude.{ℕ, ◌-◌, ◌==◌, nat_lt, Bool, true, false, List, [], ◌∷◌, ◌++◌, map, length, Option, None, Some, if◌then◌else◌}
use Rattle.std.specs.List.{list_any}
use Rattle.graph_model.specs.declared.op.Op.{Op}
use Rattle.graph_model.specs.declared.op.Op.TheVariants as op
use Rattle.chain_leader.specs.Calls.{part_of_op}
use Rattle.meta_parts.specs.declared.table.PartTable.{PartTable}
use Rattle.meta_parts.specs.declared.table.PartRow.{PartRow}
use Rattle.meta_parts.specs.Table.{numbers, row_in, next_of}
use Rattle.replica_model.specs.declared.input.Tick.TheVariants as tick
use Rattle.statement_run.specs.Caller.{Caller, Open}
use Rattle.statement_run.specs.Statement.{unended}
use Rattle.world_model.specs.State.{State}
use Rattle.script_model.specs.Duties.{Duty, GiveUps, Again, Unknown, Tell, for_all}

-- all clients; the ids of all peers that a part ever had, rising
abbrev pub clients : List ℕ
clients = numbers 64

abbrev pub ids_ever : PartTable → ℕ → List ℕ
ids_ever t p = numbers (next_of (row_in t p) - 1)

-- what each peer of each part gives to do, part by part
abbrev pub at_each_peer : PartTable → (ℕ → ℕ → List Duty) → List Duty
at_each_peer t give = for_all (λ (row : PartRow). for_all (give row.part) (ids_ever t row.part)) t.rows

-- how many Rounds a call had at its GiveUps
abbrev pub gives_up_at : ℕ
gives_up_at = 15

-- a call that writes edges has a chain, which can be given up: at each peer of its source's part
abbrev pub is_edge_call : Op → Bool
is_edge_call (op.PutEdges rows absent) = true
is_edge_call (op.DelEdges edges) = true
is_edge_call other = false

abbrev pub given_up : State → Option Open → List Duty
given_up s None = []
given_up s (Some call) =
    if is_edge_call call.op
    then map (λ (y : ℕ). Tell (part_of_op call.parts call.op) y (tick.GiveUp call.id)) (ids_ever s.table (part_of_op call.parts call.op))
    else []

abbrev pub had_rounds : ℕ → Option Open → Bool
had_rounds n None = false
had_rounds n (Some call) = call.count == n

abbrev pub give_ups : State → ℕ → List Duty
give_ups s c = if had_rounds gives_up_at (s.callers c).call then given_up s (s.callers c).call else []

-- One Round, by the table as it is.
abbrev pub round : State → List Duty
round s = at_each_peer s.table (λ p y. Tell p y tick.Pulse ∷ []) ++ map GiveUps clients ++ map Again clients ++ map Unknown clients

-- a client has a statement that hasn't ended
abbrev pub is_busy : Caller → Bool
is_busy caller = nat_lt 0 (length (unended caller.queue))

abbrev pub any_busy : State → List ℕ → Bool
any_busy s cs = list_any (λ (c : ℕ). is_busy (s.callers c)) cs
