-- The step of a replica: the state behind it, its record, and the packets, in their order.
use Rattle.std.specs.Prelude.{ℕ, suc, ◌==◌, nat_lt, nat_le, not, ◌&&◌, Bool, true, List, [], ◌∷◌, ◌++◌, map, length, Option, None, Some, if◌then◌else◌}
use Rattle.std.specs.List.{filter}
use Rattle.raft_log.specs.declared.record.Record.{Record}
use Rattle.raft_log.specs.declared.message.RaftMsg.{RaftMsg}
use Rattle.raft_log.specs.Log.{config_index}
use Rattle.member_change.specs.declared.change.ChangeRefused.{ChangeRefused}
use Rattle.raft_core.specs.declared.input.RaftInput.TheVariants.{Confirm}
use Rattle.raft_core.specs.Core.{Core, is_leading}
use Rattle.raft_core.specs.Step.{Stepped as RaftStepped, stepped as raft_stepped}
use Rattle.graph_model.specs.declared.answer.Answer.{Answer}
use Rattle.graph_model.specs.declared.call_id.CallId.{CallId}
use Rattle.part_keys.specs.declared.chain.Policy.{Policy}
use Rattle.part_keys.specs.declared.chain.Policy.TheVariants.{Forward}
use Rattle.chain_leader.specs.declared.body.About.{About}
use Rattle.chain_leader.specs.declared.body.ChainBody.TheVariants as says
use Rattle.chain_leader.specs.declared.letter.Letter.{Letter}
use Rattle.chain_leader.specs.Leading.{Leading, Taken, idle, read, pulsed}
use Rattle.replica_model.specs.declared.packet.Place.{Place}
use Rattle.replica_model.specs.declared.packet.Place.TheVariants as place
use Rattle.replica_model.specs.declared.packet.To.TheVariants as to
use Rattle.replica_model.specs.declared.packet.Body.TheVariants as body
use Rattle.replica_model.specs.declared.packet.Packet.{Packet}
use Rattle.replica_model.specs.declared.input.Tick.TheVariants as tick
use Rattle.replica_model.specs.declared.input.Input.{Input}
use Rattle.replica_model.specs.declared.input.Input.TheVariants as input
use Rattle.replica_model.specs.Spelling.{values_of}
use Rattle.replica_model.specs.Replica.{Home, Row, Replica, no_senders, no_hints, machine_of}
use Rattle.replica_model.specs.Asks.{Asks, Nothing, Refuses, Points, Leads, Raft, Reads, asks}
use Rattle.replica_model.specs.Letters.{Worked, to_place, packet_of, packets_of, used, works}

-- a packet that leaves, and the round of the row that it answers, 0 where it answers none
pub record Leaving : Type 0 where
  pub packet : Packet
  pub round : ℕ

abbrev pub leaving : Packet → Leaving
leaving packet = record { packet = packet; round = 0 }

-- The replica behind a step, the record that is made durable before anything leaves, what leaves, and why a change of the
-- members was refused, where it was.
pub record Stepped : Type 0 where
  pub replica : Replica
  pub kept : Option Record
  pub leaves : List Leaving
  pub change : Option ChangeRefused

-- What a step leaves of the leader: all, where it leads the same term on; else it begins anew, with the policy of the
-- election that it began last.
abbrev pub leads_on : Core → Core → Bool
leads_on before behind = is_leading before.role && is_leading behind.role && (behind.term == before.term)

abbrev pub policy_in : Input → Policy
policy_in (input.Tick (tick.Elect policy)) = policy
policy_in other = Forward

abbrev pub policy_behind : Policy → Bool → Input → Policy
policy_behind policy began i = if began then policy_in i else policy

abbrev pub led_by : Bool → Leading → Policy → Leading
led_by on lead policy = if on then lead else record idle { policy = policy }

-- the sender of an entry that was appended is kept
abbrev pub senders_with : Option Place → ℕ → (ℕ → Option Place) → ℕ → Option Place
senders_with None last senders index = senders index
senders_with (Some sender) last senders index = if index == last then Some sender else senders index

-- a read that is to be answered once its round is confirmed
pub record Viewed : Type 0 where
  pub id : CallId
  pub answer : Answer

-- The rows stand while it leads the same term on under the same configuration; a read that begins a round is one more.
abbrev pub row_with : Option Viewed → Core → Core → List Row
row_with None before behind = []
row_with (Some viewed) before behind = if nat_lt before.round behind.round then record { id = viewed.id; answer = viewed.answer; round = behind.round } ∷ [] else []

abbrev pub keeps_rows : Core → Core → Bool
keeps_rows before behind = leads_on before behind && (config_index behind.log == config_index before.log)

abbrev pub rows_with : List Row → Option Viewed → Core → Core → List Row
rows_with rows viewed before behind = if keeps_rows before behind then rows ++ row_with viewed before behind else []

-- those whose round is confirmed are answered
abbrev pub is_confirmed : ℕ → Row → Bool
is_confirmed confirmed row = nat_le row.round confirmed

abbrev pub answer_row : ℕ → ℕ → Row → Leaving
answer_row part me row = record { packet = packet_of part me (to.Client row.id.client) (says.Answer row.id.number row.answer); round = row.round }

-- a message of the Raft step
abbrev pub message_of : ℕ → ℕ → ℕ × RaftMsg → Packet
message_of part me send = record { from = place.Peer part me; to = to.Peer part send.0; body = body.Raft send.1 }

-- a pulse of a ready leader that leads on
abbrev pub again_of : Bool → Leading → Input → List Letter
again_of true lead (input.Tick tick.Pulse) = pulsed lead
again_of on lead other = []

-- the entries that are newly committed are applied by a leader
abbrev pub works_at : Home → Replica → RaftStepped → (ℕ → Option Place) → Leading → Worked
works_at home r st senders lead =
    if is_leading st.core.role
    then works home r.core.me st.core.term senders (machine_of home r) lead (suc r.core.commit) (values_of home.spelling st.committed)
    else record { leading = lead; answers = []; rules = [] }

-- What a step of the Raft peer makes of the replica, and what leaves: the messages of the Raft step, the answers of the
-- entries, the answers of the reads, what the rules send, and a pulse's Resume.
pub record Led : Type 0 where
  pub on : Bool
  pub senders : ℕ → Option Place
  pub hints : ℕ → ℕ
  pub rows : List Row
  pub worked : Worked
  pub again : List Letter

abbrev pub led_of : Home → Replica → Input → RaftStepped → Leading → Option Place → Option Viewed → Bool → Led
led_of home r i st lead sender viewed on = record {
  on = on;
  senders = if on then senders_with sender (length st.core.log) r.senders else no_senders;
  hints = if on then r.hints else no_hints;
  rows = rows_with r.rows viewed r.core st.core;
  worked = works_at home r st (if on then senders_with sender (length st.core.log) r.senders else no_senders) (led_by on lead (policy_behind r.lead.policy st.began i));
  again = again_of on r.lead i;
}

abbrev pub replica_behind : RaftStepped → Led → Replica
replica_behind st led = record {
  core = st.core;
  lead = led.worked.leading;
  senders = led.senders;
  hints = used led.hints led.worked.leading.table led.worked.rules;
  rows = filter (λ (row : Row). not (is_confirmed st.confirmed row)) led.rows;
}

abbrev pub leaves_of : Home → ℕ → RaftStepped → Led → List Leaving
leaves_of home me st led =
    map leaving (map (message_of home.part me) st.sends)
    ++ map leaving led.worked.answers
    ++ map (answer_row home.part me) (filter (is_confirmed st.confirmed) led.rows)
    ++ map leaving (packets_of home.part me st.core.term led.hints None (led.worked.rules ++ led.again))

abbrev pub raft_behind : Home → ℕ → RaftStepped → Led → Stepped
raft_behind home me st led = record { replica = replica_behind st led; kept = st.kept; leaves = leaves_of home me st led; change = st.change }

abbrev pub raft_step : Home → Replica → Input → RaftStepped → Leading → Option Place → Option Viewed → Stepped
raft_step home r i st lead sender viewed = raft_behind home r.core.me st (led_of home r i st lead sender viewed (leads_on r.core st.core))

-- the leader's rules alone: no record
abbrev pub rules_behind : Home → Replica → Taken → Stepped
rules_behind home r tk = record {
  replica = record r { lead = tk.leading; hints = used r.hints tk.leading.table tk.letters };
  kept = None;
  leaves = map leaving (packets_of home.part r.core.me r.core.term r.hints None tk.letters);
  change = None;
}

abbrev pub still : Replica → List Leaving → Stepped
still r leaves = record { replica = r; kept = None; leaves = leaves; change = None }

abbrev pub refusal_to : Home → Replica → Place → About → Packet
refusal_to home r from other = packet_of home.part r.core.me (to_place from) (says.NotLeader other home.part r.core.hint)

abbrev pub pointed : Replica → ℕ → ℕ → Replica
pointed r v hint = record r { hints = λ w. if w == v then hint else r.hints w }

abbrev pub does : Home → Replica → Input → Asks → Stepped
does home r i Nothing = still r []
does home r i (Refuses from other) = still r (leaving (refusal_to home r from other) ∷ [])
does home r i (Points v hint) = still (pointed r v hint) []
does home r i (Leads tk) = rules_behind home r tk
does home r i (Raft asked lead sender) = raft_step home r i (raft_stepped r.core asked) lead sender None
does home r i (Reads id query) = raft_step home r i (raft_stepped r.core Confirm) r.lead None (Some (record { id = id; answer = read (machine_of home r) query }))

-- one step, with this input
abbrev pub stepped : Home → Replica → Input → Stepped
stepped home r i = does home r i (asks home r i)
