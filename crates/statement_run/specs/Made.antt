-- What a client makes.
use Rattle.std.specs.Prelude.{◌≡◌, Option}
use Rattle.std.specs.Option.{option_map}
use Rattle.graph_model.specs.declared.answer.Answer.{Answer}
use Rattle.graph_model.specs.declared.call_id.CallId.{CallId}
use Rattle.graph_model.specs.declared.op.Op.{Op}
use Rattle.replica_model.specs.declared.packet.Packet.{Packet}
use Rattle.statement_run.specs.declared.effects.ClientEffects.{ClientEffects}
use Rattle.statement_run.specs.declared.effects.Invoked.{Invoked}
use Rattle.statement_run.specs.declared.effects.Said.{Said}

-- a Reply and an Invoke, as pairs
abbrev pub said_of : Said → CallId × Answer
said_of said = (said.id, said.answer)

abbrev pub invoked_of : Invoked → CallId × Op
invoked_of call = (call.id, call.op)

-- these are the Reply, the Invoke and the packet
pub record IsMade (said : Option (CallId × Answer)) (call : Option (CallId × Op)) (sent : Option Packet) (e : ClientEffects) : Type 0 where
  pub reply : option_map said_of e.reply ≡ said
  pub next : option_map invoked_of e.next ≡ call
  pub packet : e.packet ≡ sent
