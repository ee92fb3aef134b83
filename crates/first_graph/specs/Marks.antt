-- What is noted of a chain and of a call.
use Rattle.std.specs.Prelude.{true}
use Rattle.first_graph.specs.declared.chain.Chain.{Chain}
use Rattle.first_graph.specs.declared.call.Call.{Call}
use Rattle.first_graph.specs.declared.call.CallState.{CallState}

abbrev pub with_in_done : Chain → Chain
with_in_done c = record { id = c.id; half = c.half; in_done = true; out_done = c.out_done }

abbrev pub with_out_done : Chain → Chain
with_out_done c = record { id = c.id; half = c.half; in_done = c.in_done; out_done = true }

abbrev pub with_state : CallState → Call → Call
with_state state c = record { op = c.op; moment = c.moment; state = state; shown = c.shown; said = c.said }

abbrev pub with_shown : Call → Call
with_shown c = record { op = c.op; moment = c.moment; state = c.state; shown = true; said = c.said }

abbrev pub with_said : Call → Call
with_said c = record { op = c.op; moment = c.moment; state = c.state; shown = c.shown; said = true }
