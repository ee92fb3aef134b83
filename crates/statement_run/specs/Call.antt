-- The call that is open, and calls that are ready to begin.
use Rattle.std.specs.Prelude.{◌≡◌, ℕ, Option, None, Some}
use Rattle.graph_model.specs.declared.call_id.CallId.{CallId}
use Rattle.graph_model.specs.declared.op.Op.{Op}
use Rattle.statement_run.specs.Statement.{Asked}
use Rattle.statement_run.specs.Caller.{Open, call_of, request_of}
use Rattle.statement_run.specs.Made.{invoked_of}
use Rattle.statement_run.specs.declared.call.Begun.{Begun}
use Rattle.statement_run.specs.declared.call.OpenCall.{OpenCall}

-- the call that is open
abbrev pub open_of : OpenCall → Open
open_of call = record { id = call.id; op = call.op; parts = call.parts; count = call.count; hint = call.hint }

-- a call that is ready to be made, with its Invoke and its Request
pub record Begins (id : CallId) (asked : Asked) (b : Begun) : Type 0 where
  pub call : open_of b.call ≡ call_of id asked
  pub invoke : invoked_of b.invoke ≡ (id, asked.op)
  pub packet : b.packet ≡ request_of (call_of id asked)

-- A call that comes next, if one does, and what is ready to begin it: under a name, routed by so many parts.
abbrev pub IsReady : CallId → ℕ → Option Op → Option Begun → Type 0
IsReady id parts next None = next ≡ None
IsReady id parts next (Some b) = (next ≡ Some b.call.op) × Begins id (record { parts = parts; op = b.call.op }) b

-- the name of a call that has none yet
abbrev pub unnamed : CallId
unnamed = record { client = 0; number = 0 }
