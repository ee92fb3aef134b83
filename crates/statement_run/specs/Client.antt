-- A client of the program shows one of the definitions that has made what it had to make.
use Rattle.std.specs.Prelude.{◌≡◌, ℕ, false, List, [], ◌∷◌, Option, None, Some}
use Rattle.std.specs.List.{AllByRecursion}
use Rattle.statement_run.specs.Statement.{Running, call_next, unended}
use Rattle.statement_run.specs.Caller.{Open, Caller, next}
use Rattle.statement_run.specs.Call.{open_of}
use Rattle.statement_run.specs.Task.{Tells}
use Rattle.statement_run.specs.Waiting.{Waits, fresh_all}
use Rattle.statement_run.specs.declared.client.Busy.{Busy}
use Rattle.statement_run.specs.declared.client.Client.{Client}
use Rattle.statement_run.specs.declared.waiting.Waiting.{Waiting}

-- A call is open, its statement runs, and the others wait; or none is open, and each statement has ended.
pub record IsBusy (b : Busy) (call : Option Open) (statements : List Running) : Type 0 where
  pub its : call ≡ Some (open_of b.call)
  pub running : Running
  pub tells : Tells b.task running
  pub asks : call_next running ≡ Some b.call.op
  pub routed : b.call.parts ≡ b.task.parts
  pub queue : statements ≡ running ∷ fresh_all b.waiting.items
  pub waits : AllByRecursion Waits b.waiting.items

abbrev pub IsShown : Option Busy → Option Open → List Running → Type 0
IsShown None call queue = (call ≡ None) × (unended queue ≡ [])
IsShown (Some b) call queue = IsBusy b call queue

pub record Shows (client : Client) (c : Caller) : Type 0 where
  pub last : c.last ≡ client.last
  pub due : c.due ≡ None
  pub left : c.left ≡ false
  pub shown : IsShown client.busy c.call c.queue

-- no call is open, nothing is due, and of these statements the next call comes
pub record IsFree (waiting : List Waiting) (number : ℕ) (c : Caller) : Type 0 where
  pub call : c.call ≡ None
  pub due : c.due ≡ None
  pub last : c.last ≡ number
  pub queue : unended c.queue ≡ unended (fresh_all waiting)
  pub left : next c ≡ None → c.left ≡ false
