-- The calls and replies among events.
use Rattle.std.specs.Prelude.{◌≡◌, ℕ, ◌+◌, List, [], ◌∷◌, ◌++◌, take, false}
use Rattle.first_graph.specs.declared.answer.Answer.{Answer}
use Rattle.first_graph.specs.declared.call_id.CallId.{CallId}
use Rattle.first_graph.specs.declared.op.Op.{Op}
use Rattle.nebstore_app.specs.declared.event.Event.{Event}
use Rattle.nebstore_app.specs.declared.event.Event.TheVariants.{Invoke, Deliver, Reply}
use Rattle.nebstore_app.specs.Packets.{the_client}
use Rattle.nebstore_app.specs.World.{World, IsReached, next_call}

-- the calls that were made, in order
abbrev pub calls_of : List Event → List (CallId × Op)
calls_of [] = []
calls_of (Invoke id op ∷ events) = (id, op) ∷ calls_of events
calls_of (Deliver k ∷ events) = calls_of events
calls_of (Reply id a ∷ events) = calls_of events

-- the calls that were answered, in order
abbrev pub replies_of : List Event → List (CallId × Answer)
replies_of [] = []
replies_of (Invoke id op ∷ events) = replies_of events
replies_of (Deliver k ∷ events) = replies_of events
replies_of (Reply id a ∷ events) = (id, a) ∷ replies_of events

-- these, as the client's calls from this number on
abbrev pub numbered : {A : Type 0} → ℕ → List A → List (CallId × A)
numbered n [] = []
numbered n (x ∷ xs) = (record { client = the_client; number = n }, x) ∷ numbered (n + 1) xs

-- no call is open and no packet is under way
pub record IsQuiet (w : World) : Type 0 where
  pub reached : IsReached w
  pub resting : w.calling ≡ false
  pub nobody : w.waiting ≡ []

-- the client made this call, and was answered so
pub record HasCalled (w v : World) (op : Op) (a : Answer) : Type 0 where
  pub quiet : IsQuiet v
  pub last : v.last ≡ w.last + 1
  pub calls : calls_of v.events ≡ calls_of w.events ++ (next_call w, op) ∷ []
  pub replies : replies_of v.events ≡ replies_of w.events ++ (next_call w, a) ∷ []

-- the client made this call or none, and had no answer
pub record HasStopped (w v : World) (op : Op) : Type 0 where
  pub reached : IsReached v
  pub made : ℕ
  pub calls : calls_of v.events ≡ calls_of w.events ++ take made ((next_call w, op) ∷ [])
  pub replies : replies_of v.events ≡ replies_of w.events
