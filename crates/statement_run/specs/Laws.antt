-- What the laws of a client say.
use Rattle.std.specs.Prelude.{◌≡◌, ℕ, suc, ◌<◌, ◌≤◌, Bool, false, List, [], ◌∷◌, ◌++◌, map, None, Some}
use Rattle.std.specs.FinMap.{get}
use Rattle.std.specs.Option.{is_some}
use Rattle.std.specs.Ordering.{nat_cmp}
use Rattle.maps.specs.Keys.{has_key}
use Rattle.graph_model.specs.declared.answer.Answer.{Answer}
use Rattle.chain_leader.specs.declared.body.ChainBody.TheVariants as says
use Rattle.replica_model.specs.declared.packet.Packet.{Packet}
use Rattle.replica_model.specs.declared.packet.Body.{Body}
use Rattle.replica_model.specs.declared.packet.Body.TheVariants as body
use Rattle.statement_run.specs.Statement.{Statement, Running, call_next}
use Rattle.statement_run.specs.Ending.{ending_of}
use Rattle.statement_run.specs.Kept.{Line, Ends, Kept, held, noted_in, noted}
use Rattle.statement_run.specs.Caller.{Open, Due, Caller, next, is_shown, is_read, counted, rounded, most_rounds, hears, replied}

-- behind this answer no statement makes another call
abbrev pub StopsBehind : Answer → Type 0
StopsBehind answer = (statement : Statement) (answers : List Answer) → call_next (record { statement = statement; answers = answers ++ answer ∷ [] }) ≡ None

-- a Reply leaves a call to make exactly where one comes next
abbrev pub LeavesNext : Caller → Answer → Type 0
LeavesNext c answer = (replied c answer).left ≡ is_some (next (replied c answer))

-- the first Answer counts: while a Reply is due no packet changes anything
abbrev pub FirstCounts : Caller → Type 0
FirstCounts c = (d : Due) → c.due ≡ Some d → (packet : Packet) (k : ℕ) → hears c packet k ≡ c

-- a packet that makes a Reply due is an Answer of the open call, Shown for a read alone
pub record IsAnswer (c : Caller) (b : Body) (k : ℕ) (d : Due) : Type 0 where
  pub call : Open
  pub its : c.call ≡ Some call
  pub said : b ≡ body.Chain (says.Answer call.id.number d.answer)
  pub kind : is_shown d.answer ≡ is_read call.op
  pub packet : d.packet ≡ k

abbrev pub AnswersOpen : Caller → Type 0
AnswersOpen c = c.due ≡ None → (packet : Packet) (k : ℕ) (d : Due) → (hears c packet k).due ≡ Some d → IsAnswer c packet.body k d

-- and each such Answer does: while no Reply is due, it makes its own due
abbrev pub HearsAnswer : Caller → Type 0
HearsAnswer c = (call : Open) → c.call ≡ Some call → c.due ≡ None → (packet : Packet) (k : ℕ) (answer : Answer)
    → packet.body ≡ body.Chain (says.Answer call.id.number answer) → is_shown answer ≡ is_read call.op
    → (hears c packet k).due ≡ Some (record { answer = answer; packet = k })

-- a Round uses up the hint
abbrev pub UsesHint : Caller → Type 0
UsesHint c = (call : Open) → (rounded c).call ≡ Some call → call.hint ≡ 0

-- its count is one more below the last number, and stays at it
pub record CountsOn (call : Open) : Type 0 where
  pub rises : call.count < most_rounds → (counted call).count ≡ suc call.count
  pub ends : (counted call).count ≤ most_rounds

-- of the lines of statements that haven't ended each has its place, with no answer in it, and no two are the same
abbrev pub is_among : ℕ → List Line → Bool
is_among number lines = has_key nat_cmp number (map (λ (line : Line). line.number) lines)

abbrev pub AreOpen : List Line → Ends → Type 0
AreOpen [] ends = Unit {0}
AreOpen (line ∷ lines) ends = (get ends line.number ≡ Some None) × (is_among line.number lines ≡ false) × AreOpen lines ends

-- a line that is queued is one of them, and the others stay so
abbrev pub HoldsOpen : Kept → Type 0
HoldsOpen k = (line : Line) → is_among line.number k.lines ≡ false → AreOpen k.lines k.ends → AreOpen (held line k).lines (held line k).ends

-- those that haven't ended stay so
abbrev pub LeavesOpen : Kept → Type 0
LeavesOpen k = (queue : List Running) → AreOpen k.lines k.ends → AreOpen (noted queue k).lines (noted queue k).ends

-- and a statement at the front that makes no call any more has its answer in its place
abbrev pub TellsEnded : List Line → Ends → Type 0
TellsEnded lines ends = (line : Line) (r : Running) (queue : List Running) → AreOpen (line ∷ lines) ends → call_next r ≡ None
    → get (noted_in (line ∷ lines) (r ∷ queue) ends).ends line.number ≡ Some (Some (ending_of line.bound r.answers))
