-- The leader's rules: functions of the table and what came, to the table and what is proposed or sent. A chain is named
-- by its number v.
use Rattle.std.specs.Prelude.{ℕ, nat_lt, ◌+◌, not, ◌&&◌, Bool, true, false, List, [], ◌∷◌, Option, None, Some, if◌then◌else◌}
use Rattle.std.specs.Ordering.{nat_cmp, eq_by_cmp}
use Rattle.std.specs.FinMap.{FinMap, get, insert, remove, entries}
use Rattle.graph_model.specs.Keys.{call_cmp}
use Rattle.graph_model.specs.declared.call_id.CallId.{CallId}
use Rattle.part_keys.specs.declared.chain.PrimeRec.{PrimeRec}
use Rattle.part_keys.specs.declared.chain.ChainState.{ChainState}
use Rattle.part_keys.specs.declared.chain.ChainMsg.{ChainMsg}
use Rattle.part_keys.specs.declared.chain.ChainMsg.TheVariants as send
use Rattle.part_keys.specs.declared.chain.Mode.{Mode}
use Rattle.part_keys.specs.declared.chain.Mode.TheVariants.{Put, Doubled, Fence}
use Rattle.part_keys.specs.declared.chain.Policy.{Policy}
use Rattle.part_keys.specs.declared.chain.Policy.TheVariants.{Forward, Cancel}
use Rattle.part_keys.specs.declared.entry.PartEntry.{PartEntry}
use Rattle.part_keys.specs.declared.entry.PartEntry.TheVariants.{Local, Double, Close, Abort}

-- the chains that a leader knows, by number
abbrev pub Table : Type 0
Table = FinMap nat_cmp ChainState

-- a chain as a record has it, new in the table in a mode
abbrev pub added : PrimeRec → Mode → ChainState
added rec mode = record { id = rec.id; remote = rec.remote; list = rec.list; mode = mode; asked = false; tries = 0; hint = 0 }

-- a Fence in mode Fence, else a Remote
abbrev pub message : Mode → ℕ → ChainMsg
message Put v = send.Remote v
message Doubled v = send.Remote v
message Fence v = send.Fence v

-- 1. After Begun the chain is added in mode Put, and its Remote is sent.
abbrev pub on_primed : Table → PrimeRec → Table × ChainMsg
on_primed t rec = (insert t rec.v (added rec Put), send.Remote rec.v)

-- an entry that ends a chain is asked for once
abbrev pub asks : Table → ℕ → ChainState → Option PartEntry → Table × Option PartEntry
asks t v chain None = (t, None)
asks t v chain (Some entry) = (insert t v (record chain { asked = true }), Some entry)

-- nothing is asked of a chain that isn't in the table, or of which something was asked
abbrev pub asks_once : Table → ℕ → (ChainState → Option PartEntry) → Option ChainState → Table × Option PartEntry
asks_once t v ending None = (t, None)
asks_once t v ending (Some chain) = if chain.asked then (t, None) else asks t v chain (ending chain)

-- 2. Done of v: Local in mode Put, Close in mode Doubled.
abbrev pub ending_done : ℕ → Mode → Option PartEntry
ending_done v Put = Some (Local v)
ending_done v Doubled = Some (Close v)
ending_done v Fence = None

-- the rule, by the chain of the table
abbrev pub on_remote : Table → ℕ → Table × Option PartEntry
on_remote t v = asks_once t v (λ chain. ending_done v chain.mode) (get t v)

-- 3. A call is given up: the first chain of that call that is in mode Put and of which nothing was asked is doubled.
abbrev pub is_put : Mode → Bool
is_put Put = true
is_put other = false

-- whether the chain is that call's, in mode Put, with nothing asked
abbrev pub may_double : CallId → ChainState → Bool
may_double id chain = eq_by_cmp call_cmp chain.id id && is_put chain.mode && not chain.asked

-- the first such chain
abbrev pub first_to_double : CallId → List (ℕ × ChainState) → Option (ℕ × ChainState)
first_to_double id [] = None
first_to_double id (c ∷ chains) = if may_double id c.1 then Some c else first_to_double id chains

-- it is in mode Doubled now, and its Double is proposed
abbrev pub doubles : Table → Option (ℕ × ChainState) → Table × Option PartEntry
doubles t None = (t, None)
doubles t (Some c) = (insert t c.0 (record c.1 { mode = Doubled }), Some (Double c.0))

-- the rule, by the table's chains in the order of their numbers
abbrev pub give_up : Table → CallId → Table × Option PartEntry
give_up t id = doubles t (first_to_double id (entries t))

-- 5. A chain that is taken up: one that isn't in the table is added, in mode Doubled where its record is double, else in
-- mode Fence where the policy is Cancel, else in mode Put; one that is there keeps its mode, and its tries rise by 1.
abbrev pub mode_by : Policy → Mode
mode_by Forward = Put
mode_by Cancel = Fence

-- the mode in which a record's chain is added
abbrev pub mode_for : PrimeRec → Policy → Mode
mode_for rec policy = if rec.double then Doubled else mode_by policy

-- the tries have 32 bits, and stay at the last number
abbrev pub last_try : ℕ
last_try = 4294967295

-- one try more
abbrev pub next_try : ℕ → ℕ
next_try tries = if nat_lt tries last_try then tries + 1 else tries

-- the table behind it, and the message
abbrev pub resumes : Table → PrimeRec → Policy → Option ChainState → Table × ChainMsg
resumes t rec policy None = (insert t rec.v (added rec (mode_for rec policy)), message (mode_for rec policy) rec.v)
resumes t rec policy (Some chain) = (insert t rec.v (record chain { tries = next_try chain.tries }), message chain.mode rec.v)

-- the rule, by the chain of the table
abbrev pub resume : Table → PrimeRec → Policy → Table × ChainMsg
resume t rec policy = resumes t rec policy (get t rec.v)

-- 6. Fenced of v in mode Fence: Local where the chain wrote its in-halves, else Abort.
abbrev pub ending_fenced : ℕ → Bool → Mode → Option PartEntry
ending_fenced v true Fence = Some (Local v)
ending_fenced v false Fence = Some (Abort v)
ending_fenced v written other = None

-- the rule, by the chain of the table
abbrev pub on_fence : Table → ℕ → Bool → Table × Option PartEntry
on_fence t v written = asks_once t v (λ chain. ending_fenced v written chain.mode) (get t v)

-- 8. A chain is forgotten when its record is removed.
abbrev pub forget : Table → ℕ → Table
forget t v = remove t v
