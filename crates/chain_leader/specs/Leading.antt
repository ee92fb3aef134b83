-- What a leader of a part does. The machine that is handed in is the part before the entry.
use Rattle.std.specs.Prelude.{ℕ, ◌==◌, nat_lt, ◌&&◌, Bool, true, false, List, [], ◌∷◌, ◌++◌, Option, None, Some, map, take, drop, length, if◌then◌else◌}
use Rattle.std.specs.Option.{unwrap_or}
use Rattle.std.specs.FinMap.{empty, get, contains_key}
use Rattle.graph_model.specs.declared.call_id.CallId.{CallId}
use Rattle.graph_model.specs.declared.answer.Answer.{Answer}
use Rattle.graph_model.specs.declared.answer.Answer.TheVariants.{Shown}
use Rattle.graph_model.specs.declared.query.Query.{Query}
use Rattle.graph_model.specs.Ops.{edges_in}
use Rattle.part_keys.specs.declared.chain.PrimeRec.{PrimeRec}
use Rattle.part_keys.specs.declared.chain.ChainState.{ChainState}
use Rattle.part_keys.specs.declared.chain.ChainMsg.{ChainMsg}
use Rattle.part_keys.specs.declared.chain.ChainMsg.TheVariants as send
use Rattle.part_keys.specs.declared.chain.Policy.{Policy}
use Rattle.part_keys.specs.declared.chain.Policy.TheVariants.{Forward}
use Rattle.part_keys.specs.declared.entry.PartEntry.{PartEntry}
use Rattle.part_keys.specs.declared.entry.PartEntry.TheVariants as entry
use Rattle.part_keys.specs.declared.proposal.Proposal.{Proposal}
use Rattle.part_keys.specs.declared.proposal.Proposal.TheVariants.{Start, Made}
use Rattle.part_keys.specs.declared.vid_kind.VidKind.{VidKind}
use Rattle.part_keys.specs.Routing.{is_payload}
use Rattle.part_rules.specs.declared.applied.Applied.{Applied}
use Rattle.part_rules.specs.declared.applied.Applied.TheVariants.{Begun, Stale, Done, Fenced}
use Rattle.part_rules.specs.Part.{Part}
use Rattle.part_rules.specs.View.{view, at_once, chains_behind}
use Rattle.part_rules.specs.Machine.{applied}
use Rattle.chain_leader.specs.declared.body.ChainBody.{ChainBody}
use Rattle.chain_leader.specs.declared.body.ChainBody.TheVariants as says
use Rattle.chain_leader.specs.declared.letter.Letter.{Letter}
use Rattle.chain_leader.specs.declared.letter.Letter.TheVariants.{Tell, Cross, Back, Again as AgainTo}
use Rattle.chain_leader.specs.Calls.{is_write, answer_of}
use Rattle.chain_leader.specs.Rules.{Table, on_primed, on_remote, give_up, resume, on_fence, forget}

-- A leader: whether it has applied its own no-op, its policy, and its table.
pub record Leading : Type 0 where
  pub ready : Bool
  pub policy : Policy
  pub table : Table

-- a replica that doesn't lead
abbrev pub idle : Leading
idle = record { ready = false; policy = Forward; table = empty }

-- what a leader makes of a packet or a tick: itself behind it, what it proposes, and what it sends
pub record Taken : Type 0 where
  pub leading : Leading
  pub proposals : List PartEntry
  pub letters : List Letter

-- the answer of a read: what its query finds
abbrev pub read : Part → Query → Answer
read machine query = Shown (view query machine)

-- nothing
abbrev pub still : Leading → Taken
still l = record { leading = l; proposals = []; letters = [] }

-- it proposes an entry that belongs to the part and may stand in its log
abbrev pub proposing : VidKind → ℕ → ℕ → Leading → PartEntry → Taken
proposing ids parts part l x = if is_payload ids parts part x then record { leading = l; proposals = x ∷ []; letters = [] } else still l

-- a rule gave the table and perhaps an entry
abbrev pub listed : Option PartEntry → List PartEntry
listed None = []
listed (Some x) = x ∷ []

-- the leader behind a rule that may propose
abbrev pub asking : Leading → Table × Option PartEntry → Taken
asking l made = record { leading = record l { table = made.0 }; proposals = listed made.1; letters = [] }

-- What a rule gives: the table behind it, and the letters that leave.
pub record Ruled : Type 0 where
  pub table : Table
  pub letters : List Letter

-- nothing leaves
abbrev pub quiet : Table → Ruled
quiet t = record { table = t; letters = [] }

-- A message of a chain leaves: to the chain's remote part, by its tries, with its list.
abbrev pub body_of : ℕ → ChainState → ChainMsg → ChainBody
body_of term chain (send.Remote v) = says.Remote term v chain.list
body_of term chain (send.Fence v) = says.Fence term v (edges_in chain.list)

-- the number of a message's chain
abbrev pub number_in : ChainMsg → ℕ
number_in (send.Remote v) = v
number_in (send.Fence v) = v

-- the letter of a chain of the table
abbrev pub sends_by : ℕ → Table → ChainMsg → Option ChainState → Ruled
sends_by term t message None = quiet t
sends_by term t message (Some chain) = record { table = t; letters = Cross chain.remote chain.tries (body_of term chain message) ∷ [] }

-- a rule's message leaves
abbrev pub sends : ℕ → Table × ChainMsg → Ruled
sends term made = sends_by term made.0 made.1 (get made.0 (number_in made.1))

-- 4. A step of Resume: the first 64 chains behind a number, or all where there are fewer, by rising number ..
-- the chains that stand behind a number, or all, by rising number
abbrev pub standing_behind : Part → Option ℕ → List (ℕ × PrimeRec)
standing_behind p after = chains_behind (unwrap_or after 0) p

-- one rule after another: the letters of both, in order
abbrev pub and_then : Ruled → (Table → Ruled) → Ruled
and_then made next = record { table = (next made.table).table; letters = made.letters ++ (next made.table).letters }

-- each of them is taken up, and its message leaves
abbrev pub resumes_all : ℕ → Policy → List (ℕ × PrimeRec) → Table → Ruled
resumes_all term policy [] t = quiet t
resumes_all term policy (c ∷ chains) t = and_then (sends term (resume t c.1 policy)) (resumes_all term policy chains)

-- .. and a further Resume behind the last one where more stand
abbrev pub onward : List (ℕ × PrimeRec) → List Letter
onward chains = if nat_lt at_once (length chains) then map (λ c. AgainTo (Some c.0)) (take 1 (drop 63 chains)) else []

-- the leader behind a step of Resume, the further Resume behind the messages
abbrev pub resumed : Leading → Ruled → List Letter → Taken
resumed l made more = record { leading = record l { table = made.table }; proposals = []; letters = made.letters ++ more }

-- a step of Resume, of the chains that stand behind its place
abbrev pub resuming : ℕ → Leading → List (ℕ × PrimeRec) → Taken
resuming term l chains = resumed l (resumes_all term l.policy (take at_once chains) l.table) (onward chains)

-- What a leader of the part and term does with a packet that came from that part. It proposes Requests that write,
-- Remotes and Fences, whether it is ready or not; it takes Done, Fenced and Resume of its own term alone, where it is
-- ready; Answer, Stale and NotLeader do nothing.
abbrev pub taken : VidKind → ℕ → ℕ → ℕ → Part → Leading → ChainBody → ℕ → Taken
taken ids parts part term machine l (says.Request number x) from = if is_write x then proposing ids parts part l x else still l
taken ids parts part term machine l (says.Remote t v list) from = proposing ids parts part l (entry.Remote from t v list)
taken ids parts part term machine l (says.Done t v) from = if l.ready && (t == term) then asking l (on_remote l.table v) else still l
taken ids parts part term machine l (says.Fence t v edges) from = proposing ids parts part l (entry.Fence from t v edges)
taken ids parts part term machine l (says.Fenced t v written) from = if l.ready && (t == term) then asking l (on_fence l.table v written) else still l
taken ids parts part term machine l (says.Resume t after) from = if l.ready && (t == term) then resuming term l (standing_behind machine after) else still l
taken ids parts part term machine l other from = still l

-- what a leader makes of an entry that it applies: itself behind it, the answers that it sends, and what the rules send
pub record Applies : Type 0 where
  pub leading : Leading
  pub answers : List Letter
  pub rules : List Letter

-- the answer to the client, where there is one
abbrev pub told : Option (CallId × Answer) → List Letter
told None = []
told (Some a) = Tell a.0 a.1 ∷ []

-- what a Remote or Fence of that term and chain is answered
abbrev pub reply_to : ℕ → ℕ → Applied → List Letter
reply_to t v Done = Back (says.Done t v) ∷ []
reply_to t v (Stale above) = Back (says.Stale t v above) ∷ []
reply_to t v (Fenced written) = Back (says.Fenced t v written) ∷ []
reply_to t v other = []

-- the answer of a Remote or a Fence goes back
abbrev pub back_of : PartEntry → Applied → List Letter
back_of (entry.Remote from t v list) said = reply_to t v said
back_of (entry.Fence from t v edges) said = reply_to t v said
back_of other said = []

-- the answers of an entry: to its client, always; to the sender of a Remote or Fence, by the leader that proposed it
abbrev pub answers_of : Bool → PartEntry → Applied → List Letter
answers_of own x said = told (answer_of x said) ++ (if own then back_of x said else [])

-- the chain that an entry may end
abbrev pub chain_in : PartEntry → Option ℕ
chain_in (entry.Local v) = Some v
chain_in (entry.Close v) = Some v
chain_in (entry.Abort v) = Some v
chain_in other = None

-- 8. Where such a chain's record is gone, it is forgotten.
abbrev pub forgetting : Table → Part → Option ℕ → Table
forgetting t behind None = t
forgetting t behind (Some v) = if contains_key behind.chains v then t else forget t v

-- 1. A chain that begins at a ready leader is added, and its Remote is sent.
abbrev pub begins : ℕ → Table → Option PrimeRec → Ruled
begins term t None = quiet t
begins term t (Some rec) = sends term (on_primed t rec)

-- what the rules make of an entry's answer, at a leader that is ready or not
abbrev pub ruled_by : Bool → ℕ → Table → Part → Applied → Ruled
ruled_by true term t behind (Begun v) = begins term t (get behind.chains v)
ruled_by false term t behind (Begun v) = quiet t
ruled_by ready term t behind other = quiet t

-- the leader behind the rules, with the answers
abbrev pub ruled : Leading → List Letter → Ruled → Applies
ruled l answers made = record { leading = record l { table = made.table }; answers = answers; rules = made.letters }

-- what a leader makes of an entry, by the part behind it and the answer
abbrev pub on_entry : ℕ → Leading → Bool → PartEntry → Part × Applied → Applies
on_entry term l own x behind =
    ruled l (answers_of own x behind.1) (ruled_by l.ready term (forgetting l.table behind.0 (chain_in x)) behind.0 behind.1)

-- 4. When its no-op is applied the leader is ready, and sends itself a Resume.
abbrev pub started : Leading → Bool → Applies
started l true = record { leading = record l { ready = true }; answers = []; rules = AgainTo None ∷ [] }
started l false = record { leading = l; answers = []; rules = [] }

-- an item of the own term, or of another
abbrev pub on_item_by : ℕ → ℕ → Part → Leading → ℕ → Bool → Proposal → Applies
on_item_by parts term machine l index own Start = started l own
on_item_by parts term machine l index own (Made x) = on_entry term l own x (applied parts index x machine)
on_item_by parts term machine l index own other = record { leading = l; answers = []; rules = [] }

-- what a leader of that term does with the item at that index, which is of term d.0, when it applies it
abbrev pub on_item : ℕ → ℕ → Part → Leading → ℕ → ℕ × Proposal → Applies
on_item parts term machine l index d = on_item_by parts term machine l index (d.0 == term) d.1

-- a call is given up, at a ready leader
abbrev pub given_up : Leading → CallId → Taken
given_up l id = if l.ready then asking l (give_up l.table id) else still l

-- 7. Each pulse of a ready leader sends a Resume from the start.
abbrev pub pulsed : Leading → List Letter
pulsed l = if l.ready then AgainTo None ∷ [] else []
