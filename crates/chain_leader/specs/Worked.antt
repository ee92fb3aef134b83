-- What a leader does, worked by hand, as tests of the definitions. With two parts, vertex 1 is in part 2, and the vertices 2
-- and 4 are in part 1; the leader is that of part 2 in term 5.
use Rattle.std.specs.Prelude.{◌≡◌, ℕ, List, [], ◌∷◌, None, Some, Bool, true, false}
use Rattle.std.specs.FinMap.{empty, insert, remove}
use Rattle.graph_model.specs.declared.answer.Answer.TheVariants as said
use Rattle.graph_model.specs.declared.op.Op.TheVariants.{PutEdges, DelEdges}
use Rattle.part_keys.specs.declared.chain.ChainState.{ChainState}
use Rattle.part_keys.specs.declared.chain.Mode.{Mode}
use Rattle.part_keys.specs.declared.chain.Mode.TheVariants as mode
use Rattle.part_keys.specs.declared.vid_kind.VidKind.TheVariants.{Num}
use Rattle.part_keys.specs.declared.chain.Policy.{Policy}
use Rattle.part_keys.specs.declared.chain.Policy.TheVariants.{Forward, Cancel}
use Rattle.part_keys.specs.declared.proposal.Proposal.TheVariants.{Start, Made}
use Rattle.part_keys.specs.declared.entry.PartEntry.TheVariants.{Prime, Local, Double, Close, Abort, Remote}
use Rattle.part_rules.specs.Part.{blank}
use Rattle.part_rules.specs.Worked.{edge_to, both, edges, row, call, begun, doubled, settled}
use Rattle.chain_leader.specs.declared.body.ChainBody.TheVariants as says
use Rattle.chain_leader.specs.declared.letter.Letter.{Letter}
use Rattle.chain_leader.specs.declared.letter.Letter.TheVariants.{Tell, Cross, Back, Again}
use Rattle.chain_leader.specs.Calls.{entry_of, part_of_op}
use Rattle.chain_leader.specs.Rules.{Table, last_try}
use Rattle.chain_leader.specs.Leading.{Leading, Applies, taken, on_item, given_up, pulsed}

-- the entry of a call on two edges, and its part
abbrev pub IsEntry : Type 0
IsEntry = entry_of (call 1 1) (PutEdges ((edge_to 2, row 90) ∷ (edge_to 4, row 91) ∷ []) true) ≡ Prime (call 1 1) both true

abbrev pub IsPart : Type 0
IsPart = part_of_op 2 (DelEdges edges) ≡ 2

-- a leader, and the chain as its table has it
abbrev pub led : Bool → Policy → Table → Leading
led ready policy table = record { ready = ready; policy = policy; table = table }

abbrev pub state : Mode → Bool → ℕ → ChainState
state mode asked tries = record { id = call 1 1; remote = 1; list = both; mode = mode; asked = asked; tries = tries; hint = 0 }

abbrev pub with_one : Mode → Bool → Leading
with_one mode asked = led true Forward (insert empty 1 (state mode asked 0))

abbrev pub made : Leading → List Letter → List Letter → Applies
made leading answers rules = record { leading = leading; answers = answers; rules = rules }

-- A leader that applies its own no-op is ready, and sends itself a Resume; another's changes nothing
abbrev pub IsReady : Type 0
IsReady = on_item 2 5 blank (led false Cancel empty) 1 (5, Start) ≡ made (led true Cancel empty) [] (Again None ∷ [])

abbrev pub IsOfAnother : Type 0
IsOfAnother = on_item 2 5 blank (led false Cancel empty) 1 (4, Start) ≡ made (led false Cancel empty) [] []

-- A chain that begins at a ready leader is in mode Put, whatever the policy, and its Remote leaves; one that begins before
-- the no-op is left to Resume
abbrev pub IsPrimed : Type 0
IsPrimed = on_item 2 5 blank (led true Cancel empty) 1 (5, Made (Prime (call 1 1) both false))
    ≡ made (led true Cancel (insert empty 1 (state mode.Put false 0))) [] (Cross 1 0 (says.Remote 5 1 both) ∷ [])

abbrev pub IsLeft : Type 0
IsLeft = on_item 2 5 blank (led false Cancel empty) 1 (4, Made (Prime (call 1 1) both false)) ≡ made (led false Cancel empty) [] []

-- Resume takes it up: in mode Fence where the policy is Cancel, else in mode Put; again, its tries rise, to the last number
abbrev pub IsFencing : Type 0
IsFencing = (taken Num 2 2 5 begun (led true Cancel empty) (says.Resume 5 None) 2).letters ≡ Cross 1 0 (says.Fence 5 1 edges) ∷ []

abbrev pub IsPutting : Type 0
IsPutting = (taken Num 2 2 5 begun (led true Forward empty) (says.Resume 5 None) 2).letters ≡ Cross 1 0 (says.Remote 5 1 both) ∷ []

abbrev pub IsPutDouble : Type 0
IsPutDouble = (taken Num 2 2 5 doubled (led true Cancel empty) (says.Resume 5 None) 2).letters ≡ Cross 1 0 (says.Remote 5 1 both) ∷ []

abbrev pub IsTakenAgain : Type 0
IsTakenAgain = (taken Num 2 2 5 begun (led true Cancel (insert empty 1 (state mode.Put false 3))) (says.Resume 5 None) 2).letters ≡ Cross 1 4 (says.Remote 5 1 both) ∷ []

abbrev pub IsLastTry : Type 0
IsLastTry = (taken Num 2 2 5 begun (led true Cancel (insert empty 1 (state mode.Put false last_try))) (says.Resume 5 None) 2).letters ≡ Cross 1 last_try (says.Remote 5 1 both) ∷ []

abbrev pub IsBehind : Type 0
IsBehind = (taken Num 2 2 5 begun (led true Forward empty) (says.Resume 5 (Some 1)) 2).letters ≡ []

abbrev pub IsOldResume : Type 0
IsOldResume = taken Num 2 2 5 begun (led true Forward empty) (says.Resume 4 None) 2 ≡ record { leading = led true Forward empty; proposals = []; letters = [] }

-- Done of the own term asks for the Local once, in mode Doubled for the Close
abbrev pub IsLocal : Type 0
IsLocal = taken Num 2 2 5 begun (with_one mode.Put false) (says.Done 5 1) 1
    ≡ record { leading = led true Forward (insert (insert empty 1 (state mode.Put false 0)) 1 (state mode.Put true 0)); proposals = Local 1 ∷ []; letters = [] }

abbrev pub IsAskedOnce : Type 0
IsAskedOnce = (taken Num 2 2 5 begun (with_one mode.Put true) (says.Done 5 1) 1).proposals ≡ []

abbrev pub IsClose : Type 0
IsClose = (taken Num 2 2 5 doubled (with_one mode.Doubled false) (says.Done 5 1) 1).proposals ≡ Close 1 ∷ []

abbrev pub IsOldDone : Type 0
IsOldDone = (taken Num 2 2 5 begun (with_one mode.Put false) (says.Done 4 1) 1).proposals ≡ []

-- Fenced asks for the Local or the Abort in mode Fence, and for nothing in another
abbrev pub IsFound : Type 0
IsFound = (taken Num 2 2 5 begun (with_one mode.Fence false) (says.Fenced 5 1 true) 1).proposals ≡ Local 1 ∷ []

abbrev pub IsAbort : Type 0
IsAbort = (taken Num 2 2 5 begun (with_one mode.Fence false) (says.Fenced 5 1 false) 1).proposals ≡ Abort 1 ∷ []

abbrev pub IsNoAbort : Type 0
IsNoAbort = (taken Num 2 2 5 begun (with_one mode.Put false) (says.Fenced 5 1 false) 1).proposals ≡ []

-- A call that is given up has its chain doubled, in mode Put alone
abbrev pub IsGivenUp : Type 0
IsGivenUp = given_up (with_one mode.Put false) (call 1 1)
    ≡ record { leading = led true Forward (insert (insert empty 1 (state mode.Put false 0)) 1 (state mode.Doubled false 0)); proposals = Double 1 ∷ []; letters = [] }

abbrev pub IsNotGivenUp : Type 0
IsNotGivenUp = (given_up (with_one mode.Fence false) (call 1 1)).proposals ≡ []

-- The Local ends the chain: it is forgotten, and its client is told
abbrev pub IsToldFine : Type 0
IsToldFine = on_item 2 5 begun (with_one mode.Put true) 2 (5, Made (Local 1)) ≡ made (led true Forward (remove (insert empty 1 (state mode.Put true 0)) 1)) (Tell (call 1 1) said.Fine ∷ []) []

abbrev pub IsToldPending : Type 0
IsToldPending = on_item 2 5 begun (with_one mode.Doubled false) 2 (5, Made (Double 1)) ≡ made (with_one mode.Doubled false) (Tell (call 1 1) said.Pending ∷ []) []

abbrev pub IsToldAgain : Type 0
IsToldAgain = (on_item 2 5 settled (led true Forward empty) 3 (4, Made (Prime (call 1 1) both false))).answers ≡ Tell (call 1 1) said.Fine ∷ []

-- Another part's Remote is proposed where it belongs, also before the no-op; the leader that proposed it answers it
abbrev pub IsProposed : Type 0
IsProposed = (taken Num 2 1 5 blank (led false Forward empty) (says.Remote 3 9 both) 2).proposals ≡ Remote 2 3 9 both ∷ []

abbrev pub IsNotHere : Type 0
IsNotHere = (taken Num 2 2 5 blank (led true Forward empty) (says.Remote 3 9 both) 2).proposals ≡ []

abbrev pub IsAnswered : Type 0
IsAnswered = (on_item 2 5 blank (led true Forward empty) 1 (5, Made (Remote 2 3 9 both))).answers ≡ Back (says.Done 3 9) ∷ []

abbrev pub IsNotAnswered : Type 0
IsNotAnswered = (on_item 2 5 blank (led true Forward empty) 1 (4, Made (Remote 2 3 9 both))).answers ≡ []

-- Each pulse of a ready leader sends a Resume from the start
abbrev pub IsPulsed : Type 0
IsPulsed = pulsed (led true Forward empty) ≡ Again None ∷ []
