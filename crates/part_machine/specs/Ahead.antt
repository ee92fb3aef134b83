-- What is known of entries before they are applied: their answers, and the chains that begin with them.
use Rattle.std.specs.Prelude.{ℕ, ◌==◌, List, [], ◌∷◌, Option, None, Some, if◌then◌else◌}
use Rattle.std.specs.FinMap.{get}
use Rattle.part_keys.specs.declared.chain.PrimeRec.{PrimeRec}
use Rattle.part_keys.specs.declared.entry.PartEntry.{PartEntry}
use Rattle.part_rules.specs.declared.applied.Applied.{Applied}
use Rattle.part_rules.specs.declared.applied.Applied.TheVariants.{Begun}
use Rattle.part_rules.specs.Part.{Part}
use Rattle.part_rules.specs.Machine.{applied}
use Rattle.part_machine.specs.declared.plan.Plan.{Plan}
use Rattle.part_machine.specs.declared.turn.Turn.{Turn}

-- the answers of placed entries that are applied in their order
abbrev pub answers : ℕ → Part → List (ℕ × PartEntry) → List Applied
answers parts p [] = []
answers parts p (x ∷ entries) = (applied parts x.0 x.1 p).1 ∷ answers parts (applied parts x.0 x.1 p).0 entries

-- the record of the chain that begins, in the part behind an answer
abbrev pub begun_behind : Part → Applied → Option PrimeRec
begun_behind behind (Begun v) = get behind.chains v
begun_behind behind other = None

-- the chains that begin with placed entries, one or none with each
abbrev pub beginnings : ℕ → Part → List (ℕ × PartEntry) → List (Option PrimeRec)
beginnings parts p [] = []
beginnings parts p (x ∷ entries) = begun_behind (applied parts x.0 x.1 p).0 (applied parts x.0 x.1 p).1 ∷ beginnings parts (applied parts x.0 x.1 p).0 entries

-- the same, as a plan has it: its turn puts the chain
abbrev pub turn_begun : Applied → Option Turn → Option PrimeRec
turn_begun (Begun v) None = None
turn_begun (Begun v) (Some turn) = if turn.at == v then turn.chain else None
turn_begun other turn = None

abbrev pub plan_begun : Plan → Option PrimeRec
plan_begun plan = turn_begun plan.answer plan.turn
