-- An item that a leader applies, as the program is told of it.
use Rattle.std.specs.Prelude.{◌≡◌, ℕ, Bool, true, List, [], ◌∷◌, Option, None, Some, if◌then◌else◌}
use Rattle.std.specs.Option.{option_map}
use Rattle.std.specs.FinMap.{insert}
use Rattle.part_keys.specs.declared.chain.ChainState.{ChainState}
use Rattle.part_keys.specs.declared.chain.PrimeRec.{PrimeRec}
use Rattle.part_keys.specs.declared.chain.Mode.TheVariants.{Put}
use Rattle.part_keys.specs.declared.entry.PartEntry.{PartEntry}
use Rattle.part_keys.specs.declared.proposal.Proposal.{Proposal}
use Rattle.part_keys.specs.declared.proposal.Proposal.TheVariants.{Made}
use Rattle.part_rules.specs.declared.applied.Applied.{Applied}
use Rattle.part_rules.specs.declared.applied.Applied.TheVariants.{Begun}
use Rattle.part_rules.specs.Part.{Part}
use Rattle.part_rules.specs.Folded.{item_applied}
use Rattle.chain_leader.specs.declared.new_chain.NewChain.{NewChain}
use Rattle.chain_leader.specs.declared.body.ChainBody.TheVariants as says
use Rattle.chain_leader.specs.declared.letter.Letter.{Letter}
use Rattle.chain_leader.specs.declared.letter.Letter.TheVariants.{Cross}
use Rattle.chain_leader.specs.Calls.{answer_of}
use Rattle.chain_leader.specs.Rules.{Table, added}
use Rattle.chain_leader.specs.Leading.{Leading, Ruled, Applies, idle, quiet, told, back_of, answers_of, chain_in, forgetting}
use Rattle.chain_leader.specs.Leader.{StandsBehind, BeganBehind}

-- the chain that an item may end
abbrev pub chain_at : Proposal → Option ℕ
chain_at (Made x) = chain_in x
chain_at other = None

-- What is known behind an item: its answer, the record of the chain that it began, and whether the chain that it may end
-- stands there.
pub record IsBehind (parts index : ℕ) (item : Proposal) (machine : Part) (said : Applied) (begun : Option PrimeRec) (stands : Bool) : Type 0 where
  pub answer : said ≡ (item_applied parts index item machine).1
  pub began : BeganBehind (item_applied parts index item machine).0 said begun
  pub ends : StandsBehind (item_applied parts index item machine).0 (chain_at item) stands

-- a chain that begins, as it is added, with the letter that leaves
abbrev pub beginning_of : ℕ → PrimeRec → NewChain
beginning_of term rec = record { v = rec.v; chain = added rec Put; letter = Cross rec.remote 0 (says.Remote term rec.v rec.list) }

-- the chain that begins, where the answer says so
abbrev pub beginning_by : ℕ → Applied → Option PrimeRec → Option NewChain
beginning_by term (Begun v) begun = option_map (beginning_of term) begun
beginning_by term other begun = None

-- at a leader that is ready it is added, and its letter leaves
abbrev pub begun_with : Bool → Table → Option NewChain → Ruled
begun_with true t (Some made) = record { table = insert t made.v made.chain; letters = made.letter ∷ [] }
begun_with ready t other = quiet t

-- what goes back to the sender of a Remote or a Fence: the leader that proposed it itself answers it
abbrev pub back_at : Bool → PartEntry → Applied → List Letter
back_at own x said = if own then back_of x said else []

-- the answer to the client of an item
abbrev pub told_by : Proposal → Applied → List Letter
told_by (Made x) said = told (answer_of x said)
told_by other said = []

-- what goes back to the sender of an item, the leader's own or another's
abbrev pub back_by : Bool → Proposal → Applied → List Letter
back_by own (Made x) said = back_at own x said
back_by own other said = []

-- what a leader makes of an entry, by its answer, the chain that begins, and the part behind it
abbrev pub entry_by : Leading → Bool → PartEntry → Applied → Option NewChain → Part → Applies
entry_by l own x said made behind = record {
  leading = record l { table = (begun_with l.ready (forgetting l.table behind (chain_in x)) made).table };
  answers = answers_of own x said;
  rules = (begun_with l.ready (forgetting l.table behind (chain_in x)) made).letters;
}

-- What is known of an item before it is applied: its answer, and the record of the chain that begins with it.
pub record IsSaid (parts index : ℕ) (item : Proposal) (machine : Part) (said : Applied) (begun : Option PrimeRec) : Type 0 where
  pub answer : said ≡ (item_applied parts index item machine).1
  pub began : BeganBehind (item_applied parts index item machine).0 said begun

-- What an item sends, and whether the leader is ready behind it, looks at nothing of the leader but whether it is ready: the one
-- with no chain stands for all.
abbrev pub by_ready : Bool → Leading
by_ready ready = record idle { ready = ready }

-- the row of a chain that begins, at a leader that is ready
abbrev pub row_in : Bool → Option NewChain → Option (ℕ × ChainState)
row_in true (Some made) = Some (made.v, made.chain)
row_in ready other = None

abbrev pub row_begun : Bool → ℕ → Proposal → Applied → Option PrimeRec → Option (ℕ × ChainState)
row_begun ready term (Made x) said begun = row_in ready (beginning_by term said begun)
row_begun ready term other said begun = None

-- the table with that row
abbrev pub with_row : Table → Option (ℕ × ChainState) → Table
with_row t None = t
with_row t (Some row) = insert t row.0 row.1
