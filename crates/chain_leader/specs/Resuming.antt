-- A step of Resume, as the program takes it: by the records that it is handed, and by rows, each with the chain that would be
-- added.
use Rattle.std.specs.Prelude.{◌≡◌, ℕ, nat_lt, Bool, true, false, List, [], ◌∷◌, ◌++◌, Option, None, Some, map, length, slice_get}
use Rattle.std.specs.Option.{option_map, option_to_list, unwrap_or}
use Rattle.std.specs.FinMap.{get, insert}
use Rattle.part_keys.specs.declared.chain.PrimeRec.{PrimeRec}
use Rattle.part_keys.specs.declared.chain.ChainState.{ChainState}
use Rattle.part_keys.specs.declared.chain.Policy.{Policy}
use Rattle.part_rules.specs.Part.{Part}
use Rattle.part_rules.specs.View.{at_once, chains_behind, primes}
use Rattle.chain_leader.specs.declared.letter.Letter.{Letter}
use Rattle.chain_leader.specs.declared.letter.Letter.TheVariants.{Again}
use Rattle.chain_leader.specs.Rules.{Table, added, mode_for}
use Rattle.chain_leader.specs.Table.{with_try}
use Rattle.chain_leader.specs.Leading.{Leading, Taken}
use Rattle.chain_leader.specs.Leader.{resumption}

-- each chain of a part stands under its own number
abbrev pub AreNamed : Part → Type 0
AreNamed machine = (v : ℕ) (rec : PrimeRec) → get machine.chains v ≡ Some rec → rec.v ≡ v

-- The records of the chains that a step takes up, the first of those that stand behind a place in the part, and whether more
-- stand there.
pub record AreStanding (machine : Part) (after : Option ℕ) (standing : List PrimeRec) (more : Bool) : Type 0 where
  pub named : AreNamed machine
  pub first : standing ≡ primes (unwrap_or after 0) machine
  pub further : more ≡ nat_lt at_once (length (chains_behind (unwrap_or after 0) machine))

-- the row of a record: its chain as it would be added
abbrev pub row_for : Policy → PrimeRec → ℕ × ChainState
row_for policy rec = (rec.v, added rec (mode_for rec policy))

-- it is added, or the chain that is there has one try more
abbrev pub taken_up_by : Table → ℕ × ChainState → Option ChainState → Table
taken_up_by t row None = insert t row.0 row.1
taken_up_by t row (Some chain) = insert t row.0 (with_try chain)

abbrev pub taken_up : Table → ℕ × ChainState → Table
taken_up t row = taken_up_by t row (get t row.0)

-- one row after another
abbrev pub all_taken_up : List (ℕ × ChainState) → Table → Table
all_taken_up [] t = t
all_taken_up (row ∷ rows) t = all_taken_up rows (taken_up t row)

-- the letters of the chains, by the table before the step
abbrev pub resumptions : ℕ → Policy → Table → List PrimeRec → List Letter
resumptions term policy t standing = map (λ rec. resumption term rec policy (get t rec.v)) standing

-- the further Resume, behind the last chain that is taken up, where more stand
abbrev pub further : Bool → List PrimeRec → Option Letter
further false standing = None
further true standing = option_map (λ rec. Again (Some rec.v)) (slice_get standing 63)

-- a step of Resume
abbrev pub resumed_by : ℕ → Leading → List PrimeRec → Bool → Taken
resumed_by term l standing more = record {
  leading = record l { table = all_taken_up (map (row_for l.policy) standing) l.table };
  proposals = [];
  letters = resumptions term l.policy l.table standing ++ option_to_list (further more standing);
}
