-- What the table makes constant: it is a space, and no body but an allocation changes it.
use Rattle.std.proofs.Common.{◌≡◌, ℕ, zero, suc, ◌<◌, length, false, refl, ap, arith}
use Rattle.std.specs.Prelude.{◌==◌}
use Rattle.std.specs.List.{AllByRecursion}
use Rattle.std.proofs.lemmas.Bool.{or_from, ne_eqb}
use Rattle.std.proofs.lemmas.List.{length-map}
use Rattle.raft_history.specs.Voters.{is_in, IsDistinct}
use Rattle.raft_group.specs.Invariant.{IsFirst}
use Rattle.meta_parts.specs.declared.table.PartTable.{PartTable}
use Rattle.meta_parts.specs.declared.table.Stage.{Stage}
use Rattle.meta_parts.specs.declared.table.Stage.TheVariants.{ChangeLeader, AddPart, AddLearner, CatchUp, MemberAdd, MemberRemove, UpdateMeta, RemovePart, End}
use Rattle.meta_parts.specs.Table.{up_from, first_in, replaced_by, task_on, rows_behind}
use Rattle.part_keys.specs.Spelled.{Spelling}
use Rattle.world_model.specs.State.{space_of}

-- numbers that rise one by one are distinct, and at least the first
above_not_in : (first n k : ℕ) → k < first → is_in (up_from first n) k ≡ false
above_not_in first zero k low = refl
above_not_in first (suc n) k low = or_from (first == k) (is_in (up_from (suc first) n) k) (ne_eqb first k (λ e. let l = low in omega arith)) (above_not_in (suc first) n k (let l = low in omega arith))

rising_distinct : (first n : ℕ) → IsDistinct (up_from first n)
rising_distinct first zero = tt
rising_distinct first (suc n) = (above_not_in (suc first) n first (omega arith), rising_distinct (suc first) n)

rising_above : (first n : ℕ) → 0 < first → AllByRecursion (λ (id : ℕ). 0 < id) (up_from first n)
rising_above first zero above = tt
rising_above first (suc n) above = (above, rising_above (suc first) n (omega arith))

pub first_is : (t : PartTable) → IsFirst (first_in t)
first_is t = record { distinct = rising_distinct 1 t.factor; voters = rising_above 1 t.factor (omega arith); learners = tt }

-- with as many rows, of as many peers and the same kind of ids, it is the same space
pub so_many : (spelling : Spelling) (t : PartTable) (many : ℕ) → many ≡ length t.rows
    → record { parts = many; first = λ (p : ℕ). first_in t; ids = t.ids; spelling = spelling } ≡ space_of spelling t
so_many spelling t many same = ap (λ n. record { parts = n; first = λ (p : ℕ). first_in t; ids = t.ids; spelling = spelling }) same

pub rows_staged : (t : PartTable) (p : ℕ) (s : Stage) → length (rows_behind t p s) ≡ length t.rows
rows_staged t p ChangeLeader = refl
rows_staged t p AddPart = refl
rows_staged t p AddLearner = refl
rows_staged t p CatchUp = refl
rows_staged t p MemberAdd = refl
rows_staged t p MemberRemove = refl
rows_staged t p UpdateMeta = refl
rows_staged t p RemovePart = length-map t.rows (replaced_by (task_on t p))
rows_staged t p End = refl
