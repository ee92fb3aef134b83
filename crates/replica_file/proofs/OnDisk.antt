-- Files of replicas on a disk.
use Rattle.std.proofs.Common.{◌≡◌, ℕ, List, [], ◌∷◌, ◌++◌, Option, None, Some, Result, Ok, Err, refl, subst, inl, inr}
use Rattle.std.specs.Prelude.{OnOk}
use Rattle.disk_model.specs.Disk.{LeavesOnly}
use Rattle.disk_model.proofs.Moments.{weaker}
use Rattle.raft_log.specs.declared.config.Config.{Config}
use Rattle.raft_log.specs.declared.record.Record.{Record}
use Rattle.replica_file.specs.Durable.{Durable, kept_by}
use Rattle.wal_disk.specs.File.{IsBeforeOrAfter}
use Rattle.wal_disk.specs.Cause.{HasCause}
use Rattle.replica_file.specs.Refused.{why_of}
use Rattle.replica_file.specs.Seen.{Refuses}
use Rattle.replica_file.specs.declared.refused.FoldRefused.{FoldRefused}
use Rattle.replica_file.specs.declared.refused.FoldRefused.TheVariants as refusals
use Rattle.wal_disk.specs.Sound.{IsSound, IsBadIn as IsBrokenIn}
use Rattle.wal_frames.specs.Spelling.{FitsRecord, body}
use Rattle.replica_file.specs.Grammar.{Allowed, IsRecord, file_version}
use Rattle.replica_file.specs.Folded.{blank, folded, first_gate}
use Rattle.replica_file.specs.Laws.{IsBeforeOrBehind}
use Rattle.replica_file.specs.OnDisk.{IsKept, first_record, founded, IsBadIn}
use Rattle.replica_file.proofs.Files.{before_or_behind}
use Rattle.replica_file.proofs.Folds.{left_more}

pub on_ok : {T E : Type 0} (result : Result T E) (P Q : Type 0) → (P → Q) → OnOk result P → OnOk result Q
on_ok (Ok value) P Q more is = more is
on_ok (Err error) P Q more is = tt

-- a record that is durable is one more of the fold
pub kept_more : {D : Type 0} (reads : D → Option (List ℕ)) (may_leave : D → List ℕ → Type 0) (allowed : Allowed) (d : Durable) (r : Record) (bodies : List (List ℕ)) (wal : D × ℕ) → IsRecord allowed r → folded allowed bodies ≡ Ok d → IsSound reads may_leave file_version (bodies ++ body r ∷ []) wal → IsKept reads may_leave allowed (kept_by d r) wal
kept_more reads may_leave allowed d r bodies wal own fold sound = record { bodies = bodies ++ body r ∷ []; sound = sound; fold = left_more allowed first_gate blank d bodies r own fold }

-- a crash at some moment of an append
pub leaves_one : {D : Type 0} (clock : D → ℕ) (left_since : D → ℕ → List ℕ → Type 0) (allowed : Allowed) (d : Durable) (r : Record) (bodies : List (List ℕ)) (old new : D) → IsRecord allowed r → folded allowed bodies ≡ Ok d
    → LeavesOnly clock left_since old new (IsBeforeOrAfter file_version bodies (body r)) → LeavesOnly clock left_since old new (IsBeforeOrBehind allowed d r)
leaves_one clock left_since allowed d r bodies old new own fold leaves =
    weaker clock left_since old new (IsBeforeOrAfter file_version bodies (body r)) (IsBeforeOrBehind allowed d r) leaves (λ image is. before_or_behind allowed d r bodies image fold own is)

-- the first configuration may stand in any log
pub first_is : (allowed : Allowed) (first : Config) → FitsRecord (first_record first) → IsRecord allowed (first_record first)
first_is allowed first fits = record { fits = fits; own = (refl, tt) }

-- a file that is made
pub founded_none : {D : Type 0} (reads : D → Option (List ℕ)) (may_leave : D → List ℕ → Type 0) (allowed : Allowed) (wal : D × ℕ) → IsSound reads may_leave file_version [] wal → IsKept reads may_leave allowed (founded None) wal
founded_none reads may_leave allowed wal sound = record { bodies = []; sound = sound; fold = refl }

pub founded_some : {D : Type 0} (reads : D → Option (List ℕ)) (may_leave : D → List ℕ → Type 0) (allowed : Allowed) (first : Config) (wal : D × ℕ) → FitsRecord (first_record first) → IsSound reads may_leave file_version (body (first_record first) ∷ []) wal → IsKept reads may_leave allowed (founded (Some first)) wal
founded_some reads may_leave allowed first wal fits sound = kept_more reads may_leave allowed blank (first_record first) [] wal (first_is allowed first fits) refl sound

-- ---- a file that is none of this replica

pub broken_is_bad : (allowed : Allowed) (told : Option (List ℕ)) (at : ℕ) → IsBrokenIn told at → IsBadIn allowed told at
broken_is_bad allowed told at bad file is = inl (bad file is)

pub other_is_bad : {D : Type 0} (reads : D → Option (List ℕ)) (may_leave : D → List ℕ → Type 0) (allowed : Allowed) (bodies : List (List ℕ)) (wal : D × ℕ) → IsSound reads may_leave 1 bodies wal → IsBadIn allowed (reads wal.0) 0
other_is_bad reads may_leave allowed bodies wal sound file told = inr (inl (record { bodies = bodies; records = (sound file told).records; place = refl }))

pub misfit_is_bad : {D : Type 0} (reads : D → Option (List ℕ)) (may_leave : D → List ℕ → Type 0) (allowed : Allowed) (bodies : List (List ℕ)) (at : ℕ) (wal : D × ℕ) → IsSound reads may_leave file_version bodies wal → folded allowed bodies ≡ Err at → IsBadIn allowed (reads wal.0) at
misfit_is_bad reads may_leave allowed bodies at wal sound fold file told = inr (inr (record { bodies = bodies; records = (sound file told).records; fold = fold }))

-- why a file's bodies leave nothing, as why the file isn't opened
pub refused_cause : {D : Type 0} (reads : D → Option (List ℕ)) (may_leave : D → List ℕ → Type 0) (allowed : Allowed) (bodies : List (List ℕ)) (wal : D × ℕ) (told : Option (List ℕ)) (old new : ℕ) (refused : FoldRefused)
    → IsSound reads may_leave file_version bodies wal → reads wal.0 ≡ told → Refuses refused (folded allowed bodies) → new ≡ old → HasCause (IsBadIn allowed told) old new (why_of refused)
refused_cause reads may_leave allowed bodies wal told old new (refusals.BadFile at) sound same fold steady =
    (subst (λ (t : Option (List ℕ)). IsBadIn allowed t at) same (misfit_is_bad reads may_leave allowed bodies at wal sound fold), steady)
refused_cause reads may_leave allowed bodies wal told old new refusals.NoMemory sound same fold steady = steady
