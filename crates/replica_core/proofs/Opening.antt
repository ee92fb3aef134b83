-- What comes up with what is durable, and which files are bad.
use Rattle.std.proofs.Common.{◌≡◌, ℕ, List, Option, None, Some, Result, Ok, Err, ap, ◌∙◌}
use Rattle.std.specs.Prelude.{IfErr}
use Rattle.raft_log.specs.declared.config.Config.{Config}
use Rattle.wal_disk.specs.Cause.{HasCause}
use Rattle.wal_disk.specs.declared.refused.OpenWhy.{OpenWhy}
use Rattle.wal_disk.specs.declared.refused.OpenWhy.TheVariants as why
use Rattle.replica_file.specs.Durable.{Durable}
use Rattle.replica_file.specs.File.{HasState}
use Rattle.replica_file.specs.Grammar.{Allowed}
use Rattle.replica_file.specs.OnDisk.{IsKept, IsBadIn, founded}
use Rattle.replica_file.proofs.Files.{one_state, never_bad}
use Rattle.replica_model.specs.Replica.{created}
use Rattle.replica_record.proofs.OnDisk.{has_state}
use Rattle.replica_core.specs.Durable.{came_up, IsNotBad}

pub created_is : (me : ℕ) (first : Option Config) (d : Durable) → d ≡ founded first → came_up me d ≡ created me first
created_is me None d is = ap (came_up me) is
created_is me (Some first) d is = ap (came_up me) is

-- where one state is found, and another is kept, they are one
pub found_is : {D : Type 0} (reads : D → Option (List ℕ)) (may_leave : D → List ℕ → Type 0) (allowed : Allowed) (kept_state d : Durable) (wal : D × ℕ) (told : Option (List ℕ)) (file : List ℕ) → IsKept reads may_leave allowed kept_state wal → reads wal.0 ≡ told → told ≡ Some file → HasState allowed d file → kept_state ≡ d
found_is reads may_leave allowed kept_state d wal told file is same some has = one_state allowed kept_state d file (has_state reads may_leave allowed kept_state wal file is (same ∙ some)) has

-- what a bad file is refused with, where it has a state
pub not_bad : (allowed : Allowed) (d : Durable) (told : Option (List ℕ)) (file : List ℕ) (old new : ℕ) (e : OpenWhy) → told ≡ Some file → HasState allowed d file → HasCause (IsBadIn allowed told) old new e → IsNotBad e
not_bad allowed d told file old new (why.BadFile at) some has cause = never_bad allowed d file at has (cause.0 file some)
not_bad allowed d told file old new why.DiskFault some has cause = tt
not_bad allowed d told file old new why.NoMemory some has cause = tt

-- what a refusal has
pub if_err : {T E : Type 0} (result : Result T E) (P Q : E → Type 0) → ((e : E) → P e → Q e) → IfErr result P → IfErr result Q
if_err (Ok value) P Q more is = tt
if_err (Err e) P Q more is = more e is
