-- Files of replicas.
use Rattle.std.proofs.Common.{◌≡◌, ℕ, List, [], ◌∷◌, ◌++◌, Ok, sym, ap, ◌∙◌, inl, inr, ⊎_elim, arith}
use Rattle.raft_log.specs.declared.record.Record.{Record}
use Rattle.replica_file.specs.Durable.{Durable}
use Rattle.wal_disk.specs.File.{IsFile, IsBeforeOrAfter}
use Rattle.wal_disk.proofs.Readings.{same_records, not_broken}
use Rattle.wal_frames.specs.Spelling.{body}
use Rattle.replica_file.specs.Grammar.{Allowed, IsRecord, file_version}
use Rattle.replica_file.specs.Folded.{blank, folded, first_gate}
use Rattle.replica_file.specs.File.{HasState, HasOtherVersion, HasMisfit, IsBadFile}
use Rattle.replica_file.specs.Laws.{IsBeforeOrBehind}
use Rattle.replica_file.proofs.Folds.{state_is, no_state, left_more}

pub one_state : (allowed : Allowed) (d e : Durable) (file : List ℕ) → HasState allowed d file → HasState allowed e file → d ≡ e
one_state allowed d e file one other =
    let same = (same_records file file_version file_version one.bodies other.bodies one.records other.records).1 in
    state_is d e (sym one.fold ∙ ap (λ (bodies : List (List ℕ)). folded allowed bodies) same ∙ other.fold)

no_other_version : (allowed : Allowed) (d : Durable) (file : List ℕ) (at : ℕ) → HasState allowed d file → HasOtherVersion file at → ⊥
no_other_version allowed d file at is other = let same = (same_records file file_version 1 is.bodies other.bodies is.records other.records).0 in absurd (omega (arith, same))

no_misfit : (allowed : Allowed) (d : Durable) (file : List ℕ) (at : ℕ) → HasState allowed d file → HasMisfit allowed file at → ⊥
no_misfit allowed d file at is bad =
    let same = (same_records file file_version file_version is.bodies bad.bodies is.records bad.records).1 in
    no_state d at (sym is.fold ∙ ap (λ (bodies : List (List ℕ)). folded allowed bodies) same ∙ bad.fold)

pub never_bad : (allowed : Allowed) (d : Durable) (file : List ℕ) (at : ℕ) → HasState allowed d file → IsBadFile allowed file at → ⊥
never_bad allowed d file at is bad =
    ⊎_elim (λ broken. not_broken file file_version is.bodies at is.records broken)
    (λ more. ⊎_elim (λ other. no_other_version allowed d file at is other) (λ misfit. no_misfit allowed d file at is misfit) more) bad

pub before_or_behind : (allowed : Allowed) (before : Durable) (r : Record) (bodies : List (List ℕ)) (image : List ℕ) → folded allowed bodies ≡ Ok before → IsRecord allowed r → IsBeforeOrAfter file_version bodies (body r) image → IsBeforeOrBehind allowed before r image
before_or_behind allowed before r bodies image fold own is =
    ⊎_elim (λ (old : IsFile file_version bodies image). inl (record { bodies = bodies; records = old; fold = fold }))
    (λ (new : IsFile file_version (bodies ++ body r ∷ []) image). inr (record { bodies = bodies ++ body r ∷ []; records = new; fold = left_more allowed first_gate blank before bodies r own fold })) is
