use Rattle.std.proofs.Common.{[], ◌∷◌, ◌++◌, ⊎_elim}
use Rattle.wal_disk.proofs.Readings.{not_broken}
use Rattle.wal_disk.proofs.laws.never_bad.Goals as goal

pub returns-clause-file : goal.returns-clause-file
returns-clause-file c = not_broken

pub returns-clause-image : goal.returns-clause-image
returns-clause-image c image body version bodies at is broken =
    ⊎_elim (λ before. not_broken image version bodies at before broken) (λ after. not_broken image version (bodies ++ body ∷ []) at after broken) is
