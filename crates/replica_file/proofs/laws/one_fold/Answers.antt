use Rattle.replica_file.specs.Folded.{blank, first_gate}
use Rattle.replica_file.proofs.Folds.{are_folded, folds_again}
use Rattle.replica_file.proofs.laws.one_fold.Goals as goal

pub returns-clause-found : goal.returns-clause-found
returns-clause-found c allowed bodies d fit e =
    let is = are_folded allowed first_gate blank d bodies fit e in
    record { records = is.records; own = is.own; spelled = is.spelled; state = is.state }

pub returns-clause-only : goal.returns-clause-only
returns-clause-only c allowed records own = folds_again allowed first_gate blank records own
