use Rattle.term_guard.proofs.Raising.{raised, rowed}
use Rattle.term_guard.proofs.laws.terms_never_fall.Goals as goal

pub returns : goal.returns
returns c = record { raised = raised; rowed = rowed }
