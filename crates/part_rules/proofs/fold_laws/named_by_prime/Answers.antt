use Rattle.part_rules.proofs.FoldsNamed as named
use Rattle.part_rules.proofs.fold_laws.named_by_prime.Goals as goal

pub returns : goal.returns
returns c = named.named_by_prime
