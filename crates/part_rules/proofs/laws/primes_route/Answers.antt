use Rattle.part_rules.proofs.Routes as routes
use Rattle.part_rules.proofs.laws.primes_route.Goals as goal

pub returns : goal.returns
returns c = routes.primes_route
