use Rattle.part_store.proofs.SmallClients.{call_small}
use Rattle.part_store.proofs.values.chain_in.Goals as goal

pub returns-in-Ok-read_call-clause-small : goal.returns-in-Ok-read_call-clause-small
returns-in-Ok-read_call-clause-small c = call_small _ _ _ c.in-Ok-read_call.ensures
