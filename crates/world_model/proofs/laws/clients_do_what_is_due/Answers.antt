use Rattle.world_model.proofs.Dues as dues
use Rattle.world_model.proofs.laws.clients_do_what_is_due.Goals as goal

pub returns : goal.returns
returns c = record { invokes = dues.invokes_are_due; replies = dues.replies_are_due; quiet = dues.quiet_is_done }
