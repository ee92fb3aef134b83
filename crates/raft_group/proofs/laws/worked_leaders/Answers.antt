use Rattle.std.proofs.Common.{refl}
use Rattle.raft_group.proofs.laws.worked_leaders.Goals as goal

pub returns : goal.returns
returns c = record { not_counted = (refl, refl); elected = (refl, refl); overwritten = (refl, refl); deposed = (refl, refl, refl); waiting = (refl, refl, refl) }
