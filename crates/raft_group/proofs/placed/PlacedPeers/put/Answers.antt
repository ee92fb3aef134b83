use Rattle.std.proofs.Common.{ap, ◌∙◌, Some}
use Rattle.std.specs.FinMap.{insert}
use Rattle.maps.proofs.Keys.{nat_keys}
use Rattle.maps.proofs.Made.{made}
use Rattle.raft_group.proofs.placed.PlacedPeers.put.Goals as goal

pub returns : goal.returns
returns c =
    made nat_keys c.self.inside.kept.entries c.insert.new.self.entries c.args.id (Some c.args.peer) c.in_ok-insert.ensures.updates.0
    ∙ ap (λ m. insert m c.args.id c.args.peer) c.self.view_is
