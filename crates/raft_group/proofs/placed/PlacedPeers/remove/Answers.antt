use Rattle.std.proofs.Common.{ap, sym, ◌∙◌, None}
use Rattle.std.specs.FinMap.{get, remove}
use Rattle.maps.proofs.Keys.{nat_keys}
use Rattle.maps.proofs.Made.{get_made, made}
use Rattle.raft_group.proofs.placed.PlacedPeers.remove.Goals as goal

pub returns-clause-peer : goal.returns-clause-peer
returns-clause-peer c = c.remove.ensures.value ∙ sym (get_made nat_keys c.self.inside.kept.entries c.args.id) ∙ ap (λ m. get m c.args.id) c.self.view_is

pub returns-clause-others : goal.returns-clause-others
returns-clause-others c =
    made nat_keys c.self.inside.kept.entries c.remove.new.self.entries c.args.id None c.remove.ensures.updates.0
    ∙ ap (λ m. remove m c.args.id) c.self.view_is
