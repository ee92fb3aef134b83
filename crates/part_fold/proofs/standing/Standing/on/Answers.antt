use Rattle.std.proofs.Common.{ap, sym, ◌∙◌}
use Rattle.std.specs.FinMap.{entries}
use Rattle.std.specs.Option.{option_map}
use Rattle.maps.proofs.Keys.{nat_keys}
use Rattle.maps.proofs.Made.{entries_made}
use Rattle.part_rules.specs.Part.{chain_among}
use Rattle.part_fold.specs.Standing.{id_of}
use Rattle.part_fold.proofs.standing.Standing.on.Goals as goal

pub returns : goal.returns
returns c =
    c.first_on.ensures ∙ ap (λ es. option_map id_of (chain_among es c.args.edge.now)) (sym (entries_made nat_keys c.self.inside.kept.entries c.len-count.ensures.ordered))
    ∙ ap (λ m. option_map id_of (chain_among (entries m) c.args.edge.now)) c.self.view_is
