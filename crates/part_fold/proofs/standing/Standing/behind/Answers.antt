use Rattle.std.proofs.Common.{ap, sym, map, filter, ◌∙◌}
use Rattle.std.specs.FinMap.{entries}
use Rattle.maps.proofs.Keys.{nat_keys}
use Rattle.maps.proofs.Made.{entries_made}
use Rattle.part_fold.specs.Standing.{rec_of, is_behind}
use Rattle.part_fold.proofs.standing.Standing.behind.Goals as goal

pub returns : goal.returns
returns c =
    c.in_ok-list.ensures ∙ ap (λ es. map rec_of (filter (is_behind c.args.after) es)) (sym (entries_made nat_keys c.self.inside.kept.entries c.len-count.ensures.ordered))
    ∙ ap (λ m. map rec_of (filter (is_behind c.args.after) (entries m))) c.self.view_is
