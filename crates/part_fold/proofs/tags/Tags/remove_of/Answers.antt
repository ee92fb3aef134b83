use Rattle.std.proofs.Common.{not, ap, ◌∙◌}
use Rattle.std.specs.FinMap.{retain_keys}
use Rattle.std.specs.Ordering.{eq_by_cmp}
use Rattle.graph_model.specs.Keys.{vid_cmp}
use Rattle.part_fold.proofs.tags.Tags.remove_of.Goals as goal

pub returns : goal.returns
returns c = c.remove_tags.ensures ∙ ap (λ m. retain_keys m (λ key. not (eq_by_cmp vid_cmp c.args.v.now key.vid))) c.self.view_is
