use Rattle.std.proofs.Common.{ap, sym, ◌∙◌}
use Rattle.std.specs.Option.{is_some}
use Rattle.std.specs.FinMap.{get}
use Rattle.first_graph.proofs.MapLemmas.{get_made}
use Rattle.first_graph.proofs.KeyLemmas.{tags_total}
use Rattle.first_graph.proofs.shelf.Shelf.has_tag.Goals as goal

pub returns : goal.returns
returns c = c.contains_key.ensures ∙ ap is_some (sym (get_made tags_total c.self.inside.verts.entries c.args.key)) ∙ ap (λ m. is_some (get m.verts c.args.key)) c.self.view_is
