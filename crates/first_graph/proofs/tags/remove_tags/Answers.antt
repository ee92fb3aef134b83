use Rattle.std.proofs.Common.{ap, sym, ◌∙◌, None}
use Rattle.std.specs.FinMap.{retain_keys, from_entries}
use Rattle.first_graph.proofs.MapLemmas.{made}
use Rattle.first_graph.proofs.KeyLemmas.{tags_total, tags_exact}
use Rattle.first_graph.proofs.TagLemmas.{stays, removed_first, all_stay}
use Rattle.first_graph.proofs.tags.remove_tags.Goals as goal

pub tags-preserved-in-Some : goal.tags-preserved-in-Some
tags-preserved-in-Some c =
    ap (λ m. retain_keys m (stays c.args.v.now)) (made tags_total tags_exact c.tags.verts.entries c.remove.new.self.entries c.in-Some.key None c.remove.ensures.updates.0)
    ∙ removed_first (from_entries c.tags.verts.entries) c.args.v.now c.in-Some.key c.in-Some.ensures.found.0
    ∙ c.tags.invariant

pub returns : goal.returns
returns c = sym (all_stay c.tags.verts.entries c.args.v.now c.in_default.ensures.none) ∙ c.tags.invariant
