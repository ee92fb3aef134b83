use Rattle.std.proofs.Common.{◌≡◌, ◌+◌, ◌<◌, true, length, ap, sym, ◌∙◌, None, arith}
use Rattle.std.specs.Prelude.{if◌then◌else◌, is_some}
use Rattle.std.specs.Map.{lookup}
use Rattle.std.specs.BTreeMap.{is_at}
use Rattle.std.specs.FinMap.{retain_keys, from_entries}
use Rattle.maps.proofs.Made.{made_by_order}
use Rattle.graph_model.proofs.KeyLemmas.{tag_keys}
use Rattle.graph_model.proofs.Orders.{tag_order}
use Rattle.graph_model.proofs.TagLemmas.{stays, removed_first, all_stay}
use Rattle.part_fold.proofs.tags.remove_tags.Goals as goal

pub tags-preserved-in-Some : goal.tags-preserved-in-Some
tags-preserved-in-Some c =
    ap (λ m. retain_keys m (stays c.args.v.now)) (made_by_order tag_keys _ tag_order c.tags.verts.entries c.remove.new.self.entries c.in-Some.key None c.remove.ensures.updates.0)
    ∙ removed_first (from_entries c.tags.verts.entries) c.args.v.now c.in-Some.key c.in-Some.ensures.found.0
    ∙ c.tags.invariant

pub returns : goal.returns
returns c = sym (all_stay c.tags.verts.entries c.args.v.now c.in_default.ensures.none) ∙ c.tags.invariant

pub tags-smaller : goal.tags-smaller
tags-smaller c =
    let there : is_some c.remove.result ≡ true = ap is_some c.remove.ensures.value ∙ ap (λ T. is_some (lookup (is_at (T c.in-Some.key)) c.tags.verts.entries)) tag_order ∙ c.in-Some.ensures.found.1 in
    let fewer : length c.remove.new.self.entries + 1 ≡ length c.tags.verts.entries = ap (λ b. length c.remove.new.self.entries + (if b then 1 else 0)) (sym there) ∙ c.remove.ensures.len in
    let less : length c.remove.new.self.entries < length c.tags.verts.entries = omega (arith, fewer) in
    less
