use Rattle.std.proofs.Common.{sym, subst, ◌∙◌}
use Rattle.std.specs.declared.ops.Bound.TheVariants.{Included, Unbounded}
use Rattle.std.specs.BTreeMap.Range.{IsRangeOf}
use Rattle.graph_model.proofs.Orders.{tag_order}
use Rattle.graph_model.proofs.TagLemmas.{none_found, first_found, other_found}
use Rattle.part_fold.proofs.tags.first_tag.Goals as goal

pub returns-in_default-clause-none : goal.returns-in_default-clause-none
returns-in_default-clause-none c =
    let range = subst (λ T. IsRangeOf T (Included c.of-first.result) Unbounded c.args.verts.now c.range.result) tag_order (c.range.ensures.in_range tt) in
    none_found c.args.verts.now c.args.v.now c.of-first.result c.of-first.ensures c.range.result range c.in_default.ensures.steps.0

pub returns-then-not-is_of-clause-none : goal.returns-then-not-is_of-clause-none
returns-then-not-is_of-clause-none c =
    let range = subst (λ T. IsRangeOf T (Included c.of-first.result) Unbounded c.args.verts.now c.range.result) tag_order (c.range.ensures.in_range tt) in
    other_found c.args.verts.now c.args.v.now c.of-first.result c.of-first.ensures c.range.result range c.in-Some.key.now c.in-Some.field-0-1.now c.next.new.self c.in-Some.ensures.steps (sym c.is_of.ensures ∙ c.if-not-is_of.true)

pub returns-clause-found : goal.returns-clause-found
returns-clause-found c =
    let range = subst (λ T. IsRangeOf T (Included c.of-first.result) Unbounded c.args.verts.now c.range.result) tag_order (c.range.ensures.in_range tt) in
    (sym c.is_of.ensures ∙ c.if-not-is_of.false, first_found c.args.verts.now c.args.v.now c.of-first.result c.of-first.ensures c.range.result range c.in-Some.key.now c.in-Some.field-0-1.now c.next.new.self c.in-Some.ensures.steps)
