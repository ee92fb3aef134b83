use Rattle.std.proofs.Common.{sym, ◌∙◌}
use Rattle.first_graph.proofs.TagLemmas.{none_found, first_found, other_found}
use Rattle.first_graph.proofs.tags.first_tag.Goals as goal

pub returns-in_default-clause-none : goal.returns-in_default-clause-none
returns-in_default-clause-none c = none_found c.args.verts.now c.args.v.now c.of-first.result c.of-first.ensures c.range.result (c.range.ensures.in_range tt) c.in_default.ensures.steps.0

pub returns-then-not-is_tag_of-clause-none : goal.returns-then-not-is_tag_of-clause-none
returns-then-not-is_tag_of-clause-none c = other_found c.args.verts.now c.args.v.now c.of-first.result c.of-first.ensures c.range.result (c.range.ensures.in_range tt) c.in-Some.key.now c.in-Some.field-0-1.now c.next.new.self c.in-Some.ensures.steps (sym c.is_tag_of.ensures ∙ c.if-not-is_tag_of.true)

pub returns-clause-found : goal.returns-clause-found
returns-clause-found c = (sym c.is_tag_of.ensures ∙ c.if-not-is_tag_of.false, first_found c.args.verts.now c.args.v.now c.of-first.result c.of-first.ensures c.range.result (c.range.ensures.in_range tt) c.in-Some.key.now c.in-Some.field-0-1.now c.next.new.self c.in-Some.ensures.steps)
