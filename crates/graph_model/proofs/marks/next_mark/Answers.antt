use Rattle.std.proofs.Common.{arith, sym, subst, ◌∙◌}
use Rattle.std.specs.declared.ops.Bound.TheVariants.{Included, Unbounded}
use Rattle.std.specs.BTreeMap.Range.{IsRangeOf}
use Rattle.graph_model.proofs.Orders.{mark_order}
use Rattle.graph_model.proofs.Marking.{none_found, other_found, found_from, found_there, none_before, is_there, not_there}
use Rattle.graph_model.proofs.marks.next_mark.Goals as goal

pub returns-in_default-clause-none : goal.returns-in_default-clause-none
returns-in_default-clause-none c =
    let range = subst (λ T. IsRangeOf T (Included c.of-first.result) Unbounded c.args.marks.now c.range.result) mark_order (c.range.ensures.in_range tt) in
    λ i h below. not_there c.args.marks.now.entries _ (none_found c.args.marks.now c.args.v.now c.args.from c.of-first.result c.of-first.ensures c.range.result range c.in_default.ensures.steps.0 i h)

pub returns-then-not-is_of-clause-none : goal.returns-then-not-is_of-clause-none
returns-then-not-is_of-clause-none c =
    let range = subst (λ T. IsRangeOf T (Included c.of-first.result) Unbounded c.args.marks.now c.range.result) mark_order (c.range.ensures.in_range tt) in
    λ i h below. not_there c.args.marks.now.entries _ (other_found c.args.marks.now c.args.v.now c.args.from c.of-first.result c.of-first.ensures c.range.result range c.in-Some.mark.now c.in-Some.field-0-1.now c.next.new.self c.in-Some.ensures.steps (sym c.is_of.ensures ∙ c.if-not-is_of.true) i h)

pub returns-then-mark-to-clause-none : goal.returns-then-mark-to-clause-none
returns-then-mark-to-clause-none c =
    let range = subst (λ T. IsRangeOf T (Included c.of-first.result) Unbounded c.args.marks.now c.range.result) mark_order (c.range.ensures.in_range tt) in
    λ i h below. not_there c.args.marks.now.entries _ (none_before c.args.marks.now c.args.v.now c.args.from c.of-first.result c.of-first.ensures c.range.result range c.in-Some.mark.now c.in-Some.field-0-1.now c.next.new.self c.in-Some.ensures.steps (sym c.is_of.ensures ∙ c.if-not-is_of.false) i h (omega (arith, below, c.if-mark-to.true)))

pub returns-clause-next : goal.returns-clause-next
returns-clause-next c =
    let range = subst (λ T. IsRangeOf T (Included c.of-first.result) Unbounded c.args.marks.now c.range.result) mark_order (c.range.ensures.in_range tt) in
    let here = sym c.is_of.ensures ∙ c.if-not-is_of.false in
    record {
      from_on = found_from c.args.marks.now c.args.v.now c.args.from c.of-first.result c.of-first.ensures c.range.result range c.in-Some.mark.now c.in-Some.field-0-1.now c.next.new.self c.in-Some.ensures.steps here;
      below = omega (arith, c.if-mark-to.false);
      marked = is_there c.args.marks.now.entries _ _ (found_there c.args.marks.now c.args.v.now c.args.from c.of-first.result c.of-first.ensures c.range.result range c.in-Some.mark.now c.in-Some.field-0-1.now c.next.new.self c.in-Some.ensures.steps here);
      none = λ i h below. not_there c.args.marks.now.entries _ (none_before c.args.marks.now c.args.v.now c.args.from c.of-first.result c.of-first.ensures c.range.result range c.in-Some.mark.now c.in-Some.field-0-1.now c.next.new.self c.in-Some.ensures.steps here i h below);
    }
