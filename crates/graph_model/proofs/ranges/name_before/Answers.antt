use Rattle.std.proofs.Common.{sym, ◌∙◌, arith, ◌-◌}
use Rattle.graph_model.specs.Names.{zeros}
use Rattle.graph_model.proofs.NameOrder.{names_apart, split_bytes}
use Rattle.graph_model.proofs.ranges.name_before.Goals as goal

pub returns : goal.returns
returns c =
    let front = c.in-Some.front.now in
    let last = c.in-Some.last.now in
    names_apart c.filled_from.result c.args.name.now front (last - 1) last c.filled_from.ensures.0 (zeros (32 - c.args.name.now.len)) c.filled_from.ensures.1
    (split_bytes c.args.name.now front last c.as_slice.ensures.short (sym c.as_slice.ensures.text ∙ c.in-Some.ensures.cases.0)) (omega (arith, c.if-last-eq0.false))
