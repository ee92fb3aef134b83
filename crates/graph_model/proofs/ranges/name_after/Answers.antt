use Rattle.std.proofs.Common.{sym, ◌∙◌, arith, ◌<◌, ◌+◌, ◌-◌, ◌++◌, ◌∷◌, ap, subst, length}
use Rattle.graph_model.specs.Names.{zeros}
use Rattle.graph_model.proofs.NameOrder.{names_apart, split_bytes, longer_bytes, text_length}
use Rattle.graph_model.proofs.ranges.name_after.Goals as goal

pub returns-then-text-lt32 : goal.returns-then-text-lt32
returns-then-text-lt32 c =
    let name = c.args.name.now in
    names_apart name c.filled_from.result c.as_slice-text.result.now 0 1 (zeros (31 - name.len)) c.filled_from.ensures.0
    (longer_bytes name c.as_slice-text.ensures.short (subst (λ n. n < 32) (ap length c.as_slice-text.ensures.text ∙ text_length name c.as_slice-text.ensures.short) c.if-text-lt32.true) ∙ ap (λ t. t ++ 0 ∷ zeros (31 - name.len)) (sym c.as_slice-text.ensures.text)) c.filled_from.ensures.1 (omega arith)

pub returns : goal.returns
returns c =
    let front = c.in-Some.front.now in
    let last = c.in-Some.last.now in
    names_apart c.args.name.now c.filled_from-2.result front last (last + 1) (zeros (32 - c.args.name.now.len)) c.filled_from-2.ensures.0
    (split_bytes c.args.name.now front last c.as_slice-text.ensures.short (sym c.as_slice-text.ensures.text ∙ c.in-Some.ensures.cases.0)) c.filled_from-2.ensures.1 (omega arith)
