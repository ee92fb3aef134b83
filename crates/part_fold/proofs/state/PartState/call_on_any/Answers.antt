use Rattle.std.proofs.Common.{◌+◌, drop, ap, sym, ◌∙◌}
use Rattle.std.specs.Option.{option_map}
use Rattle.graph_model.specs.Edges.{edges_in}
use Rattle.part_rules.specs.Part.{chain_on, chain_on_any}
use Rattle.part_fold.specs.Standing.{id_of}
use Rattle.part_fold.specs.State.{part_of}
use Rattle.part_fold.proofs.Steps.{next_of, told_first, told_second}
use Rattle.part_fold.proofs.state.PartState.call_on_any.Goals as goal

pub returns-in-Some : goal.returns-in-Some
returns-in-Some c =
    let p = part_of c.args.self.now in
    let rest = chain_on_any p (edges_in (drop (c.loop-half.half-index + 1) c.args.list.now)) in
    sym (told_first id_of (chain_on p c.half-item.result.0) rest _ (sym c.in-Some.is ∙ c.on.ensures))
    ∙ ap (λ l. option_map id_of (chain_on_any p (edges_in l))) (sym (next_of c.args.list.now c.loop-half.half-index c.half-item.result c.loop-half-test.true c.half-item.is))
    ∙ c.loop-half.invariant

pub loop-half-preserved : goal.loop-half-preserved
loop-half-preserved c =
    let p = part_of c.args.self.now in
    let rest = chain_on_any p (edges_in (drop (c.loop-half.half-index + 1) c.args.list.now)) in
    sym (told_second id_of (chain_on p c.half-item.result.0) rest (sym c.in_default.is ∙ c.on.ensures))
    ∙ ap (λ l. option_map id_of (chain_on_any p (edges_in l))) (sym (next_of c.args.list.now c.loop-half.half-index c.half-item.result c.loop-half-test.true c.half-item.is))
    ∙ c.loop-half.invariant
