use Rattle.std.proofs.Common.{ap, ◌∙◌}
use Rattle.std.specs.FinMap.{get}
use Rattle.maps.proofs.Made.{get_by_order}
use Rattle.graph_model.proofs.KeyLemmas.{in_keys}
use Rattle.graph_model.proofs.Orders.{in_order}
use Rattle.part_rules.specs.Part.{number_in}
use Rattle.part_fold.proofs.in_halves.InHalves.number.Goals as goal

pub returns-in-Some : goal.returns-in-Some
returns-in-Some c =
    ap number_in (c.in-Some.ensures.value ∙ get_by_order in_keys _ in_order c.self.inside.kept.entries c.of-key.result ∙ ap (λ m. get m c.of-key.result) c.self.view_is ∙ ap (get c.args.self.now) c.of-key.ensures)

pub returns-in-None : goal.returns-in-None
returns-in-None c =
    ap number_in (c.in-None.ensures.value ∙ get_by_order in_keys _ in_order c.self.inside.kept.entries c.of-key.result ∙ ap (λ m. get m c.of-key.result) c.self.view_is ∙ ap (get c.args.self.now) c.of-key.ensures)
