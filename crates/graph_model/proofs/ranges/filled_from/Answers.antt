use Rattle.std.proofs.Common.{List, ℕ, [], ◌∷◌, ap, ◌∙◌}
use Rattle.graph_model.proofs.NameOrder.{filled_at}
use Rattle.graph_model.proofs.ranges.filled_from.Goals as goal

-- 32 times the same
abbrev many : ℕ → List ℕ
many f = f ∷ f ∷ f ∷ f ∷ f ∷ f ∷ f ∷ f ∷ f ∷ f ∷ f ∷ f ∷ f ∷ f ∷ f ∷ f ∷ f ∷ f ∷ f ∷ f ∷ f ∷ f ∷ f ∷ f ∷ f ∷ f ∷ f ∷ f ∷ f ∷ f ∷ f ∷ f ∷ []

pub returns : goal.returns
returns c =
    let r = filled_at c.args.front.now c.copy_from_slice.new.self (many c.args.fill) c.args.byte c.copy_from_slice.ensures.after c.requires in
    (r.0, ap (λ n. n.bytes) c.new.ensures ∙ r.1)
