use Rattle.std.proofs.Common.{◌≡◌, ap, sym, ◌∙◌, [], ◌++◌, ◌-◌, take}
use Rattle.traversal.specs.Sets.{without_all}
use Rattle.traversal.proofs.SetLemmas.{last_goes_first, none_out}
use Rattle.traversal.proofs.ends.Ends.take_out.Goals as goal

pub loop-v-preserved : goal.loop-v-preserved
loop-v-preserved c =
    ap (without_all c.pop.new.self.items) c.take.ensures
    ∙ sym (last_goes_first c.in-Some.v c.pop.new.self.items c.loop-v.self)
    ∙ ap (λ l. without_all l c.loop-v.self) (sym c.in-Some.ensures.items)
    ∙ c.loop-v.invariant

pub returns : goal.returns
returns c =
    let none : c.loop-v.fresh.items ≡ [] = c.in_default.ensures.items ∙ ap (λ l. l ++ []) (c.in_default.ensures.rest ∙ ap (λ n. take (n - 1) c.loop-v.fresh.items) c.in_default.ensures.cases.0) in
    sym (none_out c.loop-v.self) ∙ ap (λ l. without_all l c.loop-v.self) (sym none) ∙ c.loop-v.invariant
