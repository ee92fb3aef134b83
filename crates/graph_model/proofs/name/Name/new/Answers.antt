use Rattle.std.proofs.Common.{ℕ, List, ◌++◌, length, ap, subst, sym}
use Rattle.graph_model.specs.Names.{IsShortText}
use Rattle.graph_model.proofs.NameLemmas.{drop-zeros, named}
use Rattle.graph_model.proofs.name.Name.new.Goals as goal

pub returns : goal.returns
returns c = rw c.copy_from_slice.ensures.after (ap (λ (behind : List ℕ). record { bytes = c.args.text.now ++ behind; len = length c.args.text.now }) (drop-zeros (length c.args.text.now) 32))

pub invariant_of-result : goal.invariant_of-result
invariant_of-result c =
    rw c.copy_from_slice.ensures.after (subst (λ (behind : List ℕ). IsShortText (record { bytes = c.args.text.now ++ behind; len = length c.args.text.now })) (sym (drop-zeros (length c.args.text.now) 32)) (named c.args.text.now c.requires))
