use Rattle.shown_rows.proofs.TreeLemmas.{leaves_answer}
use Rattle.shown_rows.proofs.laws.conditions_mean_their_trees.Goals as goal

pub returns : goal.returns
returns c = leaves_answer
