use Rattle.std.proofs.Common.{◌≡◌, ◌++◌, [], flat_map, List, inl, inr, sym, ap, ◌∙◌}
use Rattle.std.proofs.lemmas.List.{append-nil}
use Rattle.std.specs.List.{zip}
use Rattle.graph_model.specs.declared.found.Found.{Found}
use Rattle.graph_model.specs.declared.query.Query.{Query}
use Rattle.shown_rows.specs.Rows.{read_rows}
use Rattle.shown_rows.proofs.ZipLemmas.{first_ended, second_ended}
use Rattle.shown_rows.proofs.shown.fetched_rows.Goals as goal

pub returns : goal.returns
returns c =
    let reads = c.loop-read.read-iterator.a.rest.now in
    let views = c.loop-read.read-iterator.b.rest.now in
    let ended : zip reads views ≡ [] = elim c.in-None.ensures.steps [
      | inl e ↦ first_ended reads views e.1.0
      | inr e ↦ second_ended reads views e.1.0
    ] in
    let rows_from = λ (left : List (Query × List Found)). c.loop-read.rows ++ flat_map (read_rows c.args.book.now.edges c.args.plan.now.shown) left in
    sym (append-nil c.loop-read.rows) ∙ sym (ap rows_from ended) ∙ c.loop-read.invariant
