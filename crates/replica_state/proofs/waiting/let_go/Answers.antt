use Rattle.std.proofs.Common.{rules, ◌≡◌, map, ap, ◌∙◌}
use Rattle.std.specs.Prelude.{not}
use Rattle.std.specs.List.{filter}
use Rattle.std.proofs.lemmas.Fn.{filter_same}
use Rattle.replica_model.specs.Replica.{Row}
use Rattle.replica_model.specs.Stepped.{is_confirmed}
use Rattle.replica_state.specs.State.{row_of}
use Rattle.replica_state.specs.declared.waiting.WaitingRead.{WaitingRead}
use Rattle.replica_state.proofs.Rows.{filter_of_map}
use Rattle.replica_state.proofs.waiting.let_go.Goals as goal

pub returns : goal.returns
returns c =
    let is : c.retain.new.self.items ≡ filter (λ (w : WaitingRead). not (is_confirmed c.args.confirmed (row_of w))) c.args.rows.now.items = filter_same _ _ _ (λ x b f' k. search rules) _ _ c.retain.ensures.filtered in
    ap (map row_of) is ∙ filter_of_map (λ (row : Row). not (is_confirmed c.args.confirmed row)) row_of c.args.rows.now.items
