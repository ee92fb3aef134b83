use Rattle.std.proofs.Common.{false, List, [], ◌∷◌, ◌++◌, refl, ap, ◌∙◌}
use Rattle.part_keys.specs.declared.proposal.Proposal.{Proposal}
use Rattle.part_keys.specs.declared.proposal.Proposal.TheVariants.{Start}
use Rattle.chain_run.specs.declared.leaders.Seated.{Seated}
use Rattle.chain_run.proofs.Seating.{is_new}
use Rattle.chain_run.proofs.leading.new_leader.Goals as goal

pub returns : goal.returns
returns c =
    let seated : Seated = record { lead = record { ready = false; policy = c.args.policy; table = c.new.result }; applied = c.args.applied; made = c.push.new.self; senders = c.new-2.result } in
    is_new seated c.args.policy c.args.applied refl refl c.new.ensures refl (c.in_ok-push.ensures.ok ∙ ap (λ (made : List Proposal). made ++ Start ∷ []) c.new-made.ensures) c.new-2.ensures
