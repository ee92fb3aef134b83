use Rattle.std.proofs.Common.{◌≡◌, ◌++◌, ℕ, Bool, None, map, ap, sym, subst, ◌∙◌}
use Rattle.std.specs.Prelude.{OnOk, if◌then◌else◌}
use Rattle.std.specs.Option.{option_to_list}
use Rattle.replica_model.specs.Letters.{packets_of}
use Rattle.replica_model.specs.Replica.{no_hints}
use Rattle.replica_model.specs.Stepped.{leaving}
use Rattle.replica_state.specs.Leaving.{leaving_of}
use Rattle.replica_state.specs.Places.{number_held}
use Rattle.replica_peer.proofs.Empty.{no_number}
use Rattle.replica_peer.proofs.leaving.post_on.Goals as goal

pub returns : goal.returns
returns c =
    let at = c.args.at.now in
    let hints : number_held c.new-none.result.entries ≡ (if at.on then number_held c.args.hints.now.entries else no_hints) =
    ap (λ es. number_held es) c.new-none.ensures.empty ∙ no_number
    ∙ ap (λ (b : Bool). if b then number_held c.args.hints.now.entries else no_hints) (sym c.if-at.false) in
    subst (λ (h : ℕ → ℕ). OnOk c.post_both-2.result (map leaving_of c.post_both-2.new.leaves ≡ map leaving_of c.args.leaves.now ++ map leaving (packets_of at.by.part at.by.me at.by.term h None (c.args.list.items ++ option_to_list c.args.last)))) hints c.post_both-2.ensures
