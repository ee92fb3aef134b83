use Rattle.std.proofs.Common.{◌≡◌, ℕ, List, ◌∷◌, ◌+◌, drop, ap, sym, ◌∙◌}
use Rattle.std.specs.Prelude.{◌&&◌, not}
use Rattle.std.specs.FinMap.{contains_key}
use Rattle.std.proofs.lemmas.List.{drop_more}
use Rattle.part_keys.specs.declared.entry.PartEntry.{PartEntry}
use Rattle.chain_leader.specs.Leading.{chain_in}
use Rattle.replica_state.specs.Places.{number_held}
use Rattle.replica_peer.specs.Ended.{ends_at, ends_among}
use Rattle.replica_peer.proofs.Spent.{zero_where, more_gone}
use Rattle.replica_peer.proofs.hints.use_up_gone.Goals as goal

pub loop-placed-preserved : goal.loop-placed-preserved
loop-placed-preserved c = λ v.
    let at = c.loop-placed in
    let i = at.placed-index in
    let x = c.placed-item.result in
    let gone = not (contains_key c.args.table.now.0 v) in
    let rest = drop (i + 1) c.args.entries.now in
    let e : drop i c.args.entries.now ≡ x ∷ rest = drop_more c.args.entries.now i x c.loop-placed-test.true ∙ ap (λ y. y ∷ rest) (sym c.placed-item.is) in
    ap (zero_where (ends_among v rest && gone)) (c.use_up_ended.ensures v ∙ ap (λ ended. zero_where (ends_at v ended && gone) (number_held at.hints.entries v)) c.chain_in.ensures)
    ∙ more_gone (ends_at v (chain_in x.1)) (ends_among v rest) gone (number_held at.hints.entries v)
    ∙ ap (λ (xs : List (ℕ × PartEntry)). zero_where (ends_among v xs && gone) (number_held at.hints.entries v)) (sym e)
    ∙ at.invariant v
