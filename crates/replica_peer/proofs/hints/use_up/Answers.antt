use Rattle.std.proofs.Common.{◌≡◌, ℕ, List, ◌∷◌, ◌+◌, get_or, drop, ap, sym, ◌∙◌}
use Rattle.std.specs.Prelude.{◌==◌}
use Rattle.std.specs.List.{list_any}
use Rattle.std.proofs.lemmas.List.{drop_more}
use Rattle.replica_state.specs.Places.{number_held}
use Rattle.replica_peer.proofs.Spent.{zero_where, more, one_wiped}
use Rattle.replica_peer.proofs.hints.use_up.Goals as goal

pub loop-v-preserved : goal.loop-v-preserved
loop-v-preserved c = λ v.
    let at = c.loop-v in
    let i = at.v-index in
    let w = get_or c.args.told.now i 0 in
    let rest = drop (i + 1) c.args.told.now in
    let e : drop i c.args.told.now ≡ w ∷ rest = drop_more c.args.told.now i 0 c.loop-v-test.true in
    ap (zero_where (list_any (λ w. v == w) rest)) (one_wiped at.hints.entries c.wipe.new.places.entries w c.wipe.ensures v)
    ∙ more (v == w) (list_any (λ w. v == w) rest) (number_held at.hints.entries v)
    ∙ ap (λ (ws : List ℕ). zero_where (list_any (λ w. v == w) ws) (number_held at.hints.entries v)) (sym e)
    ∙ at.invariant v
