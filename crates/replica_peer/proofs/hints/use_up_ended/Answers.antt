use Rattle.std.proofs.Common.{◌≡◌, None, ap, sym, ◌∙◌}
use Rattle.std.specs.Prelude.{◌&&◌, not}
use Rattle.std.specs.FinMap.{get, contains_key}
use Rattle.std.specs.Option.{option_copied}
use Rattle.maps.proofs.Pairs.{none_of}
use Rattle.replica_state.specs.Places.{number_held}
use Rattle.replica_peer.specs.Ended.{ends_at}
use Rattle.replica_peer.proofs.Spent.{zero_where, one_wiped, gone_is}
use Rattle.replica_peer.proofs.hints.use_up_ended.Goals as goal

pub returns : goal.returns
returns c = λ v.
    let t = c.args.table.now.0 in
    let w = c.in-Some.v in
    let n = number_held c.args.hints.now.entries v in
    let none : get t w ≡ None = sym c.get.ensures ∙ ap option_copied (none_of c.get.result (sym c.is_some.ensures ∙ c.if-is_some.false)) in
    one_wiped c.args.hints.now.entries c.wipe.new.places.entries w c.wipe.ensures v
    ∙ gone_is t v w n none
    ∙ ap (λ ended. zero_where (ends_at v ended && not (contains_key t v)) n) (sym c.in-Some.is)
