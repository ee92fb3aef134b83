use Rattle.std.proofs.Common.{◌≡◌, Some, cond, ap, sym, ◌∙◌}
use Rattle.std.specs.FinMap.{get}
use Rattle.maps.proofs.Keys.{nat_keys}
use Rattle.maps.proofs.Updates.{get-with_at}
use Rattle.replica_state.specs.Places.{held, standing}
use Rattle.replica_peer.proofs.Empty.{none_held}
use Rattle.replica_peer.specs.Next.{senders_left, senders_by}
use Rattle.replica_peer.proofs.Spent.{told}
use Rattle.replica_peer.proofs.taking.senders_on.Goals as goal

pub returns-then-not-on : goal.returns-then-not-on
returns-then-not-on c = ap (λ es. held es) c.clear.ensures.empty ∙ none_held ∙ ap (λ on. senders_left on c.args.sender (held c.args.senders.now.entries)) (sym c.if-not-on.true)

pub returns : goal.returns
returns c =
    let es = c.args.senders.now.entries in
    let index = c.in-Some.index in
    let filled : held c.fill.new.places.entries ≡ senders_by (Some (index, c.in-Some.place)) (held es) =
    λ i v. (ap (λ m. get m v) c.fill.ensures.filled ∙ get-with_at nat_keys (standing es) index (Some c.in-Some.place) v ∙ ap (λ b. cond b (Some c.in-Some.place) (held es v)) (told v index)) i in
    filled ∙ cc
