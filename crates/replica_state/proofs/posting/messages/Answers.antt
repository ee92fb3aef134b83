use Rattle.std.proofs.Common.{◌≡◌, ◌∷◌, ◌++◌, [], map, length, ap, ◌∙◌, arith}
use Rattle.std.specs.Vec.Iter.{into_iter_items}
use Rattle.std.proofs.lemmas.List.{map-append}
use Rattle.replica_model.specs.declared.packet.Packet.{Packet}
use Rattle.replica_model.specs.Stepped.{leaving, message_of}
use Rattle.replica_state.specs.Leaving.{leaving_of}
use Rattle.replica_state.proofs.Posted.{one_more_of}
use Rattle.replica_state.proofs.posting.messages.Goals as goal

pub loop-to-preserved : goal.loop-to-preserved
loop-to-preserved c =
    let at = c.loop-to in
    let left = into_iter_items c.next.new.self in
    let split : into_iter_items at.to-iterator ≡ (c.in-Some.to, c.in-Some.message) ∷ left = c.in-Some.ensures.steps.0 in
    let short = ap length split in
    let put = ap (map leaving_of) c.in_ok-push.ensures.ok ∙ map-append leaving_of at.leaves (_ ∷ [])
    ∙ ap (λ (packet : Packet). map leaving_of at.leaves ++ leaving packet ∷ []) c.message_of-packet.ensures in (
      let was = at.invariant.0 in let gone = c.in-Some.ensures.steps.1 in omega arith,
      one_more_of (message_of c.args.by.part c.args.by.me) leaving (map leaving_of at.leaves) (map leaving_of c.push.new.self) (c.in-Some.to, c.in-Some.message) left (into_iter_items at.to-iterator) split put
          ∙ at.invariant.1,
    )
