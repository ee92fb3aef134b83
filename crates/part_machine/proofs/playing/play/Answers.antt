use Rattle.std.proofs.Common.{ap, sym, subst, refl, ◌∙◌, arith, rules}
use Rattle.kv_part.specs.Store.{Contents, HasPlaces, written}
use Rattle.kv_part.proofs.Writes.{places_same}
use Rattle.part_machine.specs.Chains.{Chains, standing, turned, turn_back}
use Rattle.part_machine.specs.Placed.{HasTurnPlace}
use Rattle.part_machine.specs.Undone.{backs}
use Rattle.part_machine.proofs.Runs.{turn_stays, backs_have_places, back_turn_placed}
use Rattle.part_machine.proofs.playing.play.Goals as goal

pub returns-clause-ok : goal.returns-clause-ok
returns-clause-ok g c =
    let meaning = g.S.KeyStore.meaning in
    let has = g.S.KeyStore.has_place in
    let plan = c.in_ok-plan.plan in
    let later = c.take_turn.new.places.entries in
    let writes = c.in_ok-batch_back.ensures ∙ ap (λ (m : Contents). backs m plan.batch) c.reserve.ensures.same in
    let turn = c.in_ok-back_of_turn.ensures ∙ ap (λ (m : Chains). turn_back m plan.turn) c.hold_turn.ensures.same in
    let placed = places_same (has c.reserve.new.self) (has c.write.new.self) plan.batch c.write.ensures.places c.in_ok-reserve.ensures.reserved in
    let turn_placed = turn_stays c.hold_turn.new.places.entries later plan.turn c.take_turn.ensures.kept c.in_ok-hold_turn.ensures.held in
    record {
      plan = plan;
      back = record { batch = c.in_ok-batch_back.field-0; turn = c.in_ok-back_of_turn.field-0 };
      plans = search rules;
      list_more = search rules;
      store = c.write.ensures.written ∙ ap (written (meaning c.reserve.new.self)) c.in_ok-batch.ensures ∙ ap (λ (m : Contents). written m plan.batch) c.reserve.ensures.same;
      chains = c.take_turn.ensures.turned ∙ ap (turned (standing c.hold_turn.new.places.entries)) c.in_ok-turn.ensures ∙ ap (λ (m : Chains). turned m plan.turn) c.hold_turn.ensures.same;
      writes = writes;
      turn = turn;
      placed = record { writes = placed; turn = turn_placed };
      back_placed = record {
        writes = subst (HasPlaces (has c.write.new.self)) (sym writes) (backs_have_places (has c.write.new.self) (meaning c.args.machine.now.store) plan.batch placed);
        turn = subst (HasTurnPlace later) (sym turn) (back_turn_placed later (standing c.args.machine.now.chains.entries) plan.turn turn_placed);
      };
      kept = record { writes = λ key here. c.write.ensures.places key ∙ c.reserve.ensures.kept key here; turns = λ q here. c.take_turn.ensures.kept q (c.hold_turn.ensures.kept q here) };
      next = omega arith;
      setting = refl;
      does = λ p st. c.in_ok-plan.ensures p c.args.machine.now.next c.requires.next st;
    }
