use Rattle.std.proofs.Common.{ap, sym, subst, ◌∙◌}
use Rattle.kv_part.specs.Store.{Contents}
use Rattle.part_machine.specs.Chains.{Chains, standing}
use Rattle.part_machine.specs.Playing.{undone, returned, AreBacksPlaced}
use Rattle.part_machine.proofs.Runs.{undone_more, returned_more, backs_split, backs_stay}
use Rattle.part_machine.proofs.playing.take_back.Goals as goal

pub backs-preserved : goal.backs-preserved
backs-preserved g c =
    let meaning = g.S.KeyStore.meaning in
    let has = g.S.KeyStore.has_place in
    let rest = c.pop.new.self.items in
    let split = backs_split (has c.backs.machine.store) c.backs.machine.chains.entries rest c.in-Some.back (subst (AreBacksPlaced (has c.backs.machine.store) c.backs.machine.chains.entries) c.in-Some.ensures.items c.backs.invariant.placed) in
    record {
      store = ap (λ (m : Contents). undone m rest) c.write.ensures.written ∙ sym (undone_more (meaning c.backs.machine.store) rest c.in-Some.back) ∙ sym (ap (undone (meaning c.backs.machine.store)) c.in-Some.ensures.items) ∙ c.backs.invariant.store;
      chains = ap (λ (m : Chains). returned m rest) c.take_turn.ensures.turned ∙ sym (returned_more (standing c.backs.machine.chains.entries) rest c.in-Some.back) ∙ sym (ap (returned (standing c.backs.machine.chains.entries)) c.in-Some.ensures.items) ∙ c.backs.invariant.chains;
      placed = backs_stay (record { writes = λ key here. c.write.ensures.places key ∙ here; turns = c.take_turn.ensures.kept }) rest split.0;
      kept = record { writes = λ key here. c.write.ensures.places key ∙ c.backs.invariant.kept.writes key here; turns = λ q here. c.take_turn.ensures.kept q (c.backs.invariant.kept.turns q here) };
      plans = c.backs.invariant.plans;
      setting = c.backs.invariant.setting;
      next = c.backs.invariant.next;
    }
