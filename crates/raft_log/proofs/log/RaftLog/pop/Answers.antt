use Rattle.std.proofs.Common.{◌≡◌, min, length, ◌∷◌, [], ap, arith, ◌∙◌}
use Rattle.raft_log.specs.declared.entry.Entry.{Entry}
use Rattle.raft_log.specs.Config.{IsItem}
use Rattle.raft_log.specs.Rising.{rising}
use Rattle.raft_log.specs.Places.{config_places, forgotten}
use Rattle.raft_log.proofs.PlaceLemmas.{pop_kept, all_front}
use Rattle.raft_log.proofs.RisingLemmas.{cut_is}
use Rattle.raft_log.proofs.log.RaftLog.pop.Goals as goal

pub invariant_of-self : goal.invariant_of-self
invariant_of-self c = (
  c.forget.ensures.places ∙ ap (forgotten c.in-Some.entry.item) (c.self.invariant.0 ∙ ap config_places c.in-Some.ensures.items) ∙ pop_kept c.pop.new.self.items c.in-Some.entry,
  all_front (λ (entry : Entry). IsItem entry.item) c.pop.new.self.items (c.in-Some.entry ∷ []) (rw c.in-Some.ensures.items at c.self.invariant.1),
  (let n : c.min-self-inside.result ≡ min c.self.inside.rising (length c.pop.new.self.items) = omega (arith, c.min-self-inside.ensures, c.len.ensures) in
      n ∙ ap (λ r. min r (length c.pop.new.self.items)) (c.self.invariant.2 ∙ ap rising c.in-Some.ensures.items) ∙ cut_is c.pop.new.self.items c.in-Some.entry),
)

pub invariant_of-self-in-Some-2 : goal.invariant_of-self-in-Some-2
invariant_of-self-in-Some-2 c = (
  c.forget.ensures.places ∙ ap (forgotten c.in-Some.entry.item) (c.self.invariant.0 ∙ ap config_places c.in-Some.ensures.items) ∙ pop_kept c.pop.new.self.items c.in-Some.entry,
  all_front (λ (entry : Entry). IsItem entry.item) c.pop.new.self.items (c.in-Some.entry ∷ []) (rw c.in-Some.ensures.items at c.self.invariant.1),
  (let n : c.min-self-inside.result ≡ min c.self.inside.rising (length c.pop.new.self.items) = omega (arith, c.min-self-inside.ensures, c.len.ensures) in
      n ∙ ap (λ r. min r (length c.pop.new.self.items)) (c.self.invariant.2 ∙ ap rising c.in-Some.ensures.items) ∙ cut_is c.pop.new.self.items c.in-Some.entry),
)
