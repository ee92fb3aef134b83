-- A group keeps the configuration with which it began.
use Rattle.std.proofs.Common.{◌≡◌, ℕ, List, [], ◌∷◌, Option, Some, None, Bool, true, false, refl, ◌∙◌}
use Rattle.std.proofs.lemmas.Bool.{cond_both}
use Rattle.raft_log.specs.Majority.{is_among}
use Rattle.raft_core.specs.declared.input.RaftInput.{RaftInput}
use Rattle.raft_group.specs.declared.event.GroupEvent.{GroupEvent}
use Rattle.raft_group.specs.declared.event.GroupEvent.TheVariants.{Step, StepCrash, Crash, Place, Wipe}
use Rattle.raft_group.specs.Group.{Group, input_of, at_member, took, stopped, with_crash, with_peer, without_peer, may_place, may_wipe, after, run_from}

took_first : (g : Group) (peer : ℕ) (input : Option RaftInput) → (took g peer input).first ≡ g.first
took_first g peer None = refl
took_first g peer (Some input) = refl

stopped_first : (g : Group) (peer : ℕ) (input : Option RaftInput) (kept : Bool) → (stopped g peer input kept).first ≡ g.first
stopped_first g peer None kept = refl
stopped_first g peer (Some input) true = refl
stopped_first g peer (Some input) false = refl

at_first : (g : Group) (peer : ℕ) (behind : Group) → behind.first ≡ g.first → (at_member g peer behind).first ≡ g.first
at_first g peer behind same = cond_both (is_among peer g.members) behind g (λ (h : Group). h.first ≡ g.first) (λ there. same) (λ gone. refl)

after_first : (g : Group) (event : GroupEvent) → (after g event).first ≡ g.first
after_first g (Step peer spur) = at_first g peer (took g peer (input_of g peer spur)) (took_first g peer (input_of g peer spur))
after_first g (StepCrash peer spur kept) = at_first g peer (stopped g peer (input_of g peer spur) kept) (stopped_first g peer (input_of g peer spur) kept)
after_first g (Crash peer) = at_first g peer (with_crash g peer) refl
after_first g (Place peer) = cond_both (may_place g peer) (with_peer g peer) g (λ (h : Group). h.first ≡ g.first) (λ may. refl) (λ not. refl)
after_first g (Wipe peer) =
    at_first g peer _ (cond_both (may_wipe g peer) (without_peer g peer) g (λ (h : Group). h.first ≡ g.first) (λ may. refl) (λ not. refl))

pub run_first : (events : List GroupEvent) (g : Group) → (run_from g events).first ≡ g.first
run_first [] g = refl
run_first (event ∷ events) g = run_first events (after g event) ∙ after_first g event
