use Rattle.std.proofs.Common.{refl}
use Rattle.part_rules.proofs.Computing.{computing}
use Rattle.chain_leader.proofs.laws.worked_rules.Goals as goal

pub returns : goal.returns
returns c = record {
  entry = refl;
  part = refl;
  ready = refl;
  of_another = refl;
  primed = simp computing;
  left = simp computing;
  fencing = simp computing;
  putting = simp computing;
  put_double = simp computing;
  taken_again = simp computing;
  last_try = simp computing;
  behind = simp computing;
  old_resume = refl;
  local = simp computing;
  asked_once = simp computing;
  close = simp computing;
  old_done = refl;
  found = simp computing;
  abort = simp computing;
  no_abort = simp computing;
  given_up = simp computing;
  not_given_up = simp computing;
  told_fine = simp computing;
  told_pending = simp computing;
  told_again = simp computing;
  proposed = refl;
  not_here = refl;
  answered = simp computing;
  not_answered = simp computing;
  pulsed = refl;
}
