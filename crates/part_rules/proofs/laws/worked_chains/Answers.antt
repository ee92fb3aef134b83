use Rattle.std.proofs.Common.{refl}
use Rattle.part_rules.proofs.Computing.{computing}
use Rattle.part_rules.proofs.laws.worked_chains.Goals as goal

pub returns : goal.returns
returns c = record {
  begun = simp computing;
  again = simp computing;
  old = simp computing;
  in_conflict = simp computing;
  settled = simp computing;
  gone = simp computing;
  shown = simp computing;
  doubled = simp computing;
  no_local = simp computing;
  no_abort = simp computing;
  closed = simp computing;
  no_close = simp computing;
  aborted = simp computing;
  one_taken = simp computing;
  skipped = simp computing;
  remoted = simp computing;
  shown_there = simp computing;
  writing = simp computing;
  not_twice = simp computing;
  later = simp computing;
  found = simp computing;
  fenced = simp computing;
  late = simp computing;
  late_fence = simp computing;
  kept_gone = simp computing (refl, refl);
  tagged = simp computing;
  tag_left = simp computing;
  untagged = simp computing;
}
