-- what was made is what so many of the changes leave of the vertex
use Rattle.std.proofs.Common.{◌≤◌, ◌-◌, take}
use Rattle.graph_model.specs.Contents.{nothing}
use Rattle.graph_model.specs.Changes.{after_all}
use Rattle.graph_model.specs.Alike.{AlikeAt}
use Rattle.graph_model.proofs.track.made_again.Given as goal

abbrev pub invariant-marks : goal.invariant-marks
invariant-marks l = record {
  below : l.from ≤ l.m;
  alike : AlikeAt l.v l.made (after_all nothing (take l.from l.changes));
}

abbrev pub decreases-marks : goal.decreases-marks
decreases-marks l = l.m - l.from
