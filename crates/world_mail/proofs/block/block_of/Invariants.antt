use Rattle.std.proofs.Common.{◌-◌}
use Rattle.world_mail.proofs.Numbering.{IsBetween}
use Rattle.world_mail.proofs.block.block_of.Given as goal

abbrev pub invariant-loop-high : goal.invariant-loop-high
invariant-loop-high l = IsBetween l.blocks l.number l.low l.high

abbrev pub decreases-loop-high : goal.decreases-loop-high
decreases-loop-high l = l.high - l.low
