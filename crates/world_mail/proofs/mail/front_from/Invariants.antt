use Rattle.std.proofs.Common.{◌≤◌, ◌-◌}
use Rattle.world_mail.specs.Blocks.{sent_in}
use Rattle.world_mail.specs.Sent.{front_of}
use Rattle.world_mail.proofs.mail.front_from.Given as goal

abbrev pub invariant-loop-front : goal.invariant-loop-front
invariant-loop-front l = l.front ≤ front_of (sent_in l.blocks)

abbrev pub decreases-loop-front : goal.decreases-loop-front
decreases-loop-front l = l.len - l.front
