use Rattle.std.proofs.Common.{◌≡◌, take}
use Rattle.chain_leader.specs.Resuming.{resumptions}
use Rattle.chain_leader.proofs.resuming.resumptions.Given as goal

-- the letters so far
abbrev pub invariant-loop-rec : goal.invariant-loop-rec
invariant-loop-rec l = l.letters ≡ resumptions l.term l.policy l.t.0 (take l.rec-index l.standing)
