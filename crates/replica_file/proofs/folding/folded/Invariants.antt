use Rattle.std.proofs.Common.{◌≡◌, true, drop}
use Rattle.replica_file.specs.Grammar.{all_may}
use Rattle.replica_file.specs.Folded.{first_gate, left_by, folded}
use Rattle.replica_file.specs.Seen.{durable_of, last_gate}
use Rattle.replica_file.proofs.folding.folded.Given as goal

-- what the bodies that are left leave of what is left so far is what all leave; each entry so far may stand there; and the last
-- gate stays
abbrev pub invariant-loop-body : goal.invariant-loop-body
invariant-loop-body g l = record {
  fold : left_by (g.P.Payloads.allowed l.payloads) l.gate (durable_of l.left) (drop l.body-index l.bodies) ≡ folded (g.P.Payloads.allowed l.payloads) l.bodies;
  own : all_may (g.P.Payloads.allowed l.payloads) l.left.log.0 ≡ true;
  placed : last_gate l.gate (drop l.body-index l.bodies) ≡ last_gate first_gate l.bodies;
}
