use Rattle.std.proofs.Common.{ℕ, List, Option, drop, map}
use Rattle.std.proofs.Common.{◌≡◌}
use Rattle.part_keys.specs.declared.proposal.Proposal.{Proposal}
use Rattle.part_rules.specs.Part.{Part}
use Rattle.part_machine.specs.Machine.{IsMachine}
use Rattle.replica_model.specs.declared.packet.Place.{Place}
use Rattle.replica_state.specs.Leaving.{leaving_of}
use Rattle.replica_peer.specs.Along.{IsAlong}
use Rattle.replica_peer.specs.Peer.{home_in}
use Rattle.replica_peer.specs.Placed.{kinds_at}
use Rattle.replica_peer.specs.Worked.{entries_at, sent}
use Rattle.replica_peer.proofs.worked.work_ahead.Given as goal

-- with what is left all is sent
abbrev pub invariant-loop-kind : goal.invariant-loop-kind
invariant-loop-kind g l = (senders : ℕ → Option Place) (p : Part) (first : ℕ) (items : List (ℕ × Proposal)) → IsMachine g.S.KeyStore.meaning g.S.KeyStore.has_place p l.placing.entries l.machine
    → l.placing.entries ≡ entries_at first items → l.placing.kinds.items ≡ kinds_at senders first items
    → IsAlong (home_in l.machine.setting) l.by.me l.by.term senders p l.placing.entries (map leaving_of l.fn.leaves) (sent (home_in l.machine.setting) l.by.me l.by.term senders p l.ready first items) (drop l.kind-index l.kind-items) l.made
