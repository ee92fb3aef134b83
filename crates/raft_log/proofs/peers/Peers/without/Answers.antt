use Rattle.std.proofs.Common.{◌≡◌, ◌+◌, drop, get_or, false}
use Rattle.std.specs.Prelude.{◌==◌}
use Rattle.std.proofs.lemmas.Bool.{ne_eqb}
use Rattle.raft_log.specs.Peers.{but}
use Rattle.raft_log.proofs.PeerLemmas.{peers_next, peers_but, stays_in}
use Rattle.raft_log.proofs.peers.Peers.without.Goals as goal

pub push-requires : goal.push-requires
push-requires c =
    let ids = c.args.self.now in
    let id = c.args.id in
    let i = c.loop-other.other-index in
    let is = c.as_slice-other-items.ensures.ids in
    let apart : get_or ids i 0 == id ≡ false = ne_eqb (get_or ids i 0) id (rw is at c.if-other-id.true) in
    rw is (peers_next (but id ids) c.loop-other.others (but id (drop (i + 1) ids)) (get_or ids i 0) (peers_but id ids c.as_slice-other-items.ensures.peers)
    (stays_in c.loop-other.others ids id i (rw is at c.loop-other-test.true) apart c.loop-other.invariant))
