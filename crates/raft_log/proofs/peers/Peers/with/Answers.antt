use Rattle.std.proofs.Common.{◌≡◌, ◌+◌, List, ℕ, ◌∷◌, ◌++◌, drop, get_or, not, true, false, ap, sym, subst, ◌∙◌}
use Rattle.std.specs.Prelude.{◌&&◌, nat_lt}
use Rattle.std.proofs.Math.Seq.{append_snoc}
use Rattle.raft_log.specs.Peers.{IsPeers, put_among}
use Rattle.raft_log.proofs.PeerLemmas.{still_to_put, peers_next, peers_put, comes_next, comes_later, put_last}
use Rattle.raft_log.proofs.peers.Peers.with.Goals.{then-is_next, else-is_next}
use Rattle.raft_log.proofs.peers.Peers.with.Goals as goal

pub push-requires : goal.push-requires
push-requires c =
    let ids = c.args.self.now in
    let id = c.args.id in
    let i = c.loop-other.other-index in
    let is = c.as_slice-other-items.ensures.ids in
    let test : not c.loop-other.put && nat_lt id (get_or ids i 0) ≡ true = rw is at (sym c.is_next.ensures ∙ c.if-is_next.true) in
    peers_next (put_among id ids) c.loop-other.all (get_or ids i 0 ∷ drop (i + 1) ids) id
    (peers_put id ids c.requires.above c.ranges.id.fits c.requires.few c.requires.apart c.as_slice-other-items.ensures.peers)
    (comes_next c.loop-other.all ids c.loop-other.put id i (rw is at c.loop-other-test.true) c.loop-other.invariant test)

pub push-requires-in-loop-other : goal.push-requires-in-loop-other
push-requires-in-loop-other c =
    let ids = c.args.self.now in
    let id = c.args.id in
    let i = c.loop-other.other-index in
    let is = c.as_slice-other-items.ensures.ids in
    let x = get_or ids i 0 in
    let within = rw is at c.loop-other-test.true in
    let peers = peers_put id ids c.requires.above c.ranges.id.fits c.requires.few c.requires.apart c.as_slice-other-items.ensures.peers in
    elim c.if-is_next.branch [
      | then-is_next w ↦
          (let test : not c.loop-other.put && nat_lt id x ≡ true = rw is at (sym c.is_next.ensures ∙ w.if-is_next.true) in
          rw is (peers_next (put_among id ids) c.if-is_next.all (drop (i + 1) ids) x peers
          (ap (λ (xs : List ℕ). xs ++ x ∷ drop (i + 1) ids) (w.all-is ∙ w.push.ensures) ∙ append_snoc c.loop-other.all id (x ∷ drop (i + 1) ids)
          ∙ comes_next c.loop-other.all ids c.loop-other.put id i within c.loop-other.invariant test)))
      | else-is_next w ↦
          (let test : not c.loop-other.put && nat_lt id x ≡ false = rw is at (sym c.is_next.ensures ∙ w.if-is_next.false) in
          rw is (peers_next (put_among id ids) c.if-is_next.all (still_to_put c.loop-other.put id (drop (i + 1) ids)) x peers
          (ap (λ (xs : List ℕ). xs ++ x ∷ still_to_put c.loop-other.put id (drop (i + 1) ids)) w.all-is
          ∙ comes_later c.loop-other.all ids c.loop-other.put id i within c.loop-other.invariant test)))
    ]

pub push-requires-then-not-put : goal.push-requires-then-not-put
push-requires-then-not-put c =
    let ids = c.args.self.now in
    let is = c.as_slice-other-items.ensures.ids in
    let peers = peers_put c.args.id ids c.requires.above c.ranges.id.fits c.requires.few c.requires.apart c.as_slice-other-items.ensures.peers in
    subst IsPeers (sym (put_last c.loop-other.all ids c.loop-other.put c.args.id c.loop-other.other-index c.if-not-put.true (rw is at c.loop-other-test.false) c.loop-other.invariant)) peers
