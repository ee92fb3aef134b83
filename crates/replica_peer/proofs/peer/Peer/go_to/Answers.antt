use Rattle.std.proofs.Common.{ℕ, ap, sym, ◌∙◌}
use Rattle.replica_peer.specs.Next.{goes_to}
use Rattle.replica_peer.specs.Peer.{home_of, replica_of}
use Rattle.replica_peer.proofs.Spent.{one_pointed}
use Rattle.replica_peer.proofs.peer.Peer.go_to.Goals as goal

pub returns-in-Points-clause-replica : goal.returns-in-Points-clause-replica
returns-in-Points-clause-replica g c =
    ap (λ (h : ℕ → ℕ). record (replica_of c.args.self.now) { hints = h }) (one_pointed c.args.self.now.state.hints.entries c.fill.new.places.entries c.in-Points.v c.in-Points.peer c.fill.ensures.filled)
    ∙ ap (goes_to (home_of c.args.self.now) (replica_of c.args.self.now)) (sym c.in-Points.is)
