use Rattle.std.proofs.Common.{ap, ◌∙◌}
use Rattle.replica_model.specs.Replica.{machine_of}
use Rattle.raft_core.specs.declared.state.PeerState.{PeerState}
use Rattle.replica_peer.specs.Peer.{home_of, replica_of}
use Rattle.replica_peer.proofs.Standing.{are_standing, letters_are, table_is}
use Rattle.replica_peer.proofs.peer.Peer.taken_up.Goals as goal

pub returns-clause-letters : goal.returns-clause-letters
returns-clause-letters g c =
    let a = c.args.self.now in
    let home = home_of a in
    let r = replica_of a in
    let m = machine_of home r in
    let was = c.requires.sound in
    letters_are c.prepared.result m c.args.after c.as_slice.result.now c.more_primes-more.result
    (are_standing c.named_by_prime.ensures home r c.args.after c.unwrap_or-behind.result c.as_slice.result.now c.more_primes-more.result c.unwrap_or-behind.ensures
    (c.as_slice.ensures ∙ c.in_ok-standing.ensures m was.reserved was.shows) (c.more_primes-more.ensures m was.reserved was.shows))
    c.state.result.now.term r.core.term (ap (λ (s : PeerState). s.term) c.state.ensures) r.lead c.prepared.ensures.letters

pub returns-clause-table : goal.returns-clause-table
returns-clause-table g c =
    let a = c.args.self.now in
    let home = home_of a in
    let r = replica_of a in
    let m = machine_of home r in
    let was = c.requires.sound in
    table_is c.prepared.result m c.args.after c.as_slice.result.now c.more_primes-more.result
    (are_standing c.named_by_prime.ensures home r c.args.after c.unwrap_or-behind.result c.as_slice.result.now c.more_primes-more.result c.unwrap_or-behind.ensures
    (c.as_slice.ensures ∙ c.in_ok-standing.ensures m was.reserved was.shows) (c.more_primes-more.ensures m was.reserved was.shows))
    c.state.result.now.term r.core.term (ap (λ (s : PeerState). s.term) c.state.ensures) r.lead c.prepared.ensures.rows
