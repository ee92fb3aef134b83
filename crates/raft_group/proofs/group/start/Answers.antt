use Rattle.std.proofs.Common.{[], ◌++◌, refl, sym, subst}
use Rattle.raft_group.specs.Held.{AreFounded}
use Rattle.raft_group.proofs.Founding.{found_none, started}
use Rattle.raft_group.proofs.Members.{peers_are_first}
use Rattle.raft_group.proofs.group.start.Goals as goal

pub returns-clause-group : goal.returns-clause-group
returns-clause-group c =
    let first = c.args.first.now in
    let none = subst (AreFounded first []) (sym c.new-peers.ensures) (found_none first) in
    let voters = subst (λ xs. AreFounded first xs c.found.new.peers) c.as_slice.ensures.ids (c.in_ok-found.ensures [] none) in
    let all = subst (λ xs. AreFounded first (first.voters ++ xs) c.found-2.new.peers) c.as_slice-2.ensures.ids (c.in_ok-found-2.ensures first.voters voters) in
    started first c.found-2.new.peers all _ refl c.new.ensures c.new-2.ensures

pub returns-clause-first : goal.returns-clause-first
returns-clause-first c = peers_are_first c.args.first.now c.as_slice.ensures.peers c.as_slice-2.ensures.peers
