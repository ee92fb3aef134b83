use Rattle.std.proofs.Common.{◌≡◌, ℕ, suc, ◌+◌, List, ap, sym, subst, ◌∙◌, arith}
use Rattle.part_keys.specs.declared.entry.PartEntry.{PartEntry}
use Rattle.part_keys.specs.declared.proposal.Proposal.{Proposal}
use Rattle.part_machine.specs.Playing.{AreTaken}
use Rattle.raft_core.specs.declared.state.PeerState.{PeerState}
use Rattle.replica_state.specs.Places.{held}
use Rattle.replica_peer.specs.Peer.{replica_of}
use Rattle.replica_peer.specs.Placed.{senders_behind, kinds_at}
use Rattle.replica_peer.specs.Worked.{entries_at}
use Rattle.replica_peer.proofs.Reserved.{not_far, reserved}
use Rattle.replica_peer.proofs.peer.Peer.place.Goals as goal

pub place_all-requires : goal.place_all-requires
place_all-requires g c =
    let a = c.args.self.now in
    let same : c.state.result.now.commit ≡ (replica_of a).core.commit = ap (λ (s : PeerState). s.commit) c.state.ensures in
    let far = not_far g.S.KeyStore.meaning g.S.KeyStore.has_place a c.requires.sound c.args.committed.now c.in_ok-items.items.items c.in_ok-items.ensures.values c.requires.small in
    omega arith

pub reserve-requires-clause-taken : goal.reserve-requires-clause-taken
reserve-requires-clause-taken g c =
    let a = c.args.self.now in
    let same : c.state.result.now.commit ≡ (replica_of a).core.commit = ap (λ (s : PeerState). s.commit) c.state.ensures in
    let first : c.state.result.now.commit + 1 ≡ suc (replica_of a).core.commit = omega arith in
    subst (λ (xs : List (ℕ × PartEntry)). AreTaken a.machine.setting a.machine.next xs) (sym (c.in_ok-placing.ensures.entries ∙ ap (λ n. entries_at n c.in_ok-items.items.items) first))
    (reserved g.S.KeyStore.meaning g.S.KeyStore.has_place a c.requires.sound c.args.committed.now c.payloads_are_taken.ensures c.requires.own _ c.in_ok-items.ensures.values c.in_ok-items.ensures.written c.requires.small)

pub returns-clause-entries : goal.returns-clause-entries
returns-clause-entries g c =
    let a = c.args.self.now in
    let same : c.state.result.now.commit ≡ (replica_of a).core.commit = ap (λ (s : PeerState). s.commit) c.state.ensures in
    let first : c.state.result.now.commit + 1 ≡ suc (replica_of a).core.commit = omega arith in
    c.in_ok-placing.ensures.entries
    ∙ ap (λ n. entries_at n c.in_ok-items.items.items) first
    ∙ ap (λ (ds : List (ℕ × Proposal)). entries_at (suc (replica_of a).core.commit) ds) c.in_ok-items.ensures.values

pub returns-clause-kinds : goal.returns-clause-kinds
returns-clause-kinds g c =
    let a = c.args.self.now in
    let at = c.args.at.now in
    let same : c.state.result.now.commit ≡ (replica_of a).core.commit = ap (λ (s : PeerState). s.commit) c.state.ensures in
    let first : c.state.result.now.commit + 1 ≡ suc (replica_of a).core.commit = omega arith in
    let senders = senders_behind at.on at.appended (held a.state.senders.entries) in
    c.in_ok-placing.ensures.kinds
    ∙ ap (λ n. kinds_at senders n c.in_ok-items.items.items) first
    ∙ ap (λ (ds : List (ℕ × Proposal)). kinds_at senders (suc (replica_of a).core.commit) ds) c.in_ok-items.ensures.values
