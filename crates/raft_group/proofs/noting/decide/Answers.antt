use Rattle.std.proofs.Common.{◌≡◌, ◌<◌, ◌-◌, ◌++◌, ◌&&◌, length, take, drop, true, ap, sym, ◌∙◌, arith}
use Rattle.std.specs.Prelude.{nat_lt}
use Rattle.std.proofs.lemmas.Bool.{and_from, cond-true, lt-ltb}
use Rattle.std.proofs.lemmas.Result.{on_ok_weaker}
use Rattle.raft_core.specs.declared.view.PeerView.{PeerView}
use Rattle.raft_core.specs.Core.{is_leading}
use Rattle.raft_core.specs.Peer.{core_of}
use Rattle.raft_core.proofs.Copying.{between}
use Rattle.raft_group.proofs.noting.decide.Goals as goal

pub returns : goal.returns
returns c =
    let core = core_of c.args.core.now in
    let decided = c.args.decided.now in
    let have = c.len-have.result in
    let upto = c.view-view.result.commit in
    let entries = c.entries-entries.result.now in
    let count : have ≡ length decided = c.len-have.ensures in
    let commit : upto ≡ core.commit = ap (λ (v : PeerView). v.commit) c.view-view.ensures in
    let log : entries ≡ core.log = c.entries-entries.ensures.entries ∙ c.log.ensures.log in
    let leads : is_leading core.role ≡ true = sym (c.leads.ensures ∙ ap (λ (v : PeerView). is_leading v.role) c.view-view.ensures) ∙ c.if-not-leads.false in
    let passed : have < upto = c.if-commit-have.false in
    let below : length decided < core.commit = omega arith in
    let both = and_from (is_leading core.role) (nat_lt (length decided) core.commit) leads (lt-ltb (length decided) core.commit below) in
    let more : take (upto - have) (drop have entries) ≡ drop (length decided) (take core.commit core.log) =
    between have upto entries (omega arith) ∙ (λ i. drop (count i) (take (commit i) (log i))) in
    on_ok_weaker c.put_behind.result
    (λ put. put ∙ ap (λ xs. decided ++ xs) more
    ∙ sym (cond-true (is_leading core.role && nat_lt (length decided) core.commit) (decided ++ drop (length decided) (take core.commit core.log)) decided both))
    c.put_behind.ensures
