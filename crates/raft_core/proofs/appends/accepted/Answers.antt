use Rattle.std.proofs.Common.{◌≡◌, ◌∷◌, [], ◌+◌, min, max, length, drop, true, arith, take_all}
use Rattle.std.specs.Prelude.{◌==◌, if◌then◌else◌}
use Rattle.raft_log.specs.declared.message.RaftMsg.TheVariants.{Appended}
use Rattle.raft_core.specs.Ahead.{agreeing}
use Rattle.raft_core.specs.Appends.{reach}
use Rattle.raft_core.proofs.Accepting.{accepted_is}
use Rattle.raft_core.proofs.appends.accepted.Goals as goal

pub returns : goal.returns
returns c =
    let log = c.args.log.now.0 in
    let entries = c.args.entries.now in
    let previous = c.args.previous in
    let whole = take_all (length log) log (omega arith) in
    let count : c.agree-count.result ≡ agreeing (drop previous.index log) entries = rw (c.as_slice.ensures, c.len.ensures.count, whole) at c.agree-count.ensures.count in
    let keep : c.kept-keep.result ≡ (if c.agree-count.result == length entries then length log else previous.index + c.agree-count.result) = rw (c.len-2.ensures.count, c.len-3.ensures) at c.kept-keep.ensures in
    let new : c.in_ok-new.new ≡ drop c.agree-count.result entries = rw c.as_slice-2.ensures at c.in_ok-new.ensures in
    let sends : c.in_ok-sends.sends ≡ (c.args.from, Appended c.args.state.term true (reach previous entries) c.args.round) ∷ [] = rw c.len-4.ensures at c.in_ok-sends.ensures in
    let commit : c.max.result ≡ max c.args.state.commit (min c.args.commit (reach previous entries)) = rw (c.min.ensures, c.len-4.ensures) at c.max.ensures in
    accepted_is c.args.state log entries c.args.from previous c.args.commit c.args.round c.agree-count.result c.kept-keep.result c.max.result c.in_ok-new.new c.in_ok-sends.sends c.requires count keep new sends commit
