use Rattle.std.proofs.Common.{◌≡◌, subst, take, ◌<◌, min, max, length, true, false, ap, sym, ◌∙◌, arith}
use Rattle.std.specs.Bool.{OnTrue}
use Rattle.raft_log.specs.Rising.{IsOlder}
use Rattle.raft_core.specs.Core.{voters_of}
use Rattle.raft_core.specs.Ahead.{core_with}
use Rattle.raft_core.specs.Appends.{is_committable}
use Rattle.raft_core.specs.Commits.{known_of, greatest_had}
use Rattle.raft_core.proofs.Numbers.{committable_is, none_committable, from_start, at_most, step_at, step_below}
use Rattle.raft_core.proofs.counting.committed.Goals as goal

pub loop-left-init : goal.loop-left-init
loop-left-init c =
    let state = c.args.state.now in
    let log = c.args.log.now in
    let voters = voters_of (core_with state log) in
    let e : c.min-left.result ≡ min (greatest_had (known_of state (length log)) voters voters) (length log) = rw (c.greatest_had.ensures, c.requires, c.len-last.ensures.count) at c.min-left.ensures in
    ap (λ n. max state.commit n) (from_start state log (length log) c.min-left.result e)

pub returns-then-is_committable : goal.returns-then-is_committable
returns-then-is_committable c =
    let state = c.args.state.now in
    let log = c.args.log.now in
    let left = c.loop-left.left in
    let above : 0 < left = omega (arith, c.loop-left-test.true) in
    let t : is_committable (core_with state log) left ≡ true = committable_is state log left above ∙ (rw c.requires at (sym c.is_committable.ensures)) ∙ c.if-is_committable.true in
    let s = step_at state log left above t in
    let inv = c.loop-left.invariant in
    omega (arith, s, inv, c.loop-left-test.true)

pub loop-left-preserved : goal.loop-left-preserved
loop-left-preserved c =
    let state = c.args.state.now in
    let log = c.args.log.now in
    let left = c.loop-left.left in
    let above : 0 < left = omega (arith, c.loop-left-test.true) in
    let f : is_committable (core_with state log) left ≡ false = committable_is state log left above ∙ (rw c.requires at (sym c.is_committable.ensures)) ∙ c.if-is_committable.false in
    ap (λ n. max state.commit n) (sym (step_below state log left above f)) ∙ c.loop-left.invariant

pub returns : goal.returns
returns c =
    let most = at_most c.args.state.now c.args.log.now c.loop-left.left in
    let inv = c.loop-left.invariant in
    omega (arith, most, inv, c.loop-left-test.false)

pub returns-then-is_older : goal.returns-then-is_older
returns-then-is_older c =
    let state = c.args.state.now in
    let log = c.args.log.now in
    let voters = voters_of (core_with state log) in
    let left = c.min-left.result in
    let e : left ≡ min (greatest_had (known_of state (length log)) voters voters) (length log) = rw (c.greatest_had.ensures, c.requires, c.len-last.ensures.count) at c.min-left.ensures in
    let older : IsOlder state.term (take left log) = subst (λ b. OnTrue b (IsOlder state.term (take left log))) c.if-is_older.true c.is_older.ensures in
    let none = none_committable state log left (omega (arith, e)) older in
    let top = from_start state log (length log) left e in
    omega (arith, none, top)
