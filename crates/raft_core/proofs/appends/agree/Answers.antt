use Rattle.std.proofs.Common.{◌+◌, ap, arith}
use Rattle.raft_core.proofs.Agreeing.{walk_out, walk_all, walk_apart, walk_same}
use Rattle.raft_core.proofs.appends.agree.Goals.{then-last-index-via-then-last-index, then-last-index-via-else-last-index+then-term_at-entry}
use Rattle.raft_core.proofs.appends.agree.Goals as goal

pub returns-then-last-index-clause-count : goal.returns-then-last-index-clause-count
returns-then-last-index-clause-count c =
    let log = c.args.log.now.0 in
    let entries = c.args.entries.now in
    let count = c.loop-entry.count in
    let rest = c.loop-entry.invariant.rest in
    elim c.then-last-index.branch [
      | then-last-index-via-then-last-index w ↦
          (let z = walk_out log entries c.args.bound c.args.behind count (omega (arith, w.if-last-index.true, c.min-last.ensures, c.len.ensures.count)) in
          omega (arith, z, rest))
      | then-last-index-via-else-last-index+then-term_at-entry w ↦
          (let is = rw (← c.loop-entry.invariant.count) at c.entry-item.is in
          let z = walk_apart log entries c.args.bound c.args.behind count c.entry-item.result (omega (arith, w.if-last-index.false, c.min-last.ensures, c.len.ensures.count)) (omega (arith, c.loop-entry-test.true, c.loop-entry.invariant.count)) is
          (rw w.term_at.ensures at w.if-term_at-entry.true) in
          omega (arith, z, rest))
    ]

pub loop-entry-preserved : goal.loop-entry-preserved
loop-entry-preserved c =
    let log = c.args.log.now.0 in
    let entries = c.args.entries.now in
    let count = c.loop-entry.count in
    let rest = c.loop-entry.invariant.rest in
    let is = rw (← c.loop-entry.invariant.count) at c.entry-item.is in
    let z = walk_same log entries c.args.bound c.args.behind count c.entry-item.result (omega (arith, c.if-last-index.false, c.min-last.ensures, c.len.ensures.count)) (omega (arith, c.loop-entry-test.true, c.loop-entry.invariant.count)) is
    (rw c.term_at.ensures at c.if-term_at-entry.false) in
    record {
      count = ap (λ n. n + 1) c.loop-entry.invariant.count;
      within = omega (arith, c.if-last-index.false);
      rest = omega (arith, z, rest);
    }

pub returns-clause-count : goal.returns-clause-count
returns-clause-count c =
    let z = walk_all c.args.log.now.0 c.args.entries.now c.args.bound c.args.behind c.loop-entry.count (omega (arith, c.loop-entry-test.false, c.loop-entry.invariant.count)) in
    let rest = c.loop-entry.invariant.rest in
    omega (arith, z, rest)
