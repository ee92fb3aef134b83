use Rattle.std.proofs.Common.{◌≡◌, List, ◌+◌, ◌-◌, take, length, ap, ◌∙◌, arith}
use Rattle.raft_log.specs.declared.entry.Entry.{Entry}
use Rattle.raft_log.proofs.PlaceLemmas.{cut_more, cut_end}
use Rattle.raft_log.proofs.log.RaftLog.cut_from.Goals as goal

pub loop-preserved : goal.loop-preserved
loop-preserved c =
    let log = c.args.self.now.0 in
    let left = length log - (c.loop.counter - c.args.index) in
    let one_less : left - 1 ≡ length log - (c.loop.counter + 1 - c.args.index) = omega (arith, c.loop.invariant.from) in
    record {
      from = omega (arith, c.loop.invariant.from);
      within = omega (arith, c.loop-test.true);
      room = (let a = c.pop.ensures.room in let b = c.loop.invariant.room in omega arith);
      cut = c.pop.ensures.log ∙ ap (λ (xs : List Entry). take (length xs - 1) xs) c.loop.invariant.cut ∙ cut_more left log (omega arith) ∙ ap (λ n. take n log) one_less;
    }

pub returns-clause-log : goal.returns-clause-log
returns-clause-log c =
    let log = c.args.self.now.0 in
    c.loop.invariant.cut ∙ cut_end c.args.index c.loop.counter log c.requires (omega (arith, c.loop-test.false, c.len-end.ensures.count)) c.loop.invariant.from (omega (arith, c.loop.invariant.within, c.len-end.ensures.count))
