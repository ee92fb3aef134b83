use Rattle.std.proofs.Common.{◌-◌, take, sym, ◌∙◌, arith}
use Rattle.std.proofs.lemmas.Bool.{or_right}
use Rattle.std.proofs.Math.Bool.{or-false}
use Rattle.raft_log.specs.Log.{matches, has_entry_of}
use Rattle.member_change.proofs.Committed.{one_back}
use Rattle.member_change.proofs.table.has_entry.Goals as goal

pub returns-then-matches : goal.returns-then-matches
returns-then-matches c =
    let log = c.args.log.now.0 in
    let back = one_back log c.loop-left.left c.args.term c.loop-left-test.true c.loop-left.invariant.within in
    let here = sym c.matches.ensures ∙ c.if-matches.true in
    sym (c.loop-left.invariant.none ∙ back ∙ or_right (has_entry_of c.args.term (take (c.loop-left.left - 1) log)) (matches log c.loop-left.left c.args.term) here)

pub loop-left-preserved : goal.loop-left-preserved
loop-left-preserved c =
    let log = c.args.log.now.0 in
    let back = one_back log c.loop-left.left c.args.term c.loop-left-test.true c.loop-left.invariant.within in
    let here = sym c.matches.ensures ∙ c.if-matches.false in
    record {
      within = omega (arith, c.loop-left.invariant.within);
      none = c.loop-left.invariant.none ∙ back ∙ (rw here (or-false (has_entry_of c.args.term (take (c.loop-left.left - 1) log))));
    }
