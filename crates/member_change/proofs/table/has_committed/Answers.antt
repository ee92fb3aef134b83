use Rattle.std.proofs.Common.{take, min, ap, sym, subst, ◌∙◌}
use Rattle.std.specs.Bool.{OnTrue}
use Rattle.raft_log.specs.Log.{has_entry_of}
use Rattle.raft_log.specs.Rising.{IsOlder}
use Rattle.member_change.proofs.Committed.{none_older, take_within}
use Rattle.member_change.proofs.table.has_committed.Goals as goal

pub returns-then-is_older : goal.returns-then-is_older
returns-then-is_older c =
    let log = c.args.log.now.0 in
    let term = c.args.term in
    let same = take_within log c.args.commit c.min-last.result (c.min-last.ensures ∙ ap (λ n. min n c.args.commit) c.len.ensures.count) in
    let older : IsOlder term (take c.min-last.result log) = subst (λ b. OnTrue b (IsOlder term (take c.min-last.result log))) c.if-is_older.true c.is_older.ensures.older in
    sym (ap (has_entry_of term) (sym same) ∙ none_older term (take c.min-last.result log) older)

pub returns : goal.returns
returns c =
    let log = c.args.log.now.0 in
    c.has_entry.ensures ∙ ap (has_entry_of c.args.term) (take_within log c.args.commit c.min-last.result (c.min-last.ensures ∙ ap (λ n. min n c.args.commit) c.len.ensures.count))
