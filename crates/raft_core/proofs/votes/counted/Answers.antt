use Rattle.std.proofs.Common.{◌≡◌, IfOk, sym, subst, ◌∙◌}
use Rattle.raft_core.specs.Core.{Made}
use Rattle.raft_core.specs.Ahead.{made_by}
use Rattle.raft_core.proofs.Elections.{counted_is}
use Rattle.raft_core.proofs.votes.counted.Goals as goal

pub returns : goal.returns
returns c =
    let log = c.args.log.now.0 in
    let candidate = c.in_ok-candidate.candidate in
    let e = counted_is c.args.state candidate log c.args.from c.args.granted (sym c.counts.ensures ∙ c.if-not-counts.false) c.in_ok-candidate.ensures in
    subst (λ (made : Made). IfOk c.ruled.result (λ ahead. made_by log ahead ≡ made)) e (rw c.new.ensures at c.ruled.ensures)
