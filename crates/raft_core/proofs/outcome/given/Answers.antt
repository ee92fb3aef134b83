use Rattle.std.proofs.Common.{◌-◌, ◌++◌, take, drop, refl, ap, ◌∙◌}
use Rattle.raft_core.specs.Ahead.{core_with}
use Rattle.raft_core.specs.Rounds.{confirmed_of}
use Rattle.raft_core.proofs.Copying.{between}
use Rattle.raft_core.proofs.outcome.given.Goals as goal

pub returns : goal.returns
returns c =
    let core = core_with c.args.state.now c.args.log.now.0 in
    let ahead = c.args.ahead in
    let log = take ahead.keep c.args.log.now.0 ++ ahead.entries in
    let count = ahead.state.commit - core.commit in
    let entries = c.in_ok-entries.ensures ∙ c.as_slice.ensures in
    let kept = c.in_ok-kept.ensures in
    let next = c.new-next.ensures ∙ ap (λ xs. take ahead.keep c.args.log.now.0 ++ xs) c.as_slice-2.ensures in
    let committed = c.in_ok-committed.ensures ∙ ap (λ xs. take count (drop core.commit xs)) next ∙ between core.commit ahead.state.commit log c.requires.rises in
    let confirmed = c.confirmed_of-confirmed.ensures ∙ ap (λ xs. confirmed_of (core_with ahead.state xs)) next in
    record {
      keep = refl;
      entries = entries;
      is = λ i. record {
        core = core_with ahead.state (take ahead.keep c.args.log.now.0 ++ entries i);
        kept = kept i;
        sends = ahead.sends;
        committed = committed i;
        began = ahead.began;
        confirmed = confirmed i;
        change = c.args.change;
      };
    }
