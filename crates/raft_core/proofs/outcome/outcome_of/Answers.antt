use Rattle.std.proofs.Common.{ap, sym, subst, ◌∙◌, arith}
use Rattle.raft_log.specs.Config.{IsConfig, AreEntries}
use Rattle.raft_core.specs.declared.state.PeerState.{PeerState}
use Rattle.raft_core.specs.Ahead.{core_with, made_by}
use Rattle.raft_core.specs.Appends.{led}
use Rattle.raft_core.specs.Core.{Made}
use Rattle.raft_core.specs.Step.{made_of, given, refusal_of}
use Rattle.raft_core.proofs.Behind.{behind_step}
use Rattle.raft_core.proofs.Keeping.{keeps_rules, led_keeps}
use Rattle.raft_core.proofs.outcome.outcome_of.Goals as goal

pub led-requires : goal.led-requires
led-requires c =
    let core = core_with c.args.state.now c.args.log.now.0 in
    let input = c.args.input.now in
    let config = subst IsConfig c.config-latest.ensures.config c.config-latest.ensures.members in
    let keeps = keeps_rules core input config c.requires.input in
    let made = c.in_ok-made.ensures ∙ ap (λ (s : PeerState). made_of (core_with s c.args.log.now.0) input) c.in_ok-copy.ensures in
    let same = ap (λ (m : Made). m.keep) made in
    omega (arith, keeps.within, same)

pub given-requires-clause-within : goal.given-requires-clause-within
given-requires-clause-within c =
    let core = core_with c.args.state.now c.args.log.now.0 in
    let input = c.args.input.now in
    let config = subst IsConfig c.config-latest.ensures.config c.config-latest.ensures.members in
    let keeps = keeps_rules core input config c.requires.input in
    let made = c.in_ok-made.ensures ∙ ap (λ (s : PeerState). made_of (core_with s c.args.log.now.0) input) c.in_ok-copy.ensures in
    let behind = c.in_ok-ahead.ensures ∙ ap led made in
    let same = ap (λ (m : Made). m.keep) behind ∙ (led_keeps (made_of core input)).0 in
    omega (arith, keeps.within, same)

pub given-requires-clause-rises : goal.given-requires-clause-rises
given-requires-clause-rises c =
    let core = core_with c.args.state.now c.args.log.now.0 in
    let input = c.args.input.now in
    let made = c.in_ok-made.ensures ∙ ap (λ (s : PeerState). made_of (core_with s c.args.log.now.0) input) c.in_ok-copy.ensures in
    let behind = c.in_ok-ahead.ensures ∙ ap led made in
    let same = ap (λ (m : Made). m.core.commit) behind in
    let rises = (behind_step core input c.requires.peer).falls_not in
    omega (arith, same, rises)

pub returns : goal.returns
returns c =
    let core = core_with c.args.state.now c.args.log.now.0 in
    let input = c.args.input.now in
    let config = subst IsConfig c.config-latest.ensures.config c.config-latest.ensures.members in
    let keeps = keeps_rules core input config c.requires.input in
    let made = c.in_ok-made.ensures ∙ ap (λ (s : PeerState). made_of (core_with s c.args.log.now.0) input) c.in_ok-copy.ensures in
    let behind = c.in_ok-ahead.ensures ∙ ap led made in
    let same = led_keeps (made_of core input) in
    let outcome = c.in_ok-outcome.ensures in
    let kept = outcome.keep ∙ ap (λ (m : Made). m.keep) behind ∙ same.0 in
    let entries = outcome.entries ∙ ap (λ (m : Made). m.entries) behind ∙ same.1 in
    record {
      within = omega (arith, keeps.within, kept);
      items = subst AreEntries (sym entries) keeps.items;
      is = outcome.is ∙ ap (λ refused. given core refused (made_by c.args.log.now.0 c.in_ok-ahead.ahead)) c.refused-change.ensures ∙ ap (given core (refusal_of core input)) behind;
    }
