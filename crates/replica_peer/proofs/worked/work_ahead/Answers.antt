use Rattle.std.proofs.Common.{Bool, ◌+◌, List, map, ap, subst, ◌∙◌, arith}
use Rattle.replica_peer.specs.Along.{IsAlong}
use Rattle.replica_peer.specs.Peer.{home_in}
use Rattle.replica_peer.specs.Worked.{sent}
use Rattle.replica_state.specs.Leaving.{leaving_of}
use Rattle.replica_peer.specs.declared.placing.Kind.{Kind}
use Rattle.replica_peer.proofs.Along.{along_first, along_last, none_left, first_left}
use Rattle.replica_peer.proofs.worked.work_ahead.Goals as goal

pub loop-kind-init : goal.loop-kind-init
loop-kind-init g c = λ senders p first items shows places kinds.
    let home = home_in c.args.machine.now.setting in
    along_first home c.args.by.me c.args.by.term senders p c.args.placing.now.entries (map leaving_of c.args.leaves) (sent home c.args.by.me c.args.by.term senders p c.args.ready first items)
    c.nothing-made.result first items c.as_slice-kind-items.result.now places (c.as_slice-kind-items.ensures.value ∙ kinds)
    (ap (map leaving_of) c.nothing-made.ensures.leaves) c.nothing-made.ensures.rules c.nothing-made.ensures.begins
    (ap (λ (ready : Bool). sent home c.args.by.me c.args.by.term senders p ready first items) c.nothing-made.ensures.ready)

pub loop-kind-preserved : goal.loop-kind-preserved
loop-kind-preserved g c = λ senders p first items shows places kinds.
    let home = home_in c.args.machine.now.setting in
    let all = sent home c.args.by.me c.args.by.term senders p c.args.ready first items in
    let along = c.loop-kind.invariant senders p first items shows places kinds in
    c.in_ok-item.ensures senders p (map leaving_of c.args.leaves) all _ shows
    (subst (λ (ks : List Kind). IsAlong home c.args.by.me c.args.by.term senders p c.args.placing.now.entries (map leaving_of c.args.leaves) all ks c.loop-kind.made)
    (first_left c.loop-kind.kind-index (c.loop-kind.kind-index + 1) c.as_slice-kind-items.result.now _ c.loop-kind-test.true (omega arith)) along)

pub returns : goal.returns
returns g c = λ senders p first items shows places kinds.
    let home = home_in c.args.machine.now.setting in
    let along = c.loop-kind.invariant senders p first items shows places kinds in
    along_last home c.args.by.me c.args.by.term senders p c.args.placing.now.entries (map leaving_of c.args.leaves) (sent home c.args.by.me c.args.by.term senders p c.args.ready first items) c.loop-kind.made
    (subst (λ (ks : List Kind). IsAlong home c.args.by.me c.args.by.term senders p c.args.placing.now.entries (map leaving_of c.args.leaves) (sent home c.args.by.me c.args.by.term senders p c.args.ready first items) ks c.loop-kind.made) (none_left _ _ c.loop-kind-test.false) along)
