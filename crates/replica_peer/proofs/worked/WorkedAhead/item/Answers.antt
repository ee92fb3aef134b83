use Rattle.std.proofs.Common.{◌∷◌, subst}
use Rattle.replica_peer.specs.Along.{IsAlong}
use Rattle.replica_peer.specs.Peer.{home_in}
use Rattle.replica_peer.specs.declared.placing.Kind.{Kind}
use Rattle.replica_peer.proofs.Along.{along_start, along_quiet}
use Rattle.replica_peer.proofs.Oks.{ok_with}
use Rattle.replica_peer.proofs.worked.WorkedAhead.item.Goals as goal

pub returns-in-Start : goal.returns-in-Start
returns-in-Start g c = λ senders p before all rest shows along.
    let home = home_in c.args.machine.now.setting in
    let at = subst (λ (k : Kind). IsAlong home c.args.by.me c.args.by.term senders p c.args.placed.now before all (k ∷ rest) c.args.self.now) c.in-Start.is along in
    ok_with c.start.result _ _ _ c.start.ensures.rules c.start.ensures.ready
    (λ rules ready. along_start home c.args.by.me c.args.by.term senders p c.args.placed.now before all rest c.args.self.now c.start.new.self c.in-Start.of at c.start.ensures.leaves rules c.start.ensures.begins ready)

pub returns-in-Entry : goal.returns-in-Entry
returns-in-Entry g c = λ senders p before all rest shows along.
    let home = home_in c.args.machine.now.setting in
    c.entry.ensures senders p before all rest shows (subst (λ (k : Kind). IsAlong home c.args.by.me c.args.by.term senders p c.args.placed.now before all (k ∷ rest) c.args.self.now) c.in-Entry.is along)

pub returns-in-Quiet : goal.returns-in-Quiet
returns-in-Quiet g c = λ senders p before all rest shows along.
    let home = home_in c.args.machine.now.setting in
    along_quiet home c.args.by.me c.args.by.term senders p c.args.placed.now before all rest c.args.self.now (subst (λ (k : Kind). IsAlong home c.args.by.me c.args.by.term senders p c.args.placed.now before all (k ∷ rest) c.args.self.now) c.in-Quiet.is along)
