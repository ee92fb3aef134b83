use Rattle.std.proofs.Common.{◌+◌, length, ap, sym, ◌∙◌}
use Rattle.std.specs.Option.{option_copied}
use Rattle.part_fold.specs.State.{part_of}
use Rattle.part_rules.specs.Folded.{item_applied, folded}
use Rattle.chain_leader.specs.Leading.{Leading}
use Rattle.chain_run.specs.Shows.{leader_of}
use Rattle.chain_run.proofs.Decides.{known_behind}
use Rattle.chain_run.proofs.applying.applies.Goals as goal

pub returns-clause-leader : goal.returns-clause-leader
returns-clause-leader c =
    let parts = c.args.parts in
    let items = c.args.items.now in
    let index = length items + 1 in
    let e = ap (item_applied parts index c.args.item.now) (sym c.in_ok-machine.ensures) ∙ c.in_ok-said.ensures in
    let known = known_behind parts index c.args.item.now (folded parts items) (part_of c.apply.new.self) c.in_ok-said.said (option_copied c.began_in-begun.result) c.stands_in-stands.result e c.began_in-begun.ensures c.stands_in-stands.ensures in
    ap (λ (x : Leading). record (leader_of c.args.leader.now) { lead = x; applied = index }) (c.in_ok-sent.ensures.leading parts index (folded parts items) known)

pub returns-clause-answers : goal.returns-clause-answers
returns-clause-answers c =
    let parts = c.args.parts in
    let items = c.args.items.now in
    let index = length items + 1 in
    let e = ap (item_applied parts index c.args.item.now) (sym c.in_ok-machine.ensures) ∙ c.in_ok-said.ensures in
    let known = known_behind parts index c.args.item.now (folded parts items) (part_of c.apply.new.self) c.in_ok-said.said (option_copied c.began_in-begun.result) c.stands_in-stands.result e c.began_in-begun.ensures c.stands_in-stands.ensures in
    c.in_ok-sent.ensures.answers parts index (folded parts items) known

pub returns-clause-rules : goal.returns-clause-rules
returns-clause-rules c =
    let parts = c.args.parts in
    let items = c.args.items.now in
    let index = length items + 1 in
    let e = ap (item_applied parts index c.args.item.now) (sym c.in_ok-machine.ensures) ∙ c.in_ok-said.ensures in
    let known = known_behind parts index c.args.item.now (folded parts items) (part_of c.apply.new.self) c.in_ok-said.said (option_copied c.began_in-begun.result) c.stands_in-stands.result e c.began_in-begun.ensures c.stands_in-stands.ensures in
    c.in_ok-sent.ensures.rules parts index (folded parts items) known
