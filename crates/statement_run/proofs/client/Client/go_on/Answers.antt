use Rattle.std.proofs.Common.{◌≡◌, Some, None, refl, ap, sym, subst, ◌∙◌}
use Rattle.std.specs.Prelude.{IfOk}
use Rattle.statement_run.specs.Statement.{call_next}
use Rattle.statement_run.specs.Caller.{replied}
use Rattle.statement_run.specs.Call.{IsReady, Begins}
use Rattle.statement_run.specs.Task.{behind}
use Rattle.statement_run.specs.Kept.{noted_in, lines_waiting}
use Rattle.statement_run.specs.Waiting.{fresh_all}
use Rattle.statement_run.proofs.Noting.{kept_on, noted_ended}
use Rattle.statement_run.proofs.Showing.{busy_of, ended_free, goes_on}
use Rattle.statement_run.proofs.client.Client.go_on.Goals as goal

pub returns-in-Ok-Some-clause-shows : goal.returns-in-Ok-Some-clause-shows
returns-in-Ok-Some-clause-shows c = λ caller s.
    let some : c.args.self.now.busy ≡ Some c.in-Some.busy = sym c.replace.ensures.value ∙ c.in-Some.is in
    let here = busy_of c.args.self.now caller s c.in-Some.busy some in
    let task = c.in-Some.busy.task in
    let ready : IsReady (record { client = c.args.self.now.number; number = c.args.last }) task.parts (call_next (behind here.running c.args.told)) (Some c.in-Ok-Some.begun)
    = subst (IsReady (record { client = c.args.self.now.number; number = c.args.last }) task.parts (call_next (behind here.running c.args.told))) c.in-Ok-Some.field-0-is
    (subst (λ res. IfOk res (IsReady (record { client = c.args.self.now.number; number = c.args.last }) task.parts (call_next (behind here.running c.args.told)))) c.in-Ok-Some.is (c.tell.ensures.next here.running here.tells)) in
    let begins = subst (λ m. Begins (record { client = c.args.self.now.number; number = m }) (record { parts = task.parts; op = c.in-Ok-Some.begun.call.op }) c.in-Ok-Some.begun) c.requires.last ready.1 in
    goes_on c.args.self.now caller s c.in-Some.busy some c.args.told c.in-Ok-Some.begun.call.op ready.0 c.args.self.now.number c.in-Ok-Some.begun begins
    _ _ c.requires.last refl refl (c.in-Ok-Some.ensures.told here.running here.tells) c.in-Ok-Some.ensures.parts refl

pub returns-in-Ok-None-clause-shows : goal.returns-in-Ok-None-clause-shows
returns-in-Ok-None-clause-shows c = λ caller s.
    let some : c.args.self.now.busy ≡ Some c.in-Some.busy = sym c.replace.ensures.value ∙ c.in-Some.is in
    let here = busy_of c.args.self.now caller s c.in-Some.busy some in
    let next = call_next (behind here.running c.args.told) in
    c.begin.ensures.shows (replied caller c.args.told) (ended_free c.args.self.now caller s c.in-Some.busy some c.args.told
    (subst (IsReady (record { client = c.args.self.now.number; number = c.args.last }) c.in-Some.busy.task.parts next) c.in-Ok-None.field-0-is
    (subst (λ res. IfOk res (IsReady (record { client = c.args.self.now.number; number = c.args.last }) c.in-Some.busy.task.parts next)) c.in-Ok-None.is (c.tell.ensures.next here.running here.tells))))

pub returns-in-Ok-None-clause-made : goal.returns-in-Ok-None-clause-made
returns-in-Ok-None-clause-made c = λ caller s.
    let some : c.args.self.now.busy ≡ Some c.in-Some.busy = sym c.replace.ensures.value ∙ c.in-Some.is in
    let here = busy_of c.args.self.now caller s c.in-Some.busy some in
    let next = call_next (behind here.running c.args.told) in
    c.begin.ensures.made (replied caller c.args.told) (ended_free c.args.self.now caller s c.in-Some.busy some c.args.told
    (subst (IsReady (record { client = c.args.self.now.number; number = c.args.last }) c.in-Some.busy.task.parts next) c.in-Ok-None.field-0-is
    (subst (λ res. IfOk res (IsReady (record { client = c.args.self.now.number; number = c.args.last }) c.in-Some.busy.task.parts next)) c.in-Ok-None.is (c.tell.ensures.next here.running here.tells))))

pub returns-in-Ok-Some-clause-kept : goal.returns-in-Ok-Some-clause-kept
returns-in-Ok-Some-clause-kept c = λ caller s.
    let some : c.args.self.now.busy ≡ Some c.in-Some.busy = sym c.replace.ensures.value ∙ c.in-Some.is in
    let here = busy_of c.args.self.now caller s c.in-Some.busy some in
    let task = c.in-Some.busy.task in
    let ready : IsReady (record { client = c.args.self.now.number; number = c.args.last }) task.parts (call_next (behind here.running c.args.told)) (Some c.in-Ok-Some.begun)
    = subst (IsReady (record { client = c.args.self.now.number; number = c.args.last }) task.parts (call_next (behind here.running c.args.told))) c.in-Ok-Some.field-0-is
    (subst (λ res. IfOk res (IsReady (record { client = c.args.self.now.number; number = c.args.last }) task.parts (call_next (behind here.running c.args.told)))) c.in-Ok-Some.is (c.tell.ensures.next here.running here.tells)) in
    kept_on c.args.self.now c.in-Some.busy some caller s c.args.told c.in-Ok-Some.begun.call.op ready.0 c.tell.new.self c.in-Ok-Some.ensures.line c.in-Ok-Some.ensures.bound

pub returns-in-Ok-None-clause-kept : goal.returns-in-Ok-None-clause-kept
returns-in-Ok-None-clause-kept c = λ caller s.
    let some : c.args.self.now.busy ≡ Some c.in-Some.busy = sym c.replace.ensures.value ∙ c.in-Some.is in
    let here = busy_of c.args.self.now caller s c.in-Some.busy some in
    let next = call_next (behind here.running c.args.told) in
    let none : next ≡ None = subst (IsReady (record { client = c.args.self.now.number; number = c.args.last }) c.in-Some.busy.task.parts next) c.in-Ok-None.field-0-is
    (subst (λ res. IfOk res (IsReady (record { client = c.args.self.now.number; number = c.args.last }) c.in-Some.busy.task.parts next)) c.in-Ok-None.is (c.tell.ensures.next here.running here.tells)) in
    c.begin.ensures.kept
    ∙ ap (noted_in (lines_waiting c.in-Some.busy.waiting.items) (fresh_all c.in-Some.busy.waiting.items)) c.fill.ensures
    ∙ noted_ended c.args.self.now c.in-Some.busy some caller s c.args.told none c.tell.new.self.line c.tell.new.self.bound c.ended.result c.in-Ok-None.ensures.line c.in-Ok-None.ensures.bound
    (c.ended.ensures (behind here.running c.args.told) (c.in-Ok-None.ensures.told here.running here.tells))

pub ended-requires : goal.ended-requires
ended-requires c =
    let here = busy_of c.args.self.now c.requires.sound.0 c.requires.sound.1 c.in-Some.busy (sym c.replace.ensures.value ∙ c.in-Some.is) in
    (behind here.running c.args.told, c.in-Ok-None.ensures.told here.running here.tells)
