use Rattle.std.proofs.Common.{sym, ◌∙◌, ap, ℕ, List}
use Rattle.std.proofs.lemmas.List.{nil_from_length}
use Rattle.std.proofs.lemmas.Result.{IfOk-weaker}
use Rattle.disk_model.specs.Replay.{history, size_of}
use Rattle.disk_model.specs.Tears.{torn_after, torn_by}
use Rattle.disk_model.proofs.TornPicks.{torn_at_sync, torn_at_call, torn_at_failed, torn_none}
use Rattle.disk_model.proofs.tearing.+torn.Goals as goal

pub returns-then-last : goal.returns-then-last
returns-then-last t c first stored whole same =
    c.in_ok-from_slice-2.ensures.items ∙ same
    ∙ torn_at_sync first c.args.calls.now c.in-Some.older.now c.in-Some.last.now stored c.args.tears.now c.in-Some.ensures.cases.0 c.in-Sync.is c.if-last.true whole

pub returns-in-Sync : goal.returns-in-Sync
returns-in-Sync t c = IfOk-weaker c.torn.result _ _
    (λ file each first stored whole same. torn_at_failed first c.args.synced.now file.items c.args.calls.now c.in-Some.older.now c.in-Some.last.now stored c.args.tears.now c.in-Some.ensures.cases.0 c.in-Sync.is c.if-last.false (each first) whole same)
    c.torn.ensures

pub returns-in_default-split_first : goal.returns-in_default-split_first
returns-in_default-split_first t c first stored whole same =
    c.in_ok-from_slice-3.ensures.items ∙ same ∙ sym (torn_none first (history c.args.calls.now stored))
    ∙ ap (torn_after first (history c.args.calls.now stored)) (sym (nil_from_length c.args.tears.now c.in_default-split_first.ensures.cases))

pub returns : goal.returns
returns t c first stored whole same =
    let calls = c.args.calls.now in
    let bytes = c.in-Some-split_first.bytes.now in
    let rest = c.in-Some-split_first.rest.now in
    c.in_ok-tear.ensures
    ∙ ap (λ (l : List ℕ). torn_by c.in-Some.last.now.call (size_of c.in-Some.last.now.call) l c.in_ok-file.file.items) c.as_slice.ensures
    ∙ torn_at_call first c.args.synced.now c.in_ok-file.file.items calls c.in-Some.older.now c.in-Some.last.now stored bytes rest c.in-Some.ensures.cases.0 c.in_default-call.not-Sync (c.in_ok-file.ensures first) whole same
    ∙ ap (torn_after first (history calls stored)) (sym c.in-Some-split_first.ensures.cases.0)
