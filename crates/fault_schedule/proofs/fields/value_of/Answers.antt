use Rattle.std.proofs.Common.{◌≡◌, refl}
use Rattle.fault_schedule.proofs.FieldLemmas.{digits_are_text, valued, all_digits}
use Rattle.fault_schedule.proofs.fields.value_of.Goals as goal

pub unreachable-requires : goal.unreachable-requires
unreachable-requires c =
    c.in_default.ensures.cases.0 (digits_are_text c.args.word.now (rw (← all_digits c.args.word.now, ← c.if-not-are_digits.ensures) refl))

pub returns : goal.returns
returns c =
    let same : c.in-Ok.text.now ≡ c.args.word.now = c.in-Ok.ensures.cases.0 in
    rw c.ok.ensures.value (valued c.args.word.now c.parse.result (rw same at c.parse.ensures.value.0) (rw (← all_digits c.args.word.now, ← c.if-not-are_digits.ensures) refl))
