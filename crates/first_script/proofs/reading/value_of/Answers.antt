use Rattle.std.proofs.Common.{◌≡◌}
use Rattle.first_script.proofs.NumberLemmas.{digits_are_text, parsed}
use Rattle.first_script.proofs.reading.value_of.Goals as goal

pub unreachable-requires : goal.unreachable-requires
unreachable-requires c = c.in_default.ensures.cases.0 (digits_are_text c.args.digits.now c.requires)

pub returns : goal.returns
returns c =
    let same : c.in-Ok.text.now ≡ c.args.digits.now = c.in-Ok.ensures.cases.0 in
    rw c.ok.ensures.value (parsed c.args.digits.now c.parse.result (rw same at c.parse.ensures.value.0) c.requires)
