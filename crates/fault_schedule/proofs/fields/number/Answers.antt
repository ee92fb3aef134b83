use Rattle.std.proofs.Common.{arith, sym, ◌∙◌}
use Rattle.fault_schedule.proofs.FieldLemmas.{number_none}
use Rattle.fault_schedule.proofs.fields.number.Goals as goal

pub returns-in_err-value-clause-is : goal.returns-in_err-value-clause-is
returns-in_err-value-clause-is c = c.from_residual.ensures ∙ sym (number_none c.args.most c.args.word.now (omega (arith, c.ranges.most.fits)) c.in_err-value.ensures)
