use Rattle.part_machine.proofs.Payloads as lemmas
use Rattle.part_machine.proofs.laws.payloads_are_taken.Goals as goal

pub returns : goal.returns
returns c = lemmas.payloads_are_taken
