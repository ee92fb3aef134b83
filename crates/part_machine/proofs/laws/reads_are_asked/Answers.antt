use Rattle.part_machine.proofs.Payloads as lemmas
use Rattle.part_machine.proofs.laws.reads_are_asked.Goals as goal

pub returns : goal.returns
returns c = lemmas.reads_are_asked
