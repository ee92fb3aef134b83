use Rattle.std.proofs.Common.{ap, ◌∙◌}
use Rattle.fault_schedule.specs.Reading.{control_of}
use Rattle.fault_schedule.specs.Words.{words, text_of}
use Rattle.fault_schedule.proofs.ReadingLemmas.{found, read}
use Rattle.fault_schedule.proofs.reading.read_control.Goals as goal

pub returns-clause-found : goal.returns-clause-found
returns-clause-found c = rw (c.read_words.ensures, c.text_of.ensures) (found (words (text_of c.args.line.now)))

pub returns-clause-only : goal.returns-clause-only
returns-clause-only c control spelled =
    c.read_words.ensures ∙ ap (λ text. control_of (words text)) c.text_of.ensures ∙ ap control_of spelled.0 ∙ read control spelled.1
