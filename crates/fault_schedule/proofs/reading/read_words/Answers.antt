use Rattle.std.proofs.Common.{sym}
use Rattle.fault_schedule.proofs.LineLemmas.{too_many}
use Rattle.fault_schedule.proofs.reading.read_words.Goals as goal

pub returns-in-Some-rest-3 : goal.returns-in-Some-rest-3
returns-in-Some-rest-3 c =
    rw (c.first_word.ensures, c.in-Some.is, c.first_word-2.ensures, c.in-Some-rest.is, c.first_word-3.ensures, c.in-Some-rest-2.is, c.first_word-4.ensures, c.in-Some-rest-3.is)
    (sym (too_many _ _ _ _ c.in-Some-rest-3.field-0.now))
