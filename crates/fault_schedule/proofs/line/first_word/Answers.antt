use Rattle.std.proofs.Common.{sym, ◌∙◌}
use Rattle.fault_schedule.proofs.LineLemmas.{one_word, rest_taken}
use Rattle.fault_schedule.proofs.line.first_word.Goals as goal

pub returns-then-len-text : goal.returns-then-len-text
returns-then-len-text c = one_word c.args.text.now (sym c.word_len-len.ensures.is ∙ c.if-len-text.true)

pub returns-else-len-text : goal.returns-else-len-text
returns-else-len-text c = rest_taken c.args.text.now c.word_len-len.result c.word_len-len.ensures.is c.word_len-len.ensures.within c.if-len-text.false
