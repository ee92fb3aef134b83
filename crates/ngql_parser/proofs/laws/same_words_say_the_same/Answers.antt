use Rattle.ngql_parser.proofs.Unplaced.{alike_lines, misfits_alike}
use Rattle.ngql_parser.proofs.laws.same_words_say_the_same.Goals as goal

pub returns : goal.returns
returns c = record { spelled = alike_lines; refused = misfits_alike }
