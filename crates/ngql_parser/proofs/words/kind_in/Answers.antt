use Rattle.std.proofs.Common.{◌∙◌}
use Rattle.ngql_parser.proofs.WordLemmas.{kind_found}
use Rattle.ngql_parser.proofs.words.kind_in.Goals as goal

pub returns : goal.returns
returns c = c.kind_beside.ensures ∙ kind_found c.args.word.now c.args.table.now
