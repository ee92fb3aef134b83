use Rattle.std.proofs.Common.{sym}
use Rattle.first_script.proofs.LineLemmas.{last_line}
use Rattle.first_script.proofs.lines.next_line.Goals as goal

pub returns-in-None-2-clause-found : goal.returns-in-None-2-clause-found
returns-in-None-2-clause-found c = last_line c.args.rest.now c.in-None-2.ensures.none (sym c.if-is_empty.ensures)
