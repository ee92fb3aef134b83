use Rattle.std.proofs.Common.{ap, sym, ◌∙◌, ◌∷◌, take, ◌+◌}
use Rattle.first_script.specs.Lines.{lines, whole_lines}
use Rattle.first_script.proofs.LineLemmas.{lines_at, whole_lines_at, no_whole_line, rest_behind}
use Rattle.first_script.proofs.lines.next_whole_line.Goals as goal

pub returns-in_err-end-clause-none : goal.returns-in_err-end-clause-none
returns-in_err-end-clause-none c = rw c.from_residual.ensures (no_whole_line c.args.rest.now (sym c.in_err-end.ensures.first))

pub returns-clause-found : goal.returns-clause-found
returns-clause-found c =
    let rest = c.args.rest.now in
    let end = c.in_ok-end.end in
    whole_lines_at rest end (sym c.in_ok-end.ensures.first) ∙ ap (λ behind. take end rest ∷ whole_lines behind) (sym (rest_behind rest (end + 1)))

pub returns-clause-line : goal.returns-clause-line
returns-clause-line c =
    let rest = c.args.rest.now in
    let end = c.in_ok-end.end in
    lines_at rest end (sym c.in_ok-end.ensures.first) ∙ ap (λ behind. take end rest ∷ lines behind) (sym (rest_behind rest (end + 1)))
