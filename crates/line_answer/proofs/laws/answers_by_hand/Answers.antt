use Rattle.std.proofs.Common.{refl}
use Rattle.std.specs.Fmt.{digits}
use Rattle.shown_rows.specs.Rows.{is_kept, row_of, step_rows}
use Rattle.line_answer.proofs.laws.answers_by_hand.Goals as goal

pub returns : goal.returns
unfolding digits is_kept row_of step_rows
returns c = record {
  fine = refl;
  skipped = refl;
  pending = refl;
  fetched = refl;
  walked = refl;
  wide = refl;
  conflict = refl;
  cancelled = refl;
  unknown = refl;
}
