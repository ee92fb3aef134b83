-- Printed answers by hand.
use Rattle.std.specs.Prelude.{◌≡◌, pos, negsuc, true, false, [], ◌∷◌, codes}
use Rattle.graph_model.specs.declared.val.Val.TheVariants.{Null, Int, Flag, Words}
use Rattle.line_print.specs.declared.line_answer.LineAnswer.TheVariants.{Rows, Conflict, Parts, Refused}
use Rattle.line_print.specs.declared.line_refused.LineRefused.TheVariants.{WrongCount}
use Rattle.line_print.specs.Print.{print_line}

pub record PrintedByHand : Type 0 where
  -- each kind of value; in the text stand a double quote, a backslash, an LF and a tab
  pub values : print_line 7 (Rows ((Null ∷ Int (pos 0) ∷ Int (negsuc 3) ∷ []) ∷ (Flag true ∷ Flag false ∷ Words (codes "a\"b\\c\nd\te") ∷ []) ∷ []))
      ≡ codes "7: ROWS 2\n  NULL, 0, -4\n  true, false, \"a\\\"b\\\\c\\nd\\te\"\n"
  pub no_row : print_line 1 (Rows []) ≡ codes "1: ROWS 0\n"
  pub conflict : print_line 12 (Conflict (record { client = 2; number = 31 }) 3) ≡ codes "12: CONFLICT 2.31 AT 3\n"
  pub parts : print_line 5 (Parts ((1, 2 ∷ 3 ∷ []) ∷ (2, 4 ∷ []) ∷ [])) ≡ codes "5: PARTS 2\n  1: 2 3\n  2: 4\n"
  pub refused : print_line 3 (Refused (WrongCount 40)) ≡ codes "3: ERROR count AT 40\n"
