-- Columns that aren't refused are sound.
use Rattle.std.proofs.Common.{◌≡◌, true, List, [], ◌∷◌, Option, None, Some, is_none, refl, ap}
use Rattle.ngql_syntax.specs.declared.define.Column.{Column}
use Rattle.ngql_syntax.specs.declared.spanned.Spanned.{Spanned}
use Rattle.schema_book.specs.declared.refused.BookRefused.{BookRefused}
use Rattle.schema_book.specs.Columns.{are_sound, bad_column}
use Rattle.schema_book.specs.Create.{entry_refused}
use Rattle.schema_book.specs.Entries.{Entries}
use Rattle.schema_book.specs.Refusals.{first_of}

none_left : (a b c : Option BookRefused) → first_of (a ∷ b ∷ c ∷ []) ≡ None → c ≡ None
none_left None None None h = refl
none_left None None (Some x) h = h
none_left None (Some x) c h = cc
none_left (Some x) b c h = cc

pub sound_entry : (own others : Entries) (name : Spanned) (columns : List Column) → entry_refused own others name columns ≡ None → are_sound columns ≡ true
sound_entry own others name columns h = ap is_none (none_left _ _ (bad_column [] columns) h)
