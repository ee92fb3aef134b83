-- What is found in a table.
use Rattle.std.proofs.Common.{◌≡◌, ℕ, Bool, true, false, List, [], ◌∷◌, map, Option, Some, cond, refl, ap, ◌∙◌}
use Rattle.std.specs.Prelude.{option_map}
use Rattle.std.specs.List.{find}
use Rattle.std.specs.Str.{str_eq_ignore_ascii_case}
use denote.Ref.{Bor}
use Rattle.ngql_parser.specs.declared.kind.Kind.{Kind}
use Rattle.ngql_parser.specs.Words.{kind_in, entry_of}

map_choice : {A B : Type 0} (f : A → B) (b : Bool) (x : A) (r : Option A) → option_map f (cond b (Some x) r) ≡ cond b (Some (f x)) (option_map f r)
map_choice f true x r = refl
map_choice f false x r = refl

pub kind_found : (word : List ℕ) (table : List (Bor (List ℕ) × Kind)) →
    option_map (λ entry. entry.1) (find (λ entry. str_eq_ignore_ascii_case word entry.0.now) table) ≡ kind_in (map entry_of table) word
kind_found word [] = refl
kind_found word (entry ∷ table) =
    let b = str_eq_ignore_ascii_case word entry.0.now in
    map_choice (λ e. e.1) b entry (find (λ e. str_eq_ignore_ascii_case word e.0.now) table) ∙ ap (cond b (Some entry.1)) (kind_found word table)
