-- The words that no plain name may be, in any case.
use Rattle.std.specs.Prelude.{ℕ, Bool, List, [], ◌∷◌, codes}
use Rattle.std.specs.List.{list_any}
use Rattle.std.specs.Str.{str_eq_ignore_ascii_case}

abbrev pub keywords : List (List ℕ)
keywords =
    codes "CREATE" ∷ codes "SPACE" ∷ codes "USE" ∷ codes "TAG" ∷ codes "EDGE" ∷ codes "IF" ∷ codes "NOT" ∷ codes "EXISTS"
    ∷ codes "INSERT" ∷ codes "VERTEX" ∷ codes "VALUES" ∷ codes "DELETE" ∷ codes "FETCH" ∷ codes "PROP" ∷ codes "ON" ∷ codes "GO"
    ∷ codes "STEP" ∷ codes "STEPS" ∷ codes "FROM" ∷ codes "OVER" ∷ codes "REVERSELY" ∷ codes "BIDIRECT" ∷ codes "WHERE" ∷ codes "YIELD"
    ∷ codes "AS" ∷ codes "AND" ∷ codes "OR" ∷ codes "NULL" ∷ codes "DEFAULT" ∷ codes "TRUE" ∷ codes "FALSE" ∷ []

abbrev pub is_keyword : List ℕ → Bool
is_keyword word = list_any (λ keyword. str_eq_ignore_ascii_case word keyword) keywords
