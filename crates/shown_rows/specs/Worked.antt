-- Each relation of each pair of kinds, by hand.
use Rattle.std.specs.Prelude.{Bool, true, false, pos, negsuc, List, [], ◌∷◌, map, codes}
use Rattle.graph_model.specs.declared.val.Val.{Val}
use Rattle.graph_model.specs.declared.val.Val.TheVariants.{Null, Int, Flag, Words}
use Rattle.ngql_syntax.specs.declared.cond.Rel.TheVariants.{Eq, Ne, Lt, Le, Gt, Ge}
use Rattle.shown_rows.specs.Comparisons.{meets}

-- whether two values meet == != < <= > >=
abbrev pub relations_of : Val × Val → List Bool
relations_of p = map (λ rel. meets rel p.0 p.1) (Eq ∷ Ne ∷ Lt ∷ Le ∷ Gt ∷ Ge ∷ [])

abbrev pub less : List Bool
less = false ∷ true ∷ true ∷ true ∷ false ∷ false ∷ []

abbrev pub equal : List Bool
equal = true ∷ false ∷ false ∷ true ∷ false ∷ true ∷ []

abbrev pub greater : List Bool
greater = false ∷ true ∷ false ∷ false ∷ true ∷ true ∷ []

abbrev pub same_flag : List Bool
same_flag = true ∷ false ∷ false ∷ false ∷ false ∷ false ∷ []

abbrev pub other_flag : List Bool
other_flag = false ∷ true ∷ false ∷ false ∷ false ∷ false ∷ []

abbrev pub none : List Bool
none = false ∷ false ∷ false ∷ false ∷ false ∷ false ∷ []

-- two values, and what holds of them
abbrev pub by_hand : List ((Val × Val) × List Bool)
by_hand =
    ((Int (negsuc 4), Int (pos 3)), less)
    ∷ ((Int (pos 3), Int (pos 3)), equal)
    ∷ ((Int (pos 3), Int (negsuc 4)), greater)
    ∷ ((Words (codes "Z"), Words (codes "a")), less)
    ∷ ((Words (codes "a"), Words (codes "ab")), less)
    ∷ ((Words (codes "ab"), Words (codes "ab")), equal)
    ∷ ((Words (codes "b"), Words (codes "ab")), greater)
    ∷ ((Flag true, Flag true), same_flag)
    ∷ ((Flag false, Flag true), other_flag)
    ∷ ((Null, Null), none)
    ∷ ((Null, Int (pos 0)), none)
    ∷ ((Null, Flag false), none)
    ∷ ((Null, Words []), none)
    ∷ ((Int (pos 0), Null), none)
    ∷ ((Int (pos 1), Flag true), none)
    ∷ ((Int (pos 1), Words (codes "1")), none)
    ∷ ((Flag false, Null), none)
    ∷ ((Flag true, Int (pos 1)), none)
    ∷ ((Flag true, Words (codes "true")), none)
    ∷ ((Words [], Null), none)
    ∷ ((Words (codes "1"), Int (pos 1)), none)
    ∷ ((Words (codes "true"), Flag true), none)
    ∷ []
