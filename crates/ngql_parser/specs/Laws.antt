-- What the laws speak of.
use Rattle.std.specs.Prelude.{ℕ, Bool, false, List, [], ◌∷◌, nat_eq}
use Rattle.ngql_parser.specs.declared.token.Token.{Token}
use Rattle.ngql_parser.specs.Rules.{kind_of}

-- whether the last token is of the kind
abbrev pub ends_in : ℕ → List Token → Bool
ends_in k [] = false
ends_in k (t ∷ []) = nat_eq (kind_of t) k
ends_in k (t ∷ u ∷ ts) = ends_in k (u ∷ ts)
