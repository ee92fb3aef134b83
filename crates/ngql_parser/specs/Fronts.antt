-- Items that were read before others, and what stands behind a word.
use Rattle.std.specs.Prelude.{ℕ, List, [], ◌∷◌, ◌++◌, Option, Some, None, nat_eq, cond}
use Rattle.grammar.specs.Reading.{Reading, with_value}
use Rattle.ngql_parser.specs.declared.token.Token.{Token}
use Rattle.ngql_parser.specs.Rules.{kind_of}

abbrev pub behind_these : {T A : Type 0} → List A → Reading T (List A) → Reading T (List A)
behind_these items reading = with_value (λ more. items ++ more) reading

abbrev pub behind : ℕ → List Token → Option (List Token)
behind k [] = None
behind k (t ∷ ts) = cond (nat_eq (kind_of t) k) (Some ts) None
