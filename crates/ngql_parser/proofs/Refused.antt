-- A refusal of a part is one of the whole.
use Rattle.std.proofs.Common.{List, ap}
use Rattle.grammar.specs.Reading.{Reading, and_then, with_value}
use Rattle.ngql_parser.specs.declared.token.Token.{Token}
use Rattle.ngql_parser.specs.declared.refusal.Refusal.{Refusal}
use Rattle.ngql_parser.specs.declared.refusal.Refusal.TheVariants.{NoMemory, Spent, Misfit}
use Rattle.ngql_parser.specs.Gives.{Refuses}

pub value_refused : {A B : Type 0} (f : A → B) (e : Refusal) (r : Reading Token A) → Refuses e r → Refuses e (with_value f r)
value_refused f NoMemory r h = tt
value_refused f Spent r h = ap (with_value f) h
value_refused f (Misfit limit rest) r h = ap (with_value f) h

pub then_refused : {A B : Type 0} (f : A → List Token → Reading Token B) (e : Refusal) (r : Reading Token A) → Refuses e r → Refuses e (and_then r f)
then_refused f NoMemory r h = tt
then_refused f Spent r h = ap (λ x. and_then x f) h
then_refused f (Misfit limit rest) r h = ap (λ x. and_then x f) h
