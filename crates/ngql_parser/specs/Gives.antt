-- A function's answer, held against a reading.
use Rattle.std.specs.Prelude.{◌≡◌, List, Result, Ok, Err}
use denote.Ref.{Bor}
use Rattle.grammar.specs.Reading.{Reading, found, misfit, spent}
use Rattle.ngql_parser.specs.declared.token.Token.{Token}
use Rattle.ngql_parser.specs.declared.refusal.Refusal.{Refusal}
use Rattle.ngql_parser.specs.declared.refusal.Refusal.TheVariants.{NoMemory, Spent, Misfit}

-- it answers what the reading gives, unless memory runs out
abbrev pub Refuses : {V : Type 0} → Refusal → Reading Token V → Type 0
Refuses NoMemory reading = Unit {0}
Refuses Spent reading = reading ≡ spent
Refuses (Misfit limit rest) reading = reading ≡ misfit limit rest.now

abbrev pub Gives : {V : Type 0} → Result (V × Bor (List Token)) Refusal → Reading Token V → Type 0
Gives (Ok x) reading = reading ≡ found x.0 x.1.now
Gives (Err e) reading = Refuses e reading
