-- What is still to be read of a condition: level by level, from the innermost brackets out, as the rules say.
use Rattle.std.specs.Prelude.{◌≡◌, ℕ, zero, suc, ◌-◌, ◌<◌, ◌≤◌, Bool, true, false, List, [], ◌∷◌, ◌++◌, Option, Some, None, Result, Ok, Err, length}
use Rattle.grammar.specs.Grammar.{again}
use Rattle.grammar.specs.Reading.{Reading, found, firsts, and_then, again_read, items_read}
use Rattle.ngql_syntax.specs.declared.cond.RawStep.{RawStep}
use Rattle.ngql_syntax.specs.declared.cond.RawStep.TheVariants as step
use Rattle.ngql_parser.specs.declared.kind.Kind.TheVariants as kind
use Rattle.ngql_parser.specs.declared.level.Level.{Level}
use Rattle.ngql_parser.specs.declared.level.Coming.{Coming}
use Rattle.ngql_parser.specs.declared.level.Coming.TheVariants as coming
use Rattle.ngql_parser.specs.declared.refusal.Refusal.{Refusal}
use Rattle.ngql_parser.specs.declared.token.Token.{Token}
use Rattle.ngql_parser.specs.Fronts.{behind}
use Rattle.ngql_parser.specs.Gives.{Refuses}
use Rattle.ngql_parser.specs.Kinds.{code}
use Rattle.ngql_parser.specs.Rules.{ngql, reads, kind_of, word, and_of}

-- the steps that were made, and the tokens that are left: what is read on from there
abbrev pub Onward : Type 0
Onward = List RawStep → List Token → Reading Token (List RawStep)

-- the conditions between ANDs, and the lists of them between ORs, at most so many
abbrev pub between_ands : ℕ → ℕ → List Token → Reading Token (List (List RawStep))
between_ands d n ts = items_read kind_of 0 false ngql.first (λ us. reads d (again (λ s. s)) us) (code kind.And) n None ts

abbrev pub between_ors : ℕ → ℕ → List Token → Reading Token (List (List RawStep))
between_ors d n ts = items_read kind_of 0 false (firsts ngql.first and_of) (λ us. reads d and_of us) (code kind.Or) n None ts

-- behind an item: others behind a separator, or none
abbrev pub others_by : (List Token → Reading Token (List (List RawStep))) → List Token → Option (List Token) → Reading Token (List (List RawStep))
others_by more ts None = found [] ts
others_by more ts (Some next) = more next

abbrev pub others : ℕ → (List Token → Reading Token (List (List RawStep))) → List Token → Reading Token (List (List RawStep))
others separator more ts = others_by more ts (behind separator ts)

-- each of them behind those before, with what joins it to them
abbrev pub joined_to : RawStep → List RawStep → List (List RawStep) → List RawStep
joined_to s made [] = made
joined_to s made (a ∷ items) = joined_to s ((made ++ a) ++ s ∷ []) items

-- what joins a list to those before it, if there are any
abbrev pub with_step : Bool → RawStep → List RawStep → List RawStep
with_step false s made = made
with_step true s made = made ++ s ∷ []

abbrev pub with_nots : ℕ → List RawStep → List RawStep
with_nots zero made = made
with_nots (suc n) made = with_nots n (made ++ step.Not ∷ [])

-- on a level: behind the conditions between ANDs, to the end of those between ORs
abbrev pub behind_ands : Level → Onward → Onward
behind_ands l on made ts =
    and_then (others (code kind.Or) (between_ors l.d l.ors) ts) (λ items rest. on (joined_to step.Or (with_step l.has_ors step.Or made) items) rest)

-- behind one of the conditions between ANDs
abbrev pub behind_not : Level → Onward → Onward
behind_not l on made ts =
    and_then (others (code kind.And) (between_ands l.d l.ands) ts) (λ items rest. behind_ands l on (joined_to step.And (with_step l.has_ands step.And (with_nots (l.d - l.left) made)) items) rest)

-- what is read on from a condition that begins there
abbrev pub from_not : Level → Onward → Onward
from_not l on made ts = and_then (again_read ngql false l.left ts) (λ s rest. behind_not l on (made ++ s) rest)

-- a level of which nothing is read yet
abbrev pub fresh : ℕ → Level
fresh d = record { d = d; left = d; ands = d - 1; ors = d - 1; has_ands = false; has_ors = false }

-- a level behind an AND, and behind an OR
abbrev pub after_and : Level → Level
after_and l = record { d = l.d; left = l.d; ands = l.ands - 1; ors = l.ors; has_ands = true; has_ors = l.has_ors }

abbrev pub after_or : Level → Level
after_or l = record { d = l.d; left = l.d; ands = l.d - 1; ors = l.ors - 1; has_ands = false; has_ors = true }

-- a level behind a NOT
abbrev pub after_not : Level → Level
after_not l = record { d = l.d; left = l.left - 1; ands = l.ands; ors = l.ors; has_ands = l.has_ands; has_ors = l.has_ors }

-- behind a condition in brackets: the bracket, and what the level around it has
abbrev pub closes_in : Level → Onward → Onward
closes_in l on made ts = and_then (reads l.d (word kind.Close) ts) (λ at rest. behind_not l on made rest)

-- behind the innermost: each level, the last first
abbrev pub closes : Onward → List Level → Onward
closes on [] = on
closes on (l ∷ levels) = closes (closes_in l on) levels

abbrev pub at_end : Onward
at_end made ts = found made ts

-- what was read so far: the levels around, the innermost level, and the steps
abbrev pub reads_on : List Level → Onward
reads_on outer = closes at_end outer

-- What comes is told, and what was read is what the reading gives.
abbrev pub Comes : Result Coming Refusal → List Level → Level → List RawStep → Reading Token (List RawStep) → Type 0
Comes (Ok (coming.Further rest)) outer l made reading = reading ≡ from_not l (reads_on outer) made rest.now
Comes (Ok (coming.End rest)) outer l made reading = reading ≡ found made rest.now
Comes (Err e) outer l made reading = Refuses e reading

-- A further condition begins behind some of the tokens, with no NOT before it that wasn't counted.
abbrev pub IsNearer : Result Coming Refusal → Level → ℕ → Type 0
IsNearer (Ok (coming.Further rest)) l n = (l.left ≤ l.d) × (length rest.now < n)
IsNearer (Ok (coming.End rest)) l n = Unit {0}
IsNearer (Err e) l n = Unit {0}
