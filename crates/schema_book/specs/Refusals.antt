-- Refusals in their order.
use Rattle.std.specs.Prelude.{◌≡◌, Bool, if◌then◌else◌, List, [], ◌∷◌, Option, None, Some, Result, Ok, Err}
use Rattle.std.specs.Option.{option_or}
use Rattle.schema_book.specs.declared.refused.BookRefused.{BookRefused}
use Rattle.schema_book.specs.declared.refused.BookRefused.TheVariants as out
use Rattle.schema_book.specs.declared.refused.Stop.{Stop}
use Rattle.schema_book.specs.declared.refused.Stop.TheVariants.{Refused, NoMemory}

-- a refusal where a test fails
abbrev pub unless : Bool → BookRefused → Option BookRefused
unless test why = if test then None else Some why

-- the first refusal of a list of them
abbrev pub first_of : List (Option BookRefused) → Option BookRefused
first_of [] = None
first_of (o ∷ os) = option_or o (first_of os)

-- the first refusal that something in a list meets
abbrev pub first_among : {A : Type 0} → (A → Option BookRefused) → List A → Option BookRefused
first_among refusal [] = None
first_among refusal (x ∷ xs) = option_or (refusal x) (first_among refusal xs)

-- the refusal, or else the answer
abbrev pub else_gives : {A : Type 0} → Option BookRefused → Result A BookRefused → Result A BookRefused
else_gives None answer = answer
else_gives (Some why) answer = Err why

-- a check passes where there is no refusal, and else gives that refusal, unless memory runs out
abbrev pub Passes : {A : Type 0} → Result A Stop → Option BookRefused → Type 0
Passes (Ok x) refusal = refusal ≡ None
Passes (Err (Refused why)) refusal = refusal ≡ Some why
Passes (Err NoMemory) refusal = Unit {0}

-- an answer is the one that the definition gives, unless memory runs out
abbrev pub Gives : {A : Type 0} → Result A Stop → Result A BookRefused → Type 0
Gives (Ok x) answer = answer ≡ Ok x
Gives (Err (Refused why)) answer = answer ≡ Err why
Gives (Err NoMemory) answer = Unit {0}

-- with what an answer changes
abbrev pub Makes : {A S : Type 0} → Result A Stop → S → Result (A × S) BookRefused → Type 0
Makes (Ok x) new answer = answer ≡ Ok (x, new)
Makes (Err (Refused why)) new answer = answer ≡ Err why
Makes (Err NoMemory) new answer = Unit {0}

-- a refusal is the one that the definition gives, unless memory runs out
abbrev pub IsRefusal : {A : Type 0} → Result A BookRefused → BookRefused → Type 0
IsRefusal answer out.NoMemory = Unit {0}
IsRefusal answer why = answer ≡ Err why

-- what is told where a step ends
abbrev pub told_of : Stop → BookRefused
told_of (Refused why) = why
told_of NoMemory = out.NoMemory
