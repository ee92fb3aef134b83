-- A grammar that keeps what is forgotten: where a token forgets something, its value forgets the like, and so does each rule's.
use Rattle.std.specs.Prelude.{◌≡◌, List, Some, None, map}
use Rattle.grammar.specs.Grammar.{Grammar, token, both, either, maybe, several, again}

-- What tokens forget and what the values of the rule that leads back forget are given; a grammar's values forget so too.
abbrev pub Keeps : {T R A : Type 0} → (T → T) → (R → R) → Grammar T R A → (A → A) → Type 0
Keeps {T = T} forget inner (token within beyond f) of = (t : T) → f (forget t) ≡ of (f t)
Keeps forget inner (both {A = A} {B = B} f g h) of =
    (one : A → A) × (other : B → B) × Keeps forget inner g one × Keeps forget inner h other × ((a : A) (b : B) → f (one a) (other b) ≡ of (f a b))
Keeps forget inner (either g h) of = Keeps forget inner g of × Keeps forget inner h of
Keeps forget inner (maybe {A = A} f g) of =
    (one : A → A) × Keeps forget inner g one × (f None ≡ of (f None)) × ((a : A) → f (Some (one a)) ≡ of (f (Some a)))
Keeps forget inner (several {A = A} f limit separator g) of =
    (one : A → A) × Keeps forget inner g one × ((items : List A) → f (map one items) ≡ of (f items))
Keeps {R = R} forget inner (again f) of = (r : R) → f (inner r) ≡ of (f r)
