-- What is still to be read of a condition, step by step.
use Rattle.std.proofs.Common.{◌≡◌, ℕ, zero, suc, ◌-◌, ◌<◌, ◌≤◌, Bool, true, false, List, [], ◌∷◌, ◌++◌, Option, Some, None, Result, Ok, Err, length, refl, sym, ap, ap₂, ◌∙◌, subst, inl, inr, nat_eq, flat_map, append_assoc, append-nil, arith}
use Rattle.grammar.specs.Grammar.{token, again, is_among}
use Rattle.grammar.specs.Meaning.{may_stand}
use Rattle.grammar.specs.Reading.{Reading, found, misfit, spent, and_then, with_value, firsts, behind_item, items_read, again_read}
use Rattle.grammar.proofs.Outcomes.{chosen}
use Rattle.ngql_syntax.specs.declared.cond.RawStep.{RawStep}
use Rattle.ngql_syntax.specs.declared.cond.RawStep.TheVariants as step
use Rattle.ngql_parser.specs.declared.kind.Kind.TheVariants as kind
use Rattle.ngql_parser.specs.declared.level.Level.{Level}
use Rattle.ngql_parser.specs.declared.level.Coming.{Coming}
use Rattle.ngql_parser.specs.declared.level.Coming.TheVariants as coming
use Rattle.ngql_parser.specs.declared.refusal.Refusal.{Refusal}
use Rattle.ngql_parser.specs.declared.refusal.Refusal.TheVariants as refusal
use Rattle.ngql_parser.specs.declared.token.Token.{Token}
use Rattle.ngql_parser.specs.Conds.{Onward, between_ands, between_ors, others, others_by, joined_to, with_step, with_nots, behind_ands, behind_not, from_not, fresh, after_and, after_or, after_not, closes_in, closes, at_end, reads_on, Comes, IsNearer}
use Rattle.ngql_parser.specs.Fronts.{behind}
use Rattle.ngql_parser.specs.Gives.{Refuses}
use Rattle.ngql_parser.specs.Kinds.{code}
use Rattle.ngql_parser.specs.Rules.{ngql, reads, kind_of, joined, word, and_of, cond, in_brackets, not_of, test_step, comparison, edge_expr, edge_call, call_word, of_kind, edge_property, of_dot, behind_dot, named, owner, name, rel_of, lit}
use Rattle.ngql_parser.proofs.Checked.{rest_within}
use Rattle.ngql_parser.proofs.Refused.{value_refused, then_refused}
use Rattle.ngql_parser.proofs.Turns.{separated, ended}

then_assoc : {A B C : Type 0} (r : Reading Token A) (f : A → List Token → Reading Token B) (g : B → List Token → Reading Token C) → and_then (and_then r f) g ≡ and_then r (λ a ts. and_then (f a ts) g)
then_assoc (found a ts) f g = refl
then_assoc (misfit limit ts) f g = refl
then_assoc spent f g = refl

then_value : {A B C : Type 0} (f : A → B) (r : Reading Token A) (g : B → List Token → Reading Token C) → and_then (with_value f r) g ≡ and_then r (λ a ts. g (f a) ts)
then_value f (found a ts) g = refl
then_value f (misfit limit ts) g = refl
then_value f spent g = refl

then_same : {A B : Type 0} (r : Reading Token A) (f g : A → List Token → Reading Token B) → ((a : A) (ts : List Token) → f a ts ≡ g a ts) → and_then r f ≡ and_then r g
then_same (found a ts) f g h = h a ts
then_same (misfit limit ts) f g h = refl
then_same spent f g h = refl

value_kept : {A : Type 0} (r : Reading Token A) → with_value (λ a. a) r ≡ r
value_kept (found a ts) = refl
value_kept (misfit limit ts) = refl
value_kept spent = refl

-- behind an item stand others
item_behind : (separator : ℕ) (a : List RawStep) (more : List Token → Reading Token (List (List RawStep))) (ts : List Token) → behind_item kind_of separator a more ts ≡ with_value (λ items. a ∷ items) (others separator more ts)
item_behind separator a more ts = by_cases (behind separator ts) refl
  where
    by_cases : (o : Option (List Token)) → behind separator ts ≡ o → behind_item kind_of separator a more ts ≡ with_value (λ items. a ∷ items) (others_by more ts o)
    by_cases None e = ended separator a more ts e
    by_cases (Some next) e = separated separator a more ts next e

joined_all : (s : RawStep) (made : List RawStep) (items : List (List RawStep)) → made ++ flat_map (λ other. other ++ s ∷ []) items ≡ joined_to s made items
joined_all s made [] = append-nil made
joined_all s made (a ∷ items) =
    sym (append_assoc made (a ++ s ∷ []) (flat_map (λ other. other ++ s ∷ []) items))
    ∙ (ap (λ m. m ++ flat_map (λ other. other ++ s ∷ []) items) (sym (append_assoc made a (s ∷ []))) ∙ joined_all s ((made ++ a) ++ s ∷ []) items)

module _ (s : RawStep) (begin : List ℕ) (item : List Token → Reading Token (List RawStep)) (separator n : ℕ) (on : Onward) (made : List RawStep) (ts : List Token) where
  abbrev Of : ℕ → List Token → Reading Token (List (List RawStep))
  Of k us = items_read kind_of 0 false begin item separator k None us

  -- a further item, and those behind it
  next_items : and_then (Of (suc n) ts) (λ items rest. on (joined_to s made items) rest)
      ≡ and_then (item ts) (λ a rest. and_then (others separator (Of n) rest) (λ items behind. on (joined_to s ((made ++ a) ++ s ∷ []) items) behind))
  next_items =
      then_assoc (item ts) _ _ ∙ then_same (item ts) _ _ (λ a rest.
      ap (λ x. and_then x (λ items behind. on (joined_to s made items) behind)) (item_behind separator a (Of n) rest)
      ∙ then_value (λ items. a ∷ items) (others separator (Of n) rest) _)

  -- the first item, and those behind it
  first_items : and_then (with_value (joined s) (Of (suc n) ts)) (λ v rest. on (made ++ v) rest)
      ≡ and_then (item ts) (λ a rest. and_then (others separator (Of n) rest) (λ items behind. on (joined_to s (made ++ a) items) behind))
  first_items =
      then_value (joined s) (Of (suc n) ts) _ ∙ (then_assoc (item ts) _ _ ∙ then_same (item ts) _ _ (λ a rest.
      ap (λ x. and_then x (λ items behind. on (made ++ joined s items) behind)) (item_behind separator a (Of n) rest)
      ∙ (then_value (λ items. a ∷ items) (others separator (Of n) rest) _
      ∙ then_same (others separator (Of n) rest) _ _ (λ items behind.
      ap (λ m. on m behind) (sym (append_assoc made a (flat_map (λ other. other ++ s ∷ []) items)) ∙ joined_all s (made ++ a) items)))))

no_nots : (d : ℕ) (made : List RawStep) → with_nots (d - d) made ≡ made
no_nots d made = let none : d - d ≡ 0 = omega arith in ap (λ n. with_nots n made) none

-- the conditions between ANDs begin with one
enter_ands : (d ors : ℕ) (has_ors : Bool) (on : Onward) (made : List RawStep) (ts : List Token) →
    let l : Level = record { d = d; left = d; ands = d - 1; ors = ors; has_ands = false; has_ors = has_ors } in
    and_then (reads d and_of ts) (λ v rest. behind_ands l on (made ++ v) rest) ≡ from_not l on made ts
unfolding and_of
enter_ands zero ors has_ors on made ts = refl
enter_ands (suc n) ors has_ors on made ts =
    let l : Level = record { d = suc n; left = suc n; ands = suc n - 1; ors = ors; has_ands = false; has_ors = has_ors } in
    let less : n ≡ suc n - 1 = omega arith in
    first_items step.And ngql.first (λ us. reads (suc n) (again (λ s. s)) us) (code kind.And) n (behind_ands l on) made ts
    ∙ (then_value (λ s. s) (again_read ngql false (suc n) ts) _
    ∙ then_same (again_read ngql false (suc n) ts) _ _ (λ a rest.
    ap₂ (λ m k. and_then (others (code kind.And) (between_ands (suc n) k) rest) (λ items behind. behind_ands l on (joined_to step.And m items) behind)) (sym (no_nots (suc n) (made ++ a))) less))

-- a condition begins with conditions between ANDs
pub enter : (d : ℕ) (on : Onward) (made : List RawStep) (ts : List Token) → and_then (reads d cond ts) (λ v rest. on (made ++ v) rest) ≡ from_not (fresh d) on made ts
unfolding cond
enter zero on made ts = refl
enter (suc n) on made ts =
    let less : n ≡ suc n - 1 = omega arith in
    first_items step.Or (firsts ngql.first and_of) (λ us. reads (suc n) and_of us) (code kind.Or) n on made ts
    ∙ (enter_ands (suc n) n false on made ts
    ∙ ap (λ k. from_not (record { d = suc n; left = suc n; ands = suc n - 1; ors = k; has_ands = false; has_ors = false }) on made ts) less)

-- behind a condition: an AND, or none
pub and_comes : (l : Level) (on : Onward) (made new : List RawStep) (ts next : List Token) → behind (code kind.And) ts ≡ Some next → 0 < l.ands →
    new ≡ with_step l.has_ands step.And (with_nots (l.d - l.left) made) → behind_not l on made ts ≡ from_not (after_and l) on new next
and_comes l on made new ts next e some is =
    let n = l.ands - 1 in
    let one : l.ands ≡ suc n = omega arith in
    ap (λ o. and_then (others_by (between_ands l.d l.ands) ts o) (λ items rest. behind_ands l on (joined_to step.And (with_step l.has_ands step.And (with_nots (l.d - l.left) made)) items) rest)) e
    ∙ (ap (λ k. and_then (between_ands l.d k next) (λ items rest. behind_ands l on (joined_to step.And (with_step l.has_ands step.And (with_nots (l.d - l.left) made)) items) rest)) one
    ∙ (ap (λ m. and_then (between_ands l.d (suc n) next) (λ items rest. behind_ands l on (joined_to step.And m items) rest)) (sym is)
    ∙ (next_items step.And ngql.first (λ us. reads l.d (again (λ s. s)) us) (code kind.And) n (behind_ands l on) new next
    ∙ (then_value (λ s. s) (again_read ngql false l.d next) _
    ∙ then_same (again_read ngql false l.d next) _ _ (λ a rest.
    ap (λ m. and_then (others (code kind.And) (between_ands l.d n) rest) (λ items behind. behind_ands l on (joined_to step.And (m ++ step.And ∷ []) items) behind)) (sym (no_nots l.d (new ++ a))))))))

pub no_and_comes : (l : Level) (on : Onward) (made new : List RawStep) (ts : List Token) → behind (code kind.And) ts ≡ None →
    new ≡ with_step l.has_ands step.And (with_nots (l.d - l.left) made) → behind_not l on made ts ≡ behind_ands l on new ts
no_and_comes l on made new ts e is =
    ap (λ o. and_then (others_by (between_ands l.d l.ands) ts o) (λ items rest. behind_ands l on (joined_to step.And (with_step l.has_ands step.And (with_nots (l.d - l.left) made)) items) rest)) e
    ∙ ap (λ m. behind_ands l on m ts) (sym is)

pub or_comes : (l : Level) (on : Onward) (made new : List RawStep) (ts next : List Token) → behind (code kind.Or) ts ≡ Some next → 0 < l.ors →
    new ≡ with_step l.has_ors step.Or made → behind_ands l on made ts ≡ from_not (after_or l) on new next
or_comes l on made new ts next e some is =
    let n = l.ors - 1 in
    let one : l.ors ≡ suc n = omega arith in
    ap (λ o. and_then (others_by (between_ors l.d l.ors) ts o) (λ items rest. on (joined_to step.Or (with_step l.has_ors step.Or made) items) rest)) e
    ∙ (ap (λ k. and_then (between_ors l.d k next) (λ items rest. on (joined_to step.Or (with_step l.has_ors step.Or made) items) rest)) one
    ∙ (ap (λ m. and_then (between_ors l.d (suc n) next) (λ items rest. on (joined_to step.Or m items) rest)) (sym is)
    ∙ (next_items step.Or (firsts ngql.first and_of) (λ us. reads l.d and_of us) (code kind.Or) n on new next
    ∙ enter_ands l.d n true on new next)))

pub no_or_comes : (l : Level) (on : Onward) (made new : List RawStep) (ts : List Token) → behind (code kind.Or) ts ≡ None →
    new ≡ with_step l.has_ors step.Or made → behind_ands l on made ts ≡ on new ts
no_or_comes l on made new ts e is =
    ap (λ o. and_then (others_by (between_ors l.d l.ors) ts o) (λ items rest. on (joined_to step.Or (with_step l.has_ors step.Or made) items) rest)) e
    ∙ ap (λ m. on m ts) (sym is)

-- the last level of a list of levels is the innermost
closes_more : (on : Onward) (levels : List Level) (l : Level) → closes on (levels ++ l ∷ []) ≡ closes_in l (closes on levels)
closes_more on [] l = refl
closes_more on (first ∷ levels) l = closes_more (closes_in first on) levels l

-- a condition that begins with NOT, with a bracket, and with neither
not_read : (n : ℕ) (ts next : List Token) → behind (code kind.Not) ts ≡ Some next → again_read ngql false (suc n) ts ≡ with_value (λ s. s ++ step.Not ∷ []) (again_read ngql false n next)
unfolding not_of in_brackets
not_read n [] next e = cc
not_read n (t ∷ ts) next e = elim (chosen (nat_eq (kind_of t) (code kind.Not)) (Some ts) None _ e) [
  | inl c ↦ let same : ts ≡ next = cc (c.1) in rw (c.0, same) (ap (with_value (λ s. s ++ step.Not ∷ [])) (value_kept (again_read ngql false n next)))
  | inr c ↦ cc (c.1)
]

bracket_read : (n : ℕ) (ts next : List Token) → behind (code kind.Not) ts ≡ None → behind (code kind.Open) ts ≡ Some next →
    again_read ngql false (suc n) ts ≡ and_then (reads n cond next) (λ v rest. with_value (λ at. v) (reads n (word kind.Close) rest))
unfolding not_of in_brackets
bracket_read n [] next none e = cc
bracket_read n (t ∷ ts) next none e = elim (chosen (nat_eq (kind_of t) (code kind.Not)) (Some ts) None _ none) [
  | inl c ↦ cc (c.1)
  | inr b ↦ elim (chosen (nat_eq (kind_of t) (code kind.Open)) (Some ts) None _ e) [
    | inl c ↦ let same : ts ≡ next = cc (c.1) in rw (b.0, c.0, same) (value_kept _)
    | inr c ↦ cc (c.1)
  ]
]

-- a comparison is a list of one step
value_then : {A B C : Type 0} (f : B → C) (r : Reading Token A) (g : A → List Token → Reading Token B) → with_value f (and_then r g) ≡ and_then r (λ a ts. with_value f (g a ts))
value_then f (found a ts) g = refl
value_then f (misfit limit ts) g = refl
value_then f spent g = refl

value_value : {A B C : Type 0} (f : A → B) (g : B → C) (r : Reading Token A) → with_value g (with_value f r) ≡ with_value (λ a. g (f a)) r
value_value f g (found a ts) = refl
value_value f g (misfit limit ts) = refl
value_value f g spent = refl

test_listed : (n : ℕ) (ts : List Token) → reads n comparison ts ≡ with_value (λ s. s ∷ []) (reads n test_step ts)
unfolding comparison test_step
test_listed n ts = sym (value_then (λ s. s ∷ []) (reads n edge_expr ts) _ ∙ then_same (reads n edge_expr ts) _ _ (λ e rest. value_value _ (λ s. s ∷ []) _))

test_read : (n : ℕ) (ts : List Token) → behind (code kind.Not) ts ≡ None → behind (code kind.Open) ts ≡ None →
    again_read ngql false (suc n) ts ≡ with_value (λ s. s ∷ []) (reads n test_step ts)
unfolding not_of in_brackets comparison test_step
test_read n [] none e = test_listed n []
test_read n (t ∷ ts) none e = elim (chosen (nat_eq (kind_of t) (code kind.Not)) (Some ts) None _ none) [
  | inl c ↦ cc (c.1)
  | inr b ↦ elim (chosen (nat_eq (kind_of t) (code kind.Open)) (Some ts) None _ e) [
    | inl c ↦ cc (c.1)
    | inr c ↦ rw (b.0, c.0) (test_listed n (t ∷ ts))
  ]
]

-- what begins with NOT, with a bracket, and with a comparison is read on from behind them
pub not_comes : (l : Level) (on : Onward) (made : List RawStep) (ts next : List Token) → behind (code kind.Not) ts ≡ Some next → 0 < l.left → l.left ≤ l.d →
    from_not l on made ts ≡ from_not (after_not l) on made next
not_comes l on made ts next e some within =
    let n = l.left - 1 in
    let one : l.left ≡ suc n = omega arith in
    let more : l.d - n ≡ suc (l.d - l.left) = omega arith in
    ap (λ k. and_then (again_read ngql false k ts) (λ s rest. behind_not l on (made ++ s) rest)) one
    ∙ (ap (λ r. and_then r (λ s rest. behind_not l on (made ++ s) rest)) (not_read n ts next e)
    ∙ (then_value (λ s. s ++ step.Not ∷ []) (again_read ngql false n next) _
    ∙ then_same (again_read ngql false n next) _ _ (λ s rest.
    ap (λ m. and_then (others (code kind.And) (between_ands l.d l.ands) rest) (λ items behind. behind_ands l on (joined_to step.And (with_step l.has_ands step.And m) items) behind))
    (ap (with_nots (l.d - l.left)) (sym (append_assoc made s (step.Not ∷ []))) ∙ sym (ap (λ k. with_nots k (made ++ s)) more)))))

pub bracket_comes : (l : Level) (on : Onward) (made : List RawStep) (ts next : List Token) → behind (code kind.Not) ts ≡ None → behind (code kind.Open) ts ≡ Some next → 0 < l.left →
    from_not l on made ts ≡ from_not (fresh (l.left - 1)) (closes_in l on) made next
bracket_comes l on made ts next none e some =
    let n = l.left - 1 in
    let one : l.left ≡ suc n = omega arith in
    ap (λ k. and_then (again_read ngql false k ts) (λ s rest. behind_not l on (made ++ s) rest)) one
    ∙ (ap (λ r. and_then r (λ s rest. behind_not l on (made ++ s) rest)) (bracket_read n ts next none e)
    ∙ (then_assoc (reads n cond next) _ _
    ∙ (then_same (reads n cond next) _ _ (λ v rest. then_value (λ at. v) (reads n (word kind.Close) rest) _)
    ∙ enter n (closes_in l on) made next)))

pub test_comes : (l : Level) (on : Onward) (made : List RawStep) (ts rest : List Token) (t : RawStep) → behind (code kind.Not) ts ≡ None → behind (code kind.Open) ts ≡ None → 0 < l.left →
    reads (l.left - 1) test_step ts ≡ found t rest → from_not l on made ts ≡ behind_not l on (made ++ t ∷ []) rest
test_comes l on made ts rest t none no_bracket some is =
    let n = l.left - 1 in
    let one : l.left ≡ suc n = omega arith in
    ap (λ k. and_then (again_read ngql false k ts) (λ s rest. behind_not l on (made ++ s) rest)) one
    ∙ (ap (λ r. and_then r (λ s rest. behind_not l on (made ++ s) rest)) (test_read n ts none no_bracket)
    ∙ ap (λ r. and_then (with_value (λ s. s ∷ []) r) (λ s rest. behind_not l on (made ++ s) rest)) is)

-- what stands behind a word is shorter
pub behind_shorter : (k : ℕ) (ts next : List Token) → behind k ts ≡ Some next → length next < length ts
behind_shorter k [] next e = cc
behind_shorter k (t ∷ ts) next e = elim (chosen (nat_eq (kind_of t) k) (Some ts) None _ e) [
  | inl c ↦ let same : ts ≡ next = cc (c.1) in let long : length ts ≡ length next = ap length same in omega arith
  | inr c ↦ cc (c.1)
]

pub word_shorter : (d k : ℕ) (ts rest : List Token) (at : ℕ) → reads d (token (k ∷ []) [] (λ t. t.at)) ts ≡ found at rest → length rest ≤ length ts
word_shorter d k [] rest at e = cc
word_shorter d k (t ∷ ts) rest at e = elim (chosen (may_stand false (k ∷ []) [] (kind_of t)) (found t.at ts) (misfit (is_among (kind_of t) []) (t ∷ ts)) _ e) [
  | inl c ↦ let same : ts ≡ rest = cc (c.1) in let long : length ts ≡ length rest = ap length same in omega arith
  | inr c ↦ cc (c.1)
]

pub test_within : (d : ℕ) (ts : List Token) (t : RawStep) (rest : List Token) → reads d test_step ts ≡ found t rest → length rest ≤ length ts
unfolding test_step edge_expr edge_call call_word of_kind edge_property of_dot behind_dot named owner name rel_of lit
test_within d ts t rest e = rest_within test_step refl d ts t rest e

-- the same reading gives the same
pub refused_by : {A : Type 0} (e : Refusal) (r other : Reading Token A) → r ≡ other → Refuses e other → Refuses e r
refused_by refusal.NoMemory r other same h = tt
refused_by refusal.Spent r other same h = same ∙ h
refused_by (refusal.Misfit limit rest) r other same h = same ∙ h

pub comes_by : (result : Result Coming Refusal) (outer : List Level) (l : Level) (made : List RawStep) (r other : Reading Token (List RawStep)) → r ≡ other → Comes result outer l made other → Comes result outer l made r
comes_by (Ok (coming.Further rest)) outer l made r other same h = same ∙ h
comes_by (Ok (coming.End rest)) outer l made r other same h = same ∙ h
comes_by (Err e) outer l made r other same h = refused_by e r other same h

pub nearer_by : (result : Result Coming Refusal) (l : Level) (n m : ℕ) → n ≤ m → IsNearer result l n → IsNearer result l m
nearer_by (Ok (coming.Further rest)) l n m le h = (h.0, omega (arith, h.1, le))
nearer_by (Ok (coming.End rest)) l n m le h = tt
nearer_by (Err e) l n m le h = tt

-- The ends of levels, by what the code has: the level and those around it stay as they were while steps are put.
module _ {r : Reading Token (List RawStep)} (l l' : Level) (outer outer' : List Level) (made new : List RawStep) (ts : List Token)
    (same : r ≡ behind_not l (reads_on outer) made ts) (put : new ≡ with_step l.has_ands step.And (with_nots (l.d - l.left) made)) (kept : l' ≡ l) (around : outer' ≡ outer) where
  pub and_ends : (after : Level) (next : List Token) → Some next ≡ behind (code kind.And) ts → (after ≡ after_and l') × (0 < l'.ands) → r ≡ from_not after (reads_on outer') new next
  and_ends after next e h =
      same ∙ (and_comes l (reads_on outer) made new ts next (sym e) (subst (λ (x : Level). 0 < x.ands) kept h.1) put
      ∙ ap₂ (λ (x : Level) (os : List Level). from_not x (reads_on os) new next) (sym (h.0 ∙ ap after_and kept)) (sym around))

  -- no AND comes
  module _ (none : None ≡ behind (code kind.And) ts) (l'' : Level) (outer'' : List Level) (newer : List RawStep)
      (put' : newer ≡ with_step l'.has_ors step.Or new) (kept' : l'' ≡ l') (around' : outer'' ≡ outer') where
    joined_so : newer ≡ with_step l.has_ors step.Or new
    joined_so = subst (λ (x : Level). newer ≡ with_step x.has_ors step.Or new) kept put'

    pub or_ends : (after : Level) (next : List Token) → Some next ≡ behind (code kind.Or) ts → (after ≡ after_or l'') × (0 < l''.ors) → r ≡ from_not after (reads_on outer'') newer next
    or_ends after next e h =
        same ∙ (no_and_comes l (reads_on outer) made new ts (sym none) put
        ∙ (or_comes l (reads_on outer) new newer ts next (sym e) (subst (λ (x : Level). 0 < x.ors) (kept' ∙ kept) h.1) joined_so
        ∙ ap₂ (λ (x : Level) (os : List Level). from_not x (reads_on os) newer next) (sym (h.0 ∙ ap after_or (kept' ∙ kept))) (sym (around' ∙ around))))

    -- no OR comes: the level is whole
    pub level_ends : (rest : List Level) (level : Level) → None ≡ behind (code kind.Or) ts → outer'' ≡ rest ++ level ∷ [] → r ≡ closes_in level (reads_on rest) newer ts
    level_ends rest level none' e =
        same ∙ (no_and_comes l (reads_on outer) made new ts (sym none) put
        ∙ (no_or_comes l (reads_on outer) new newer ts (sym none') joined_so
        ∙ (ap (λ os. reads_on os newer ts) (sym (around' ∙ around) ∙ e) ∙ ap (λ on. on newer ts) (closes_more at_end rest level))))

-- a bracket that opens, by what the code has
pub bracket_opens : (l l' : Level) (outer outer' : List Level) (made new : List RawStep) (ts next : List Token) (left : ℕ) → None ≡ behind (code kind.Not) ts → Some next ≡ behind (code kind.Open) ts → 0 < l.left →
    l' ≡ fresh left → left ≡ l.left - 1 → outer' ≡ outer ++ l ∷ [] → new ≡ made → from_not l (reads_on outer) made ts ≡ from_not l' (reads_on outer') new next
bracket_opens l l' outer outer' made new ts next left none e some begun is around kept =
    bracket_comes l (reads_on outer) made ts next (sym none) (sym e) some
    ∙ (ap (λ (x : Level). from_not x (closes_in l (reads_on outer)) made next) (sym (begun ∙ ap fresh is))
    ∙ (ap (λ on. from_not l' on made next) (sym (ap reads_on around ∙ closes_more at_end outer l))
    ∙ ap (λ m. from_not l' (reads_on outer') m next) (sym kept)))

-- the whole, before anything is read
then_end : {A : Type 0} (r : Reading Token A) → r ≡ and_then r (λ v rest. found v rest)
then_end (found a ts) = refl
then_end (misfit limit ts) = refl
then_end spent = refl

pub begins : (d : ℕ) (ts : List Token) (l : Level) (outer : List Level) (made : List RawStep) → l ≡ fresh d → outer ≡ [] → made ≡ [] → reads d cond ts ≡ from_not l (reads_on outer) made ts
begins d ts l outer made fresh_one none nothing =
    then_end (reads d cond ts) ∙ (enter d at_end [] ts
    ∙ (ap (λ (x : Level). from_not x at_end [] ts) (sym fresh_one) ∙ ap₂ (λ (os : List Level) (m : List RawStep). from_not l (reads_on os) m ts) (sym none) (sym nothing)))

pub fresh_within : (d : ℕ) (l : Level) → l ≡ fresh d → l.left ≤ l.d
fresh_within d l e = subst (λ (x : Level). x.left ≤ x.d) (sym e) (omega arith)

pub test_refused : (l : Level) (on : Onward) (made : List RawStep) (ts : List Token) → None ≡ behind (code kind.Not) ts → None ≡ behind (code kind.Open) ts → 0 < l.left →
    (e : Refusal) → Refuses e (reads (l.left - 1) test_step ts) → Refuses e (from_not l on made ts)
test_refused l on made ts none no_bracket some e h =
    let n = l.left - 1 in
    let one : l.left ≡ suc n = omega arith in
    refused_by e _ _
    (ap (λ k. and_then (again_read ngql false k ts) (λ s rest. behind_not l on (made ++ s) rest)) one
    ∙ ap (λ r. and_then r (λ s rest. behind_not l on (made ++ s) rest)) (test_read n ts (sym none) (sym no_bracket)))
    (then_refused _ e _ (value_refused _ e _ h))
