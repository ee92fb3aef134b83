-- How a list's reading goes on from item to item.
use Rattle.std.proofs.Common.{◌≡◌, ℕ, suc, ◌+◌, ◌-◌, ◌<◌, ◌≤◌, false, List, [], ◌∷◌, ◌++◌, Option, Some, None, refl, sym, ap, ◌∙◌, nat_eq, arith, append_assoc, ap₂, inl, inr}
use Rattle.std.proofs.lemmas.Bool.{cond-true, cond-false}
use Rattle.grammar.specs.Meaning.{is_full, one_less}
use Rattle.grammar.specs.Reading.{Reading, found, misfit, spent, and_then, with_value, behind_item, over_read, items_read}
use Rattle.grammar.proofs.Outcomes.{chosen}
use Rattle.ngql_parser.specs.declared.token.Token.{Token}
use Rattle.ngql_parser.specs.declared.refusal.Refusal.{Refusal}
use Rattle.ngql_parser.specs.declared.refusal.Refusal.TheVariants.{NoMemory, Spent, Misfit}
use Rattle.ngql_parser.specs.Fronts.{behind_these, behind}
use Rattle.ngql_parser.specs.Gives.{Refuses}
use Rattle.ngql_parser.specs.Rules.{kind_of}

-- one more item in front
pub one_further : {T A : Type 0} (items : List A) (a : A) (r : Reading T (List A)) → behind_these items (with_value (λ more. a ∷ more) r) ≡ behind_these (items ++ a ∷ []) r
one_further items a (found more ts) = ap (λ x. found x ts) (sym (append_assoc items (a ∷ []) more))
one_further items a (misfit limit ts) = refl
one_further items a spent = refl

pub none_before : {T A : Type 0} (r : Reading T (List A)) → r ≡ behind_these [] r
none_before (found more ts) = refl
none_before (misfit limit ts) = refl
none_before spent = refl

-- behind an item: the separator, or the end
pub separated : {A : Type 0} (separator : ℕ) (a : A) (more : List Token → Reading Token (List A)) (ts next : List Token) → behind separator ts ≡ Some next → behind_item kind_of separator a more ts ≡ with_value (λ items. a ∷ items) (more next)
separated separator a more [] next e = cc
separated separator a more (t ∷ ts) next e = elim (chosen (nat_eq (kind_of t) separator) (Some ts) None _ e) [
  | inl c ↦ let same : ts ≡ next = cc (c.1) in cond-true (nat_eq (kind_of t) separator) _ _ c.0 ∙ ap (λ x. with_value (λ items. a ∷ items) (more x)) same
  | inr c ↦ cc (c.1)
]

pub ended : {A : Type 0} (separator : ℕ) (a : A) (more : List Token → Reading Token (List A)) (ts : List Token) → behind separator ts ≡ None → behind_item kind_of separator a more ts ≡ found (a ∷ []) ts
ended separator a more [] e = refl
ended separator a more (t ∷ ts) e = elim (chosen (nat_eq (kind_of t) separator) (Some ts) None _ e) [
  | inl c ↦ cc (c.1)
  | inr c ↦ cond-false (nat_eq (kind_of t) separator) _ _ c.0
]

module _ {A : Type 0} (begin : List ℕ) (item : List Token → Reading Token A) (separator : ℕ) where
  abbrev Of : ℕ → Option ℕ → List Token → Reading Token (List A)
  Of n limit ts = items_read kind_of 0 false begin item separator n limit ts

  abbrev next_item : ℕ → Option ℕ → A → List Token → Reading Token (List A)
  next_item n limit a ts = behind_item kind_of separator a (Of n (one_less limit)) ts

  pub at_first : (n : ℕ) (limit : Option ℕ) (ts : List Token) → Of n limit ts ≡ behind_these [] (Of (n - 0) limit ts)
  at_first n limit ts = let all : n ≡ n - 0 = omega arith in none_before (Of n limit ts) ∙ ap (λ m. behind_these [] (Of m limit ts)) all

  one_turn : (n at : ℕ) (limit : Option ℕ) (ts : List Token) → at < n → is_full limit ≡ false → Of (n - at) limit ts ≡ and_then (item ts) (next_item (n - (at + 1)) limit)
  one_turn n at limit ts below room =
      let turn : n - at ≡ suc (n - (at + 1)) = omega arith in
      ap (λ m. Of m limit ts) turn ∙ cond-false (is_full limit) _ _ room

  module _ {r : Reading Token (List A)} (made : List A) (n at : ℕ) (limit : Option ℕ) (rest : List Token) (below : at < n) (room : is_full limit ≡ false)
      (so_far : r ≡ behind_these made (Of (n - at) limit rest)) where
    turned : r ≡ behind_these made (and_then (item rest) (next_item (n - (at + 1)) limit))
    turned = so_far ∙ ap (behind_these made) (one_turn n at limit rest below room)

    pub turn_ends : (a : A) (ts : List Token) → item rest ≡ found a ts → behind separator ts ≡ None → r ≡ found (made ++ a ∷ []) ts
    turn_ends a ts is end = turned ∙ (ap (λ x. behind_these made (and_then x (next_item (n - (at + 1)) limit))) is ∙ ap (behind_these made) (ended separator a _ ts end))

    pub turn_goes_on : (a : A) (ts next : List Token) → item rest ≡ found a ts → behind separator ts ≡ Some next → r ≡ behind_these (made ++ a ∷ []) (Of (n - (at + 1)) (one_less limit) next)
    turn_goes_on a ts next is on =
        turned ∙ (ap (λ x. behind_these made (and_then x (next_item (n - (at + 1)) limit))) is
        ∙ (ap (behind_these made) (separated separator a _ ts next on) ∙ one_further made a _))

    pub turn_refused : (e : Refusal) → Refuses e (item rest) → Refuses e r
    turn_refused NoMemory h = tt
    turn_refused Spent h = turned ∙ ap (λ x. behind_these made (and_then x (next_item (n - (at + 1)) limit))) h
    turn_refused (Misfit l ts) h = turned ∙ ap (λ x. behind_these made (and_then x (next_item (n - (at + 1)) limit))) h

  pub turns_over : {r : Reading Token (List A)} (made : List A) (n at : ℕ) (limit : Option ℕ) (rest : List Token) → n ≤ at → r ≡ behind_these made (Of (n - at) limit rest) → r ≡ spent
  turns_over made n at limit rest done so_far = let none : n - at ≡ 0 = omega arith in so_far ∙ ap (λ m. behind_these made (Of m limit rest)) none

pub still_room : (limit at : ℕ) → at < limit → is_full (Some (limit - at)) ≡ false
still_room limit at below = let turn : limit - at ≡ suc (limit - (at + 1)) = omega arith in ap (λ m. is_full (Some m)) turn

pub one_room_less : (limit at : ℕ) → at < limit → one_less (Some (limit - at)) ≡ Some (limit - (at + 1))
one_room_less limit at below = let turn : limit - at ≡ suc (limit - (at + 1)) = omega arith in ap (λ m. one_less (Some m)) turn

-- where the limit leaves no item: the reading that would go on
abbrev pub going_on : {A : Type 0} → List ℕ → (List Token → Reading Token A) → ℕ → ℕ → ℕ → List Token → Reading Token (List A)
going_on begin item separator n at ts = and_then (item ts) (λ a rest. behind_item kind_of separator a (items_read kind_of 0 false begin item separator (n - (at + 1)) (Some 0)) rest)

pub over_turn : {A : Type 0} (begin : List ℕ) (item : List Token → Reading Token A) (separator : ℕ) (made : List A) (n at limit : ℕ) → at < n → at ≡ limit → (ts : List Token) →
    behind_these made (items_read kind_of 0 false begin item separator (n - at) (Some (limit - at)) ts)
    ≡ behind_these made (over_read kind_of 0 false begin (going_on begin item separator n at ts) ts)
over_turn begin item separator made n at limit below full ts =
    let turn : n - at ≡ suc (n - (at + 1)) = omega arith in
    let none : limit - at ≡ 0 = omega arith in
    ap₂ (λ m k. behind_these made (items_read kind_of 0 false begin item separator m (Some k) ts)) turn none
