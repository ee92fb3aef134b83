-- A mark at the end of a line.
use Rattle.std.proofs.Common.{◌≡◌, ℕ, Bool, true, false, ◌||◌, inl, inr, List, [], ◌∷◌, ◌++◌, refl, sym, ap, ◌∙◌, append_assoc, append-nil, nat_eq}
use Rattle.std.proofs.lemmas.Bool.{true≢false}
use Rattle.grammar.specs.Meaning.{may_stand}
use Rattle.ngql_syntax.specs.declared.statement.Line.{Line}
use Rattle.ngql_parser.specs.declared.kind.Kind.TheVariants as kind
use Rattle.ngql_parser.specs.declared.token.Token.{Token}
use Rattle.ngql_parser.specs.Kinds.{code}
use Rattle.ngql_parser.specs.Laws.{ends_in}
use Rattle.ngql_parser.specs.Promise.{AreLine}
use Rattle.ngql_parser.specs.Rules.{kind_of, line, whole, mark}

ends_behind : (k : ℕ) (front : List Token) (t : Token) → ends_in k (front ++ t ∷ []) ≡ nat_eq (kind_of t) k
ends_behind k [] t = refl
ends_behind k (u ∷ []) t = refl
ends_behind k (u ∷ v ∷ front) t = ends_behind k (v ∷ front) t

-- one of one kind alone
of_kind_alone : (k n : ℕ) → may_stand false (k ∷ []) [] n ≡ true → nat_eq n k ≡ true
of_kind_alone k n h = by_cases (nat_eq n k) refl
  where
    by_cases : (b : Bool) → nat_eq n k ≡ b → nat_eq n k ≡ true
    by_cases true e = e
    by_cases false e = absurd (true≢false (sym h ∙ ap (λ b. (b || false) || false) e))

allowed : (k n : ℕ) → nat_eq n k ≡ true → may_stand false (k ∷ []) [] n ≡ true
allowed k n e = ap (λ b. (b || false) || false) e

pub closed : (ts : List Token) (l : Line) (s : Token) → AreLine ts l → ends_in (code kind.Semicolon) ts ≡ false → nat_eq (kind_of s) (code kind.Semicolon) ≡ true → AreLine (ts ++ s ∷ []) l
unfolding line whole mark
closed ts l s (d, h) open_end is =
    let rest = h.6 in
    let body = rest.6 in
    elim body.6 [
      | inl none ↦
          let end : body.0 ++ body.1 ≡ body.0 = ap (λ w. body.0 ++ w) none.0 ∙ append-nil body.0 in
          let all : ts ++ s ∷ [] ≡ h.0 ++ (rest.0 ++ (body.0 ++ s ∷ [])) =
          ap (λ w. w ++ s ∷ []) (h.4 ∙ ap (λ w. h.0 ++ w) (rest.4 ∙ ap (λ w. rest.0 ++ w) (body.4 ∙ end)))
          ∙ (append_assoc h.0 (rest.0 ++ body.0) (s ∷ []) ∙ ap (λ w. h.0 ++ w) (append_assoc rest.0 body.0 (s ∷ []))) in (
            d,
            (
              h.0,
              rest.0 ++ (body.0 ++ s ∷ []),
              h.2,
              h.3,
              all,
              h.5,
              (
                rest.0,
                body.0 ++ s ∷ [],
                rest.2,
                rest.3,
                refl,
                rest.5,
                (body.0, s ∷ [], body.2, true, refl, body.5, inr (s.at, (s, refl, allowed (code kind.Semicolon) (kind_of s) is, refl), refl), body.7),
                rest.7,
              ),
              h.7,
            ),
          )
      | inr some ↦
          let t = some.1.0 in
          let front = h.0 ++ (rest.0 ++ body.0) in
          let all : ts ≡ front ++ t ∷ [] =
          h.4 ∙ (ap (λ w. h.0 ++ w) (rest.4 ∙ ap (λ w. rest.0 ++ w) (body.4 ∙ ap (λ w. body.0 ++ w) some.1.1))
          ∙ (ap (λ w. h.0 ++ w) (sym (append_assoc rest.0 body.0 (t ∷ []))) ∙ sym (append_assoc h.0 (rest.0 ++ body.0) (t ∷ [])))) in
          absurd (true≢false (sym (of_kind_alone (code kind.Semicolon) (kind_of t) some.1.2) ∙ (sym (ends_behind (code kind.Semicolon) front t) ∙ (ap (ends_in (code kind.Semicolon)) (sym all) ∙ open_end))))
    ]
