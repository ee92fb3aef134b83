-- Tokens that are alike spell values that are alike.
use Rattle.std.proofs.Common.{◌≡◌, ℕ, zero, suc, Bool, true, inl, inr, List, [], ◌∷◌, ◌++◌, Option, Some, None, map, refl, sym, ap, ap₂, ◌∙◌, subst}
use Rattle.grammar.specs.Grammar.{Grammar, token, both, either, maybe, several, again}
use Rattle.grammar.specs.Meaning.{may_stand, one_less, Items, Spells}
use Rattle.grammar.specs.Language.{Language, Again, Spelled}
use Rattle.ngql_parser.specs.Keeps.{Keeps}

abbrev tail_of : {A : Type 0} → List A → List A
tail_of [] = []
tail_of (a ∷ others) = others

abbrev pub head_or : {A : Type 0} → A → List A → A
head_or a [] = a
head_or a (b ∷ bs) = b

module _ {T : Type 0} (forget : T → T) where
  pub none_left : (ts : List T) → [] ≡ map forget ts → ts ≡ []
  none_left [] e = refl
  none_left (t ∷ ts) e = cc

  pub record Headed (t : T) (ts us : List T) : Type 0 where
    pub head : T
    pub behind : List T
    pub all : us ≡ head ∷ behind
    pub same : forget t ≡ forget head
    pub others : map forget ts ≡ map forget behind

  pub headed : (t : T) (ts us : List T) → map forget (t ∷ ts) ≡ map forget us → Headed t ts us
  headed t ts [] e = cc
  headed t ts (u ∷ us) e = record { head = u; behind = us; all = refl; same = ap (head_or (forget t)) e; others = ap tail_of e }

  pub record Cut (u w ts : List T) : Type 0 where
    pub front : List T
    pub behind : List T
    pub all : ts ≡ front ++ behind
    pub one : map forget u ≡ map forget front
    pub other : map forget w ≡ map forget behind

  pub cut_at : (u w ts : List T) → map forget (u ++ w) ≡ map forget ts → Cut u w ts
  cut_at [] w ts e = record { front = []; behind = ts; all = refl; one = refl; other = e }
  cut_at (t ∷ u) w ts e =
      let h = headed t (u ++ w) ts e in
      let c = cut_at u w h.behind h.others in
      record { front = h.head ∷ c.front; behind = c.behind; all = h.all ∙ ap (λ x. h.head ∷ x) c.all; one = ap₂ (λ a others. a ∷ others) h.same c.one; other = c.other }

-- a value that forgets what another forgets, spelled by other tokens
pub record Like {T A : Type 0} (P : List T → A → Type 0) (ts : List T) (of : A → A) (v : A) : Type 0 where
  pub value : A
  pub means : P ts value
  pub same : of value ≡ of v

module _ {T R : Type 0} (kind : T → ℕ) (ellipsis : ℕ) (lifted : Bool) (forget : T → T) (kept : (t : T) → kind (forget t) ≡ kind t) (inner : R → R) (Inner : List T → R → Type 0)
    (inner_alike : (ts us : List T) (r : R) → Inner ts r → map forget ts ≡ map forget us → Like Inner us inner r) where
  abbrev Says : {A : Type 0} → Grammar T R A → List T → A → Type 0
  Says g ts v = Spells kind ellipsis lifted Inner g ts v

  kinds : (t u : T) → forget t ≡ forget u → kind t ≡ kind u
  kinds t u e = sym (kept t) ∙ (ap kind e ∙ kept u)

  items_alike : {A : Type 0} (Item : List T → A → Type 0) (one : A → A) → ((ts us : List T) (a : A) → Item ts a → map forget ts ≡ map forget us → Like Item us one a) →
      (separator : ℕ) (limit : Option ℕ) (items : List A) (ts us : List T) → Items kind ellipsis lifted Item separator limit items ts → map forget ts ≡ map forget us →
      Like (λ ws found. Items kind ellipsis lifted Item separator limit found ws) us (map one) items
  items_alike Item one alike separator limit [] ts us s e =
      let h = headed forget s.0 [] us (ap (map forget) (sym s.1) ∙ e) in
      let end = none_left forget h.behind h.others in
      record { value = []; means = (h.head, h.all ∙ ap (λ x. h.head ∷ x) end, s.2, sym (kinds s.0 h.head h.same) ∙ s.3); same = refl }
  items_alike Item one alike separator limit (a ∷ items) ts us s e = elim s.3 [
    | inl last ↦
        let l = alike s.0 us a s.1 (ap (map forget) (sym last.0) ∙ e) in
        record { value = l.value ∷ []; means = (us, l.means, s.2, inl (refl, refl)); same = ap₂ (λ x xs. x ∷ map one xs) l.same (sym last.1) }
    | inr more ↦
        let c = cut_at forget s.0 (more.0 ∷ more.1) us (ap (map forget) (sym more.2) ∙ e) in
        let h = headed forget more.0 more.1 c.behind c.other in
        let l = alike s.0 c.front a s.1 c.one in
        let ls = items_alike Item one alike separator (one_less limit) items more.1 h.behind more.4 h.others in
        record {
          value = l.value ∷ ls.value;
          means = (c.front, l.means, s.2, inr (h.head, h.behind, c.all ∙ ap (λ x. c.front ++ x) h.all, sym (kinds more.0 h.head h.same) ∙ more.3, ls.means));
          same = ap₂ (λ x xs. x ∷ xs) l.same ls.same;
        }
  ]

  alike : {A : Type 0} (g : Grammar T R A) (of : A → A) → Keeps forget inner g of → (ts us : List T) (v : A) → Says g ts v → map forget ts ≡ map forget us → Like (Says g) us of v
  alike (token within beyond f) of k ts us v s e =
      let h = headed forget s.0 [] us (ap (map forget) (sym s.1) ∙ e) in
      let end = none_left forget h.behind h.others in
      record {
        value = f h.head;
        means = (h.head, h.all ∙ ap (λ x. h.head ∷ x) end, subst (λ n. may_stand lifted within beyond n ≡ true) (kinds s.0 h.head h.same) s.2, refl);
        same = sym (k h.head) ∙ (ap f (sym h.same) ∙ (k s.0 ∙ ap of (sym s.3)));
      }
  alike (both f g h) of k ts us v s e =
      let c = cut_at forget s.0 s.1 us (ap (map forget) (sym s.4) ∙ e) in
      let l = alike g k.0 k.2 s.0 c.front s.2 s.5 c.one in
      let r = alike h k.1 k.3 s.1 c.behind s.3 s.6 c.other in
      record {
        value = f l.value r.value;
        means = (c.front, c.behind, l.value, r.value, c.all, l.means, r.means, refl);
        same = sym (k.4 l.value r.value) ∙ (ap₂ f l.same r.same ∙ (k.4 s.2 s.3 ∙ ap of (sym s.7)));
      }
  alike (either g h) of k ts us v (inl s) e = let l = alike g of k.0 ts us v s e in record { value = l.value; means = inl l.means; same = l.same }
  alike (either g h) of k ts us v (inr s) e = let l = alike h of k.1 ts us v s e in record { value = l.value; means = inr l.means; same = l.same }
  alike (maybe f g) of k ts us v (inl s) e =
      let none = none_left forget us (ap (map forget) (sym s.0) ∙ e) in
      record { value = f None; means = inl (none, refl); same = ap of (sym s.1) }
  alike (maybe f g) of k ts us v (inr s) e =
      let l = alike g k.0 k.1 ts us s.0 s.1 e in
      record { value = f (Some l.value); means = inr (l.value, l.means, refl); same = sym (k.3 l.value) ∙ (ap (λ a. f (Some a)) l.same ∙ (k.3 s.0 ∙ ap of (sym s.2))) }
  alike (several f limit separator g) of k ts us v s e =
      let ls = items_alike (Says g) k.0 (λ ws xs a m same. alike g k.0 k.1 ws xs a m same) separator limit s.0 ts us s.1 e in
      record { value = f ls.value; means = (ls.value, ls.means, refl); same = sym (k.2 ls.value) ∙ (ap f ls.same ∙ (k.2 s.0 ∙ ap of (sym s.2))) }
  alike (again f) of k ts us v s e =
      let l = inner_alike ts us s.0 s.1 e in
      record { value = f l.value; means = (l.value, l.means, refl); same = sym (k l.value) ∙ (ap f l.same ∙ (k s.0 ∙ ap of (sym s.2))) }

module _ {T R : Type 0} (l : Language T R) (lifted : Bool) (forget : T → T) (kept : (t : T) → l.kind (forget t) ≡ l.kind t) (inner : R → R) (keeps : Keeps forget inner l.rule inner) where
  again_alike : (d : ℕ) (ts us : List T) (r : R) → Again l lifted d ts r → map forget ts ≡ map forget us → Like (Again l lifted d) us inner r
  again_alike zero ts us r s e = absurd s
  again_alike (suc d) ts us r s e =
      let k = alike l.kind l.ellipsis lifted forget kept inner (Again l lifted d) (again_alike d) l.rule inner keeps ts us r s e in
      record { value = k.value; means = k.means; same = k.same }

  -- tokens that are alike spell values that are alike
  pub spelled_alike : {A : Type 0} (g : Grammar T R A) (of : A → A) → Keeps forget inner g of → (ts us : List T) (v : A) → Spelled l lifted g ts v → map forget ts ≡ map forget us →
      (w : A) × Spelled l lifted g us w × (of w ≡ of v)
  spelled_alike g of k ts us v s e =
      let a = alike l.kind l.ellipsis lifted forget kept inner (Again l lifted s.0) (again_alike s.0) g of k ts us v s.1 e in
      (a.value, (s.0, a.means), a.same)
