-- A misfit of some tokens is one of tokens that are alike.
use Rattle.std.proofs.Common.{◌≡◌, Bool, true, false, List, [], ◌∷◌, ◌++◌, map, sym, ap, ap₂, ◌∙◌}
use Rattle.std.proofs.lemmas.List.{map-append, append_cancel_right}
use Rattle.grammar.specs.Grammar.{Grammar}
use Rattle.grammar.specs.Language.{Language, Begins, GoesNoFurther, FirstMisfit, Misfit}
use Rattle.ngql_parser.specs.Keeps.{Keeps}
use Rattle.ngql_parser.proofs.Forgotten.{Cut, cut_at, headed, head_or, spelled_alike}

module _ {T R A : Type 0} (l : Language T R) (forget : T → T) (kept : (t : T) → l.kind (forget t) ≡ l.kind t) (inner : R → R) (keeps : Keeps forget inner l.rule inner) (g : Grammar T R A) (of : A → A) (k : Keeps forget inner g of) where
  begins_alike : (lifted : Bool) (front others : List T) → map forget front ≡ map forget others → Begins l lifted g front → Begins l lifted g others
  begins_alike lifted front others e b =
      let same : map forget (front ++ b.more) ≡ map forget (others ++ b.more) = map-append forget front b.more ∙ (ap (λ x. x ++ map forget b.more) e ∙ sym (map-append forget others b.more)) in
      let a = spelled_alike l lifted forget kept inner keeps g of k (front ++ b.more) (others ++ b.more) b.value b.spelled same in
      record { more = b.more; value = a.0; spelled = a.1 }

  one_more : (front others : List T) (t u : T) → map forget front ≡ map forget others → forget t ≡ forget u → map forget (front ++ t ∷ []) ≡ map forget (others ++ u ∷ [])
  one_more front others t u e same = map-append forget front (t ∷ []) ∙ (ap₂ (λ x y. x ++ y ∷ []) e same ∙ sym (map-append forget others (u ∷ [])))

  ends_alike : (lifted : Bool) (front others rest behind : List T) → map forget front ≡ map forget others → map forget rest ≡ map forget behind → GoesNoFurther l lifted g front rest → GoesNoFurther l lifted g others behind
  ends_alike lifted front others [] [] e o h = λ v s. let a = spelled_alike l lifted forget kept inner keeps g of k others front v s (sym e) in h a.0 a.1
  ends_alike lifted front others [] (u ∷ us) e o h = cc
  ends_alike lifted front others (t ∷ ts) [] e o h = cc
  ends_alike lifted front others (t ∷ ts) (u ∷ us) e o h =
      let same : forget t ≡ forget u = ap (head_or (forget t)) o in
      λ b. h (begins_alike lifted (others ++ u ∷ []) (front ++ t ∷ []) (one_more others front u t (sym e) (sym same)) b)

  first_alike : (lifted : Bool) (ts us rest : List T) (m : FirstMisfit l lifted g ts rest) (c : Cut forget m.front rest us) → FirstMisfit l lifted g us c.behind
  first_alike lifted ts us rest m c = record {
    front = c.front;
    all = c.all;
    before = begins_alike lifted m.front c.front c.one m.before;
    with_it = ends_alike lifted m.front c.front rest c.behind c.one c.other m.with_it;
  }

  -- the same front, cut off before the same misfit
  same_front : (ts rest front other : List T) → ts ≡ front ++ rest → ts ≡ other ++ rest → front ≡ other
  same_front ts rest front other one two = append_cancel_right front other rest (sym one ∙ two)

  recut : (us front other rest : List T) → front ≡ other → (c : Cut forget front rest us) → Cut forget other rest us
  recut us front other rest e c = record { front = c.front; behind = c.behind; all = c.all; one = ap (map forget) (sym e) ∙ c.one; other = c.other }

  limits_alike : (front others rest behind : List T) → map forget front ≡ map forget others → map forget rest ≡ map forget behind →
      (t : T) × (ts : List T) × (rest ≡ t ∷ ts) × Begins l true g (front ++ t ∷ []) → (u : T) × (us : List T) × (behind ≡ u ∷ us) × Begins l true g (others ++ u ∷ [])
  limits_alike front others rest behind e o h =
      let d = headed forget h.0 h.1 behind (ap (map forget) (sym h.2) ∙ o) in
      (d.head, d.behind, d.all, begins_alike true (front ++ h.0 ∷ []) (others ++ d.head ∷ []) (one_more front others h.0 d.head e d.same) h.3)

  pub misfit_alike : (ts us : List T) (of_limits : Bool) (rest : List T) → Misfit l g ts of_limits rest → map forget ts ≡ map forget us → (behind : List T) × Misfit l g us of_limits behind × (map forget rest ≡ map forget behind)
  unfolding recut first_alike
  misfit_alike ts us of_limits rest m e =
      let c = cut_at forget m.first.front rest us (ap (map forget) (sym m.first.all) ∙ e) in (
        c.behind,
        record {
          first = first_alike false ts us rest m.first c;
          grammar = λ of. let n = m.grammar of in first_alike true ts us rest n (recut us m.first.front n.front rest (same_front ts rest m.first.front n.front m.first.all n.all) c);
          limits = λ of. limits_alike m.first.front c.front rest c.behind c.one c.other (m.limits of);
        },
        c.other,
      )
