-- Letters that leave one after another leave as all of them.
use Rattle.std.proofs.Common.{◌≡◌, List, [], ◌∷◌, ◌++◌, Option, map, ap, sym, ◌∙◌}
use Rattle.std.specs.List.{filter_map}
use Rattle.std.proofs.lemmas.List.{append_assoc, map-append}
use Rattle.std.proofs.lemmas.List.Elements.{filter_map-append}

module _ {A B C : Type 0} (address : A → Option B) (leave : B → C) where
  pub one_more : (before behind : List C) (x : A) (rest all : List A) → all ≡ x ∷ rest → behind ≡ before ++ map leave (filter_map address (x ∷ []))
      → behind ++ map leave (filter_map address rest) ≡ before ++ map leave (filter_map address all)
  one_more before behind x rest all split put =
      ap (λ (cs : List C). cs ++ map leave (filter_map address rest)) put
      ∙ append_assoc before (map leave (filter_map address (x ∷ []))) (map leave (filter_map address rest))
      ∙ ap (λ (cs : List C). before ++ cs) (
      sym (map-append leave (filter_map address (x ∷ [])) (filter_map address rest))
      ∙ ap (map leave) (sym (filter_map-append address (x ∷ []) rest))
      ∙ ap (λ (xs : List A). map leave (filter_map address xs)) (sym split))

-- the same of what is addressed without fail
module _ {A B C : Type 0} (address : A → B) (leave : B → C) where
  pub one_more_of : (before behind : List C) (x : A) (rest all : List A) → all ≡ x ∷ rest → behind ≡ before ++ leave (address x) ∷ []
      → behind ++ map leave (map address rest) ≡ before ++ map leave (map address all)
  one_more_of before behind x rest all split put =
      ap (λ (cs : List C). cs ++ map leave (map address rest)) put
      ∙ append_assoc before (leave (address x) ∷ []) (map leave (map address rest))
      ∙ ap (λ (xs : List A). before ++ map leave (map address xs)) (sym split)
