-- Letters that leave in two parts leave as all of them.
use Rattle.std.proofs.Common.{◌≡◌, List, ◌++◌, Option, map, ap, sym, ◌∙◌}
use Rattle.std.specs.List.{filter_map}
use Rattle.std.proofs.lemmas.List.{append_assoc, map-append}
use Rattle.std.proofs.lemmas.List.Elements.{filter_map-append}

module _ {A B C : Type 0} (address : A → Option B) (leave : B → C) where
  abbrev left : List A → List C
  left xs = map leave (filter_map address xs)

  pub both_left : (before middle behind : List C) (xs ys : List A) → middle ≡ before ++ left xs → behind ≡ middle ++ left ys → behind ≡ before ++ left (xs ++ ys)
  both_left before middle behind xs ys first second =
      second
      ∙ ap (λ (cs : List C). cs ++ left ys) first
      ∙ append_assoc before (left xs) (left ys)
      ∙ ap (λ (cs : List C). before ++ cs) (sym (map-append leave (filter_map address xs) (filter_map address ys)) ∙ ap (map leave) (sym (filter_map-append address xs ys)))
