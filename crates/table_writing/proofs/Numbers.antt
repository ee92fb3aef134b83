-- Lists that are made number by number.
use Rattle.std.proofs.Common.{◌≡◌, ℕ, suc, ◌+◌, ◌-◌, ◌<◌, List, [], ◌∷◌, ◌++◌, map, ap, sym, ◌∙◌, arith}
use Rattle.std.proofs.lemmas.List.{append_assoc}
use Rattle.meta_parts.specs.Table.{up_from}

next_number : (i n : ℕ) → i < n → up_from (suc i) (n - i) ≡ suc i ∷ up_from (suc (i + 1)) (n - (i + 1))
next_number i n below =
    let one : n - i ≡ suc (n - (i + 1)) = omega (arith, below) in
    let here : suc i ≡ i + 1 = omega arith in
    ap (up_from (suc i)) one ∙ ap (λ k. suc i ∷ up_from (suc k) (n - (i + 1))) here

pub number_more : (all list new : List ℕ) (i n : ℕ) → i < n → list ++ up_from (suc i) (n - i) ≡ all → new ≡ list ++ (i + 1) ∷ [] → new ++ up_from (suc (i + 1)) (n - (i + 1)) ≡ all
number_more all list new i n below before is =
    let here : i + 1 ≡ suc i = omega arith in
    ap (λ l. l ++ up_from (suc (i + 1)) (n - (i + 1))) is
    ∙ append_assoc list ((i + 1) ∷ []) (up_from (suc (i + 1)) (n - (i + 1)))
    ∙ ap (λ k. list ++ k ∷ up_from (suc (i + 1)) (n - (i + 1))) here
    ∙ ap (λ l. list ++ l) (sym (next_number i n below))
    ∙ before

pub one_more : {A : Type 0} (f : ℕ → A) (all list new : List A) (x : A) (i n : ℕ) → i < n → list ++ map f (up_from (suc i) (n - i)) ≡ all → new ≡ list ++ x ∷ [] → x ≡ f (suc i)
    → new ++ map f (up_from (suc (i + 1)) (n - (i + 1))) ≡ all
one_more f all list new x i n below before is made =
    ap (λ l. l ++ map f (up_from (suc (i + 1)) (n - (i + 1)))) is
    ∙ append_assoc list (x ∷ []) (map f (up_from (suc (i + 1)) (n - (i + 1))))
    ∙ ap (λ y. list ++ y ∷ map f (up_from (suc (i + 1)) (n - (i + 1)))) made
    ∙ ap (λ l. list ++ map f l) (sym (next_number i n below))
    ∙ before
