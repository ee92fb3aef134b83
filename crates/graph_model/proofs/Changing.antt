-- Changes one after another, and the contents before each of them.
use Rattle.std.proofs.Common.{◌≡◌, ℕ, zero, suc, ◌≤◌, List, [], ◌∷◌, ◌++◌, length, take, refl, ap, sym, ◌∙◌, arith}
use Rattle.graph_model.specs.declared.change.Change.{Change}
use Rattle.graph_model.specs.Contents.{Contents, nothing}
use Rattle.graph_model.specs.State.{at_moment}
use Rattle.graph_model.specs.Changes.{changed, after_all, befores}

-- one change more
pub after_all-append : (c : Contents) (xs : List Change) (x : Change) → after_all c (xs ++ x ∷ []) ≡ changed (after_all c xs) x
after_all-append c [] x = refl
after_all-append c (y ∷ xs) x = after_all-append (changed c y) xs x

-- adds the contents before it
pub befores-append : (c : Contents) (xs : List Change) (x : Change) → befores c (xs ++ x ∷ []) ≡ befores c xs ++ after_all c xs ∷ []
befores-append c [] x = refl
befores-append c (y ∷ xs) x = ap (λ cs. c ∷ cs) (befores-append (changed c y) xs x)

-- there are as many as changes
pub befores-length : (c : Contents) (xs : List Change) → length (befores c xs) ≡ length xs
befores-length c [] = refl
befores-length c (y ∷ xs) = ap suc (befores-length (changed c y) xs)

-- the contents at a moment are those that so many changes leave
pub moment-after : (c : Contents) (xs : List Change) (m : ℕ) → after_all c (take m xs) ≡ at_moment (after_all c xs) (befores c xs) m
moment-after c [] zero = refl
moment-after c [] (suc m) = refl
moment-after c (y ∷ xs) zero = refl
moment-after c (y ∷ xs) (suc m) = moment-after (changed c y) xs m

-- behind all that is past there is what is now
pub moment_now : (c : Contents) (past : List Contents) (m : ℕ) → length past ≤ m → at_moment c past m ≡ c
moment_now c [] m late = refl
moment_now c (p ∷ past) zero late = absurd (omega (arith, late))
moment_now c (p ∷ past) (suc m) late = moment_now c past m (omega (arith, late))

-- behind one change more the contents are those that the changes leave
pub contents_noted : (c d : Contents) (xs ys zs : List Change) (x : Change) → ys ≡ xs → zs ≡ ys ++ x ∷ [] → c ≡ after_all nothing xs → d ≡ changed c x → d ≡ after_all nothing zs
contents_noted c d xs ys zs x same more before is =
    is ∙ ap (λ s. changed s x) before ∙ sym (after_all-append nothing xs x) ∙ ap (λ l. after_all nothing (l ++ x ∷ [])) (sym same) ∙ ap (after_all nothing) (sym more)

-- and the contents before it are past
pub past_noted : (c : Contents) (xs ys zs : List Change) (x : Change) → ys ≡ xs → zs ≡ ys ++ x ∷ [] → c ≡ after_all nothing xs → befores nothing zs ≡ befores nothing xs ++ c ∷ []
past_noted c xs ys zs x same more before =
    ap (befores nothing) more ∙ ap (λ l. befores nothing (l ++ x ∷ [])) same ∙ befores-append nothing xs x ∙ ap (λ s. befores nothing xs ++ s ∷ []) (sym before)
