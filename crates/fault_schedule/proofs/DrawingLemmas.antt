-- Lines are drawn one behind the other.
use Rattle.std.proofs.Common.{◌≡◌, ℕ, suc, ◌<◌, ◌+◌, ◌-◌, arith, List, [], ◌∷◌, ◌++◌, refl, ap, sym, ◌∙◌}
use Rattle.std.proofs.lemmas.List.{append_assoc}
use Rattle.rand_core.specs.Stream.{Stream}
use Rattle.fault_schedule.specs.Drawing.{lines, drawn}
use Rattle.fault_schedule.specs.declared.control.Control.{Control}

module _ (nodes parts : ℕ) (s : Stream) where
  one_more : (k : ℕ) (c : Control) (t : Stream) → (c, t) ≡ drawn nodes parts s → lines nodes parts (suc k) s ≡ c ∷ lines nodes parts k t
  unfolding lines
  one_more k c t is = sym (ap (λ (d : Control × Stream). d.0 ∷ lines nodes parts k d.1) is)

  pub next_line : (count counter : ℕ) (cs : List Control) (c : Control) (t : Stream) (all : List Control) → counter < count → (c, t) ≡ drawn nodes parts s → cs ++ lines nodes parts (count - counter) s ≡ all → (cs ++ c ∷ []) ++ lines nodes parts (count - (counter + 1)) t ≡ all
  next_line count counter cs c t all more is now =
      let left : count - counter ≡ suc (count - (counter + 1)) = omega arith in
      append_assoc cs (c ∷ []) (lines nodes parts (count - (counter + 1)) t)
      ∙ sym (ap (λ rest. cs ++ rest) (one_more (count - (counter + 1)) c t is))
      ∙ (rw left at now)

pub none_left : (nodes parts : ℕ) (s : Stream) → lines nodes parts 0 s ≡ []
unfolding lines
none_left nodes parts s = refl
