-- What an outcome says, by how the reading of the script ended.
use Rattle.std.proofs.Common.{◌≡◌, ◌≤◌, inl, inr, ℕ, List, [], ◌∷◌, length, take, zero, suc, Option, Some, None, refl, ap, sym, subst, ◌∙◌, arith}
use Rattle.first_script.specs.Works.{works}
use Rattle.first_script.specs.Lines.{whole_lines}
use Rattle.outside_io.specs.Bytes.{before_told}
use Rattle.nebstore_app.specs.declared.event.Event.{Event}
use Rattle.nebstore_app.specs.declared.outcome.Outcome.{Outcome}
use Rattle.nebstore_app.specs.declared.outcome.Outcome.TheVariants.{WrongWords, Ended, SourceFailed, SinkFailed, NoMemory, TooLong}
use Rattle.nebstore_app.specs.World.{World, start}
use Rattle.nebstore_app.specs.Answering.{most_bytes}
use Rattle.nebstore_app.specs.Outcome.{status_of, Reading, Writing, IsReadToEnd, IsReadToFault, IsReadTooFar, whole_script, front_of_script, RunsToEnd, StopsEarly, IsLeft, Says, RanTo}
use Rattle.nebstore_app.proofs.Fronts.{nothing_written}

take_within : {A : Type 0} (n : ℕ) (xs : List A) → length xs ≤ n → take n xs ≡ xs
take_within zero [] h = refl
take_within (suc n) [] h = refl
take_within zero (x ∷ xs) h = absurd (omega (arith, h))
take_within (suc n) (x ∷ xs) h = ap (λ ys. x ∷ ys) (take_within n xs (omega (arith, h)))

-- the lines that an LF ends were run
module _ (outcome : Outcome) (r : Reading) (events : List Event) (w : Writing) where
  says_front : (done : Outcome) → (RunsToEnd (front_of_script r) events w → Says done r events w) → RanTo done (front_of_script r) events w outcome → Says outcome r events w
  says_front done whole (inl h) = subst (λ o. Says o r events w) (sym h.0) (whole h.1)
  says_front done whole (inr (inl h)) = subst (λ o. Says o r events w) (sym h.0) (h.1, inr h.2)
  says_front done whole (inr (inr h)) = subst (λ o. Says o r events w) (sym h.0) (h.1, inr h.2)

  -- the source is at its end
  pub says_ended : IsReadToEnd r → RanTo Ended (whole_script r) events w outcome → Says outcome r events w
  says_ended e (inl h) = subst (λ o. Says o r events w) (sym h.0) (e, h.1)
  says_ended e (inr (inl h)) = subst (λ o. Says o r events w) (sym h.0) (h.1, inl (e, h.2))
  says_ended e (inr (inr h)) = subst (λ o. Says o r events w) (sym h.0) (h.1, inl (e, h.2))

  -- the source failed
  pub says_failed : (front : List ℕ) → IsReadToFault r → front ≡ r.read → RanTo SourceFailed (works (whole_lines front)) events w outcome → Says outcome r events w
  says_failed front e is ran =
      says_front SourceFailed (λ whole. (e, whole))
      (subst (λ bytes. RanTo SourceFailed (works (whole_lines bytes)) events w outcome) (is ∙ sym (take_within most_bytes r.read e.few)) ran)

  -- there are more bytes than count
  pub says_too_long : (front : List ℕ) → IsReadTooFar r → front ≡ take most_bytes r.read → RanTo TooLong (works (whole_lines front)) events w outcome → Says outcome r events w
  says_too_long front e is ran =
      says_front TooLong (λ whole. (e, whole))
      (subst (λ bytes. RanTo TooLong (works (whole_lines bytes)) events w outcome) is ran)

-- memory ran out before the first line
pub nothing_run : (r : Reading) (w : World) (old : Option (List ℕ)) (faults : ℕ) → w ≡ start → IsLeft r w.events (record { old = old; new = old; old_faults = faults; new_faults = faults })
nothing_run r w old faults is =
    inr (subst (λ (v : World). StopsEarly (front_of_script r) v.events (record { old = old; new = old; old_faults = faults; new_faults = faults })) (sym is) (record {
      answers = [];
      answered = record { made = 0; calls = refl; replies = refl; few = omega arith };
      written = nothing_written old _;
    }))

-- nothing was read
pub nothing_read : (left : Option (List ℕ)) → left ≡ before_told [] left
nothing_read None = refl
nothing_read (Some bytes) = refl

-- the status tells wrong words from the others
pub is_wrong : (outcome : Outcome) → status_of outcome ≡ 2 → outcome ≡ WrongWords
is_wrong WrongWords is = refl
is_wrong Ended is = absurd (omega (arith, is))
is_wrong SourceFailed is = absurd (omega (arith, is))
is_wrong SinkFailed is = absurd (omega (arith, is))
is_wrong NoMemory is = absurd (omega (arith, is))
is_wrong TooLong is = absurd (omega (arith, is))
