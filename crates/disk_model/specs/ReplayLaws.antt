-- The laws of a disk that replays its calls.
use Rattle.std.specs.Prelude.{◌≡◌, ℕ, ◌+◌, ◌-◌, ◌≤◌, ◌<◌, ◌^◌, List, [], ◌∷◌, ◌++◌, length, take, drop, Bool, true, false, nat_le, if◌then◌else◌, Some, refl}
use Rattle.std.proofs.Common.{inl, inr, ap, subst, sym, ◌∙◌, arith, length-append, length-drop}
use Rattle.std.proofs.lemmas.List.{take_at, drop_at, take-take, length-take-le, length-take, append_assoc}
use Rattle.std.proofs.lemmas.Bool.{cases_lt}
use Rattle.std.proofs.lemmas.Bool.Decides.{nat_tests}
use Rattle.disk_model.specs.Disk.{written_over, Torn, CutShort}
use Rattle.disk_model.specs.Replay.{reads_after, done, Left, LeftBy, LeftSince, synced_by, synced_after}
use Rattle.disk_model.specs.declared.call.Call.{Call}
use Rattle.disk_model.specs.declared.call.Call.TheVariants.{Write, Cut, Sync}
use Rattle.disk_model.specs.declared.call.Made.{Made}

-- a write of which nothing was done
pub torn_not : (at n : ℕ) (file : List ℕ) → Torn at n file file
torn_not at n file = record { before = refl; behind = refl; no_shorter = omega arith; no_longer = omega arith }

-- a write that was done whole
pub torn_whole : (at : ℕ) (bytes file : List ℕ) → at ≤ length file → Torn at (length bytes) file (written_over at bytes file)
torn_whole at bytes file inside =
    let front : length (take at file) ≡ at = length-take-le at file inside in
    let size : length (written_over at bytes file) ≡ at + (length bytes + (length file - (at + length bytes))) =
    omega (arith, front, length-append (take at file) (bytes ++ drop (at + length bytes) file), length-append bytes (drop (at + length bytes) file), length-drop (at + length bytes) file) in
    record {
      before = take_at (take at file) (bytes ++ drop (at + length bytes) file) at front;
      behind = ap (drop (at + length bytes)) (sym (append_assoc (take at file) bytes (drop (at + length bytes) file)))
          ∙ drop_at (take at file ++ bytes) (drop (at + length bytes) file) (at + length bytes) (omega (arith, front, length-append (take at file) bytes));
      no_shorter = omega (arith, size, inside);
      no_longer = omega (arith, size, inside);
    }

-- a cut of which nothing was done
pub cut_not : (len : ℕ) (file : List ℕ) → CutShort len file file
cut_not len file = record { before = refl; no_longer = omega arith }

-- a cut that was done whole
pub cut_whole : (len : ℕ) (file : List ℕ) → CutShort len file (take len file)
cut_whole len file = record { before = take-take len len file (omega arith); no_longer = omega (arith, length-take len file) }

-- what is read after a call is an image after it
step_is_image : (call : Call) (ok : Bool) (bytes file : List ℕ) (left : List ℕ → Type 0) → left file → LeftBy call ok bytes file left (if ok then done call bytes file else file)
step_is_image (Write at n) true bytes file left here = (file, here, written)
  where
    written : Torn at (length bytes) file (done (Write at n) bytes file)
    written = elim (cases_lt (length file) at) [
      | inl past ↦ let no : nat_le at (length file) ≡ false = grind (arith, nat_tests) in rw no (torn_not at (length bytes) file)
      | inr inside ↦ let yes : nat_le at (length file) ≡ true = grind (arith, nat_tests) in rw yes (torn_whole at bytes file inside)
    ]
step_is_image (Write at n) false bytes file left here = (file, here, torn_not at (length bytes) file)
step_is_image (Cut len) true bytes file left here = (file, here, cut_whole len file)
step_is_image (Cut len) false bytes file left here = (file, here, cut_not len file)
step_is_image Sync true bytes file left here = refl
step_is_image Sync false bytes file left here = here

-- what is read after some calls is an image after them
pub read_is_image : (first : List ℕ) (steps : List (Made × List ℕ)) → Left first steps (reads_after first steps)
read_is_image first [] = refl
read_is_image first (step ∷ older) = step_is_image step.0.call step.0.ok step.1 (reads_after first older) (Left first older) (read_is_image first older)

some_same : (a b : List ℕ) → Some a ≡ Some b → a ≡ b
some_same a b same = cc

-- what a disk tells is an image
pub shown_is_image : (first bytes file : List ℕ) (steps : List (Made × List ℕ)) → bytes ≡ reads_after first steps → Some bytes ≡ Some file → Left first steps file
shown_is_image first bytes file steps replays same =
    subst (Left first steps) (sym replays ∙ some_same bytes file same) (read_is_image first steps)

-- what a disk tells has a length of 64 bits
pub shown_fits : (bytes file : List ℕ) → length bytes < 2 ^ 64 → Some bytes ≡ Some file → length file < 2 ^ 64
shown_fits bytes file small same = omega (arith, small, ap length (some_same bytes file same))

-- what a crash now may leave, a crash since any moment might have left
pub counts_left : (first : List ℕ) (t : ℕ) (steps : List (Made × List ℕ)) (c : List ℕ) → Left first steps c → LeftSince first t steps c
counts_left first t [] c left = left
counts_left first t (step ∷ older) c left = inl left

-- what a crash since the last call might have left, a crash now may leave
pub only_left : (first : List ℕ) (steps : List (Made × List ℕ)) (c : List ℕ) → LeftSince first (length steps) steps c → Left first steps c
only_left first [] c left = left
only_left first (step ∷ older) c (inl left) = left
only_left first (step ∷ older) c (inr earlier) = absurd (omega (arith, earlier.0))

-- a sync leaves no image that wasn't one before it
pub synced_is_image : (first : List ℕ) (older steps : List (Made × List ℕ)) (ok : Bool) (bytes : List ℕ) → steps ≡ (record { call = Sync; ok = ok }, bytes) ∷ older
    → (c : List ℕ) → Left first steps c → Left first older c
synced_is_image first older steps ok bytes noted c left = was ok (subst (λ (l : List (Made × List ℕ)). Left first l c) noted left)
  where
    was : (ok : Bool) → LeftBy Sync ok bytes (reads_after first older) (Left first older) c → Left first older c
    was true read = subst (Left first older) (sym read) (read_is_image first older)
    was false left = left

-- what was synced is an image
synced_step : (call : Call) (ok : Bool) (bytes file synced : List ℕ) (left : List ℕ → Type 0) → left synced → LeftBy call ok bytes file left (synced_by call ok file synced)
synced_step (Write at n) ok bytes file synced left here = (synced, here, torn_not at (length bytes) synced)
synced_step (Cut len) ok bytes file synced left here = (synced, here, cut_not len synced)
synced_step Sync true bytes file synced left here = refl
synced_step Sync false bytes file synced left here = here

-- what was synced is an image
pub synced_is_left : (first : List ℕ) (steps : List (Made × List ℕ)) → Left first steps (synced_after first steps)
synced_is_left first [] = refl
synced_is_left first (step ∷ older) = synced_step step.0.call step.0.ok step.1 (reads_after first older) (synced_after first older) (Left first older) (synced_is_left first older)
