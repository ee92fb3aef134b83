-- The laws of torn picks: what they leave is an image, and each image is left by some.
use Rattle.std.proofs.Common.{◌≡◌, ◌≢◌, ℕ, ◌+◌, ◌-◌, ◌≤◌, ◌<◌, ◌⊎◌, min, List, [], ◌∷◌, ◌++◌, length, take, drop, Bool, true, false, refl, inl, inr, ap, subst, sym, ◌∙◌, arith, length-append, length-drop}
use Rattle.std.specs.Prelude.{nat_le}
use Rattle.std.proofs.lemmas.List.{take_at, take-take, length-take-le, length-take, take_all, drop_all, drop-drop, take-append-drop, append-nil}
use Rattle.std.proofs.lemmas.Bool.{cases_lt}
use Rattle.std.proofs.lemmas.Bool.Decides.{nat_tests}
use Rattle.disk_model.specs.Disk.{written_over, CutShort}
use Rattle.disk_model.specs.Disk as disks
use Rattle.disk_model.specs.Memory.{steps_of, LeftOf, picked}
use Rattle.disk_model.specs.Replay.{reads_after, Left, LeftBy, synced_by, synced_after, history, moved, size_of}
use Rattle.disk_model.specs.ReplayLaws.{torn_not, torn_whole, cut_not, read_is_image, synced_is_left}
use Rattle.disk_model.specs.Tears.{torn_by, torn_on, torn_after}
use Rattle.disk_model.specs.declared.call.Call.{Call}
use Rattle.disk_model.specs.declared.call.Call.TheVariants.{Write, Cut, Sync}
use Rattle.disk_model.specs.declared.call.Made.{Made}
use Rattle.disk_model.specs.declared.mem_disk.MemDisk.{MemDisk}
use Rattle.disk_model.specs.declared.pick.Pick.{Pick}
use Rattle.disk_model.specs.declared.pick.Pick.TheVariants.{Synced, Read, Torn}
use Rattle.disk_model.proofs.Histories.{history_back, moved_push}

-- a write of fewer bytes is torn as one of more bytes may be
torn_wider : (at m n : ℕ) (old new : List ℕ) → m ≤ n → disks.Torn at m old new → disks.Torn at n old new
torn_wider at m n old new le torn = record {
  before = torn.before;
  behind = sym (behind_of new) ∙ ap (drop (n - m)) torn.behind ∙ behind_of old;
  no_shorter = torn.no_shorter;
  no_longer = omega (arith, torn.no_longer, le);
}
  where
    behind_of : (l : List ℕ) → drop (n - m) (drop (at + m) l) ≡ drop (at + n) l
    behind_of l =
        let sum : (at + m) + (n - m) ≡ at + n = omega (arith, le) in
        drop-drop (n - m) (at + m) l ∙ ap (λ (k : ℕ). drop k l) sum

torn_write : (at n most : ℕ) (bytes file : List ℕ) → disks.Torn at most file (torn_by (Write at n) most bytes file)
torn_write at n most bytes file = elim (cases_lt (length file) at) [
  | inl past ↦ let no : nat_le at (length file) ≡ false = grind (arith, nat_tests) in rw no (torn_not at most file)
  | inr inside ↦ let yes : nat_le at (length file) ≡ true = grind (arith, nat_tests) in
      rw yes (torn_wider at (length (take most bytes)) most file (written_over at (take most bytes) file) (omega (arith, length-take most bytes)) (torn_whole at (take most bytes) file inside))
]

torn_cut : (len most : ℕ) (bytes file : List ℕ) → CutShort len file (torn_by (Cut len) most bytes file)
torn_cut len most bytes file = record { before = front (cases_lt (length file) len); no_longer = omega (arith, sizes) }
  where
    left : List ℕ
    left = take (length file - len) bytes

    front : (length file < len) ⊎ (len ≤ length file) → take len (take len file ++ left) ≡ take len file
    front (inl past) =
        let none : length file - len ≡ 0 = omega (arith, past) in
        ap (λ (k : ℕ). take len (take len file ++ take k bytes)) none ∙ ap (take len) (append-nil (take len file)) ∙ take-take len len file (omega arith)
    front (inr inside) = take_at (take len file) left len (length-take-le len file inside)

    sizes : length (take len file ++ left) ≡ min len (length file) + min (length file - len) (length bytes)
    sizes = omega (arith, length-append (take len file) left, length-take len file, length-take (length file - len) bytes)

torn_step : (call : Call) (ok : Bool) (from read : List ℕ) (left : List ℕ → Type 0) (before : List (List ℕ) → List ℕ) → ((tears : List (List ℕ)) → left (before tears))
    → (tears : List (List ℕ)) → LeftBy call ok from read left (torn_on call ok (length from) read before tears)
torn_step (Write at n) ok from read left before each [] = (before [], each [], torn_not at (length from) (before []))
torn_step (Write at n) ok from read left before each (bytes ∷ rest) = (before rest, each rest, torn_write at n (length from) bytes (before rest))
torn_step (Cut len) ok from read left before each [] = (before [], each [], cut_not len (before []))
torn_step (Cut len) ok from read left before each (bytes ∷ rest) = (before rest, each rest, torn_cut len (length from) bytes (before rest))
torn_step Sync true from read left before each tears = refl
torn_step Sync false from read left before each tears = each tears

-- what a torn pick leaves is an image
pub torn_is_left : (first : List ℕ) (steps : List (Made × List ℕ)) (tears : List (List ℕ)) → Left first steps (torn_after first steps tears)
torn_is_left first [] tears = refl
torn_is_left first (step ∷ older) tears =
    torn_step step.0.call step.0.ok step.1 (reads_after first older) (Left first older) (torn_after first older) (torn_is_left first older) tears

-- what was picked is an image
pub picked_is_left : (pick : Pick) (disk : MemDisk) → LeftOf disk (picked pick disk)
picked_is_left Synced disk = synced_is_left disk.first (steps_of disk)
picked_is_left Read disk = subst (LeftOf disk) (sym disk.replays) (read_is_image disk.first (steps_of disk))
picked_is_left (Torn tears) disk = torn_is_left disk.first (steps_of disk) tears

none_on : (call : Call) (ok : Bool) (most : ℕ) (read synced : List ℕ) (before : List (List ℕ) → List ℕ) → before [] ≡ synced → torn_on call ok most read before [] ≡ synced_by call ok read synced
none_on (Write at n) ok most read synced before is = is
none_on (Cut len) ok most read synced before is = is
none_on Sync true most read synced before is = refl
none_on Sync false most read synced before is = is

-- without a tear a crash leaves what was synced
pub torn_none : (first : List ℕ) (steps : List (Made × List ℕ)) → torn_after first steps [] ≡ synced_after first steps
torn_none first [] = refl
torn_none first (step ∷ older) = none_on step.0.call step.0.ok (length step.1) (reads_after first older) (synced_after first older) (torn_after first older) (torn_none first older)

newest : (calls older : List Made) (last : Made) (stored : List ℕ) → calls ≡ older ++ last ∷ [] → moved calls ≡ length stored
    → history calls stored ≡ (last, drop (moved older) stored) ∷ history older (take (moved older) stored)
newest calls older last stored is whole =
    ap (λ (all : List Made). history all stored) is ∙ history_back older last stored (ap moved (sym is) ∙ whole)

-- the bytes of the calls before the newest
older_whole : (calls older : List Made) (last : Made) (stored : List ℕ) → calls ≡ older ++ last ∷ [] → moved calls ≡ length stored → moved older ≡ length (take (moved older) stored)
older_whole calls older last stored is whole =
    omega (arith, ap moved is, moved_push older last, length-take (moved older) stored)

-- behind a sync that was done a tear changes nothing
pub torn_at_sync : (first : List ℕ) (calls older : List Made) (last : Made) (stored : List ℕ) (tears : List (List ℕ)) → calls ≡ older ++ last ∷ [] → last.call ≡ Sync → last.ok ≡ true → moved calls ≡ length stored
    → synced_after first (history calls stored) ≡ torn_after first (history calls stored) tears
torn_at_sync first calls older last stored tears is sync ok whole =
    let noted = newest calls older last stored is whole in rw (noted, sync, ok) refl

passed : (call : Call) (ok : Bool) (read synced : List ℕ) → call ≢ Sync → synced_by call ok read synced ≡ synced
passed (Write at n) ok read synced other = refl
passed (Cut len) ok read synced other = refl
passed Sync ok read synced other = absurd (other refl)

one_more : (call : Call) (ok : Bool) (most : ℕ) (read : List ℕ) (before : List (List ℕ) → List ℕ) (bytes : List ℕ) (rest : List (List ℕ)) → call ≢ Sync
    → torn_by call most bytes (before rest) ≡ torn_on call ok most read before (bytes ∷ rest)
one_more (Write at n) ok most read before bytes rest other = refl
one_more (Cut len) ok most read before bytes rest other = refl
one_more Sync ok most read before bytes rest other = absurd (other refl)

-- a write or a cut has the first of the tears
pub torn_at_call : (first synced file : List ℕ) (calls older : List Made) (last : Made) (stored bytes : List ℕ) (rest : List (List ℕ)) → calls ≡ older ++ last ∷ [] → last.call ≢ Sync
    → ((stored : List ℕ) → moved older ≡ length stored → synced ≡ synced_after first (history older stored) → file ≡ torn_after first (history older stored) rest)
    → moved calls ≡ length stored → synced ≡ synced_after first (history calls stored)
    → torn_by last.call (size_of last.call) bytes file ≡ torn_after first (history calls stored) (bytes ∷ rest)
torn_at_call first synced file calls older last stored bytes rest is other each whole same =
    let n = moved older in
    let front = take n stored in
    let noted = newest calls older last stored is whole in
    let size : size_of last.call ≡ length (drop n stored) = omega (arith, ap moved is, moved_push older last, length-drop n stored) in
    let left = each front (older_whole calls older last stored is whole)
    (same ∙ ap (synced_after first) noted ∙ passed last.call last.ok (reads_after first (history older front)) (synced_after first (history older front)) other) in
    ap (torn_by last.call (size_of last.call) bytes) left
    ∙ ap (λ (most : ℕ). torn_by last.call most bytes (torn_after first (history older front) rest)) size
    ∙ one_more last.call last.ok (length (drop n stored)) (reads_after first (history older front)) (torn_after first (history older front)) bytes rest other
    ∙ ap (λ (steps : List (Made × List ℕ)). torn_after first steps (bytes ∷ rest)) (sym noted)

-- a sync that failed is passed over
pub torn_at_failed : (first synced file : List ℕ) (calls older : List Made) (last : Made) (stored : List ℕ) (tears : List (List ℕ)) → calls ≡ older ++ last ∷ [] → last.call ≡ Sync → last.ok ≡ false
    → ((stored : List ℕ) → moved older ≡ length stored → synced ≡ synced_after first (history older stored) → file ≡ torn_after first (history older stored) tears)
    → moved calls ≡ length stored → synced ≡ synced_after first (history calls stored) → file ≡ torn_after first (history calls stored) tears
torn_at_failed first synced file calls older last stored tears is sync failed each whole same =
    let noted = newest calls older last stored is whole in
    let front = take (moved older) stored in
    let before : synced_after first (history calls stored) ≡ synced_after first (history older front) = rw (noted, sync, failed) refl in
    let after : torn_after first (history calls stored) tears ≡ torn_after first (history older front) tears = rw (noted, sync, failed) refl in
    each front (older_whole calls older last stored is whole) (same ∙ before) ∙ sym after

-- each file that a torn write may leave is left by the bytes behind its place
write_any : (at n most : ℕ) (old new : List ℕ) → disks.Torn at most old new → new ≡ torn_by (Write at n) most (drop at new) old
write_any at n most old new torn = elim (cases_lt (length old) at) [
  | inl past ↦
      let no : nat_le at (length old) ≡ false = grind (arith, nat_tests) in
      let short : length new ≤ at = omega (arith, past, ap length torn.before, length-take at new, length-take at old) in
      let whole : new ≡ old = sym (take_all at new short) ∙ torn.before ∙ take_all at old (omega arith) in
      rw no whole
  | inr inside ↦
      let yes : nat_le at (length old) ≡ true = grind (arith, nat_tests) in
      let front = sym (take-append-drop at new) ∙ ap (λ (l : List ℕ). l ++ drop at new) torn.before in
      rw yes (front ∙ ap (λ (l : List ℕ). take at old ++ l) (written_any at most old new inside torn (cases_lt (length new) (at + most))))
]
  where
    written_any : (at most : ℕ) (old new : List ℕ) → at ≤ length old → disks.Torn at most old new → (length new < at + most) ⊎ (at + most ≤ length new)
        → drop at new ≡ take most (drop at new) ++ drop (at + length (take most (drop at new))) old
    written_any at most old new inside torn (inl short) =
        let all : take most (drop at new) ≡ drop at new = take_all most (drop at new) (omega (arith, length-drop at new, short)) in
        let none : drop (at + length (drop at new)) old ≡ [] = drop_all (at + length (drop at new)) old (omega (arith, length-drop at new, torn.no_shorter, inside)) in
        sym (ap (λ (l : List ℕ). l ++ drop (at + length l) old) all ∙ ap (λ (l : List ℕ). drop at new ++ l) none ∙ append-nil (drop at new))
    written_any at most old new inside torn (inr long) =
        let size : length (take most (drop at new)) ≡ most = length-take-le most (drop at new) (omega (arith, length-drop at new, long)) in
        sym (take-append-drop most (drop at new))
        ∙ ap (λ (l : List ℕ). take most (drop at new) ++ l) (drop-drop most at new ∙ torn.behind ∙ ap (λ (k : ℕ). drop (at + k) old) (sym size))

cut_any : (len most : ℕ) (old new : List ℕ) → CutShort len old new → new ≡ torn_by (Cut len) most (drop len new) old
cut_any len most old new cut =
    let behind : take (length old - len) (drop len new) ≡ drop len new = take_all (length old - len) (drop len new) (omega (arith, length-drop len new, cut.no_longer)) in
    sym (take-append-drop len new) ∙ ap (λ (l : List ℕ). l ++ drop len new) cut.before ∙ ap (λ (l : List ℕ). take len old ++ l) (sym behind)

each_on : (call : Call) (ok : Bool) (from read : List ℕ) (left : List ℕ → Type 0) (before : List (List ℕ) → List ℕ) (image : List ℕ)
    → ((older : List ℕ) → left older → (tears : List (List ℕ)) × (older ≡ before tears)) → LeftBy call ok from read left image
    → (tears : List (List ℕ)) × (image ≡ torn_on call ok (length from) read before tears)
each_on (Write at n) ok from read left before image each (older, here, torn) =
    let found = each older here in
    (drop at image ∷ found.0, write_any at n (length from) older image torn ∙ ap (torn_by (Write at n) (length from) (drop at image)) found.1)
each_on (Cut len) ok from read left before image each (older, here, cut) =
    let found = each older here in
    (drop len image ∷ found.0, cut_any len (length from) older image cut ∙ ap (torn_by (Cut len) (length from) (drop len image)) found.1)
each_on Sync true from read left before image each is = ([], is)
each_on Sync false from read left before image each here = each image here

-- each image is left by some tears
pub each_image : (first image : List ℕ) (steps : List (Made × List ℕ)) → Left first steps image → (tears : List (List ℕ)) × (image ≡ torn_after first steps tears)
each_image first image [] left = ([], left)
each_image first image (step ∷ older) left =
    each_on step.0.call step.0.ok step.1 (reads_after first older) (Left first older) (torn_after first older) image (λ (c : List ℕ). each_image first c older) left
