-- The two writes of an append, at a disk that tells its file.
use Rattle.std.proofs.Common.{inl, ◌≡◌, ℕ, ◌+◌, ◌-◌, ◌^◌, ◌<◌, min, List, [], ◌∷◌, ◌++◌, length, drop, Option, Some, None, IfSome, refl, sym, ◌∙◌, ap, subst, arith, length-append}
use Rattle.std.specs.Option.{option_map}
use Rattle.std.proofs.lemmas.Option.{same_Some, none-some}
use Rattle.disk_model.specs.Disk.{Torn, Only, LeavesOnly, written_over}
use Rattle.disk_model.proofs.Moments.{weaker, joined}
use Rattle.byte_fields.specs.Frames.{IsFrame, open_gate, closed_gate}
use Rattle.wal_disk.specs.File.{IsFile, IsBeforeOrAfter, front}
use Rattle.wal_disk.specs.Sound.{IsSettled}
use Rattle.wal_disk.specs.Torn.{IsTornFrom}
use Rattle.wal_disk.proofs.Crash.{torn_behind, written_behind, torn_gate, gate_inside, place_after, written_gate, records_after}

-- what holds of all that is told holds of the file that is told
pub at_some : (told : Option (List ℕ)) (P : List ℕ → Type 0) (file : List ℕ) → told ≡ Some file → IfSome told P → P file
at_some None P file is holds = absurd (none-some file is)
at_some (Some other) P file is holds = subst P (same_Some other file is) holds

-- what holds of each file that is told holds of what is told
pub if_some : (told : Option (List ℕ)) (P : List ℕ → Type 0) → ((file : List ℕ) → told ≡ Some file → P file) → IfSome told P
if_some None P each = tt
if_some (Some file) P each = each file refl

-- what was told before a step that told stays told after
pub told_before : (f : List ℕ → List ℕ) (old new : Option (List ℕ)) (after : List ℕ) → new ≡ option_map f old → new ≡ Some after → (before : List ℕ) × (old ≡ Some before) × (after ≡ f before)
told_before f None new after step told = absurd (none-some after (sym step ∙ told))
told_before f (Some before) new after step told = (before, refl, sym (same_Some (f before) after (sym step ∙ told)))

module _ (may_leave : List ℕ → Type 0) (version : ℕ) (bodies : List (List ℕ)) (gate : ℕ) (file : List ℕ) (settled : IsSettled may_leave version bodies gate file) where
  pub gate_within : gate < length file
  gate_within =
      let records = settled.records in
      omega (arith, settled.place, ap length records.whole, length-append (front version bodies) (records.gate ∷ records.rest))

  -- what a crash leaves in the first write
  pub first_image : (at n : ℕ) → at ≡ gate + 1 → (c : List ℕ) → IsTornFrom may_leave at n c → IsFile version bodies c
  first_image at n next c torn =
      torn_behind version bodies gate settled.place file c n settled.records
      (subst (λ (k : ℕ). Torn k n file c) next (subst (λ (f : List ℕ). Torn at n f c) (settled.durable torn.0 torn.1) torn.2))

  module _ (body frame : List ℕ) (is : IsFrame body frame) (at : ℕ) (next : at ≡ gate + 1) where
    abbrev pub staged : List ℕ
    staged = written_over at frame file

    rest : List ℕ
    rest = drop (gate + 1 + length frame) file

    is_staged : staged ≡ front version bodies ++ settled.records.gate ∷ (frame ++ rest)
    unfolding rest
    is_staged = ap (λ (k : ℕ). written_over k frame file) next ∙ written_behind version bodies gate settled.place file frame settled.records

    pub gate_in_staged : gate < length staged
    gate_in_staged = gate_inside version bodies gate settled.place body frame is file settled.records staged rest is_staged

    -- what a crash leaves in the second
    pub second_image : (images : List ℕ → Type 0) → Only staged images → (c : List ℕ) → IsTornFrom images gate 1 c → IsBeforeOrAfter version bodies body c
    second_image images only c torn =
        torn_gate version bodies gate settled.place body frame is file settled.records staged rest is_staged c (subst (λ (f : List ℕ). Torn gate 1 f c) (only torn.0 torn.1) torn.2)

    -- the file after both
    pub settled_after : (images : List ℕ → Type 0) (after : List ℕ) (place : ℕ) → after ≡ written_over gate (open_gate ∷ []) staged → length after < 2 ^ 64 → place ≡ min (gate + length frame) (2 ^ 64 - 1) → Only after images
        → IsSettled images version (bodies ++ body ∷ []) place after
    settled_after images after place is_written small is_place only =
        let written = is_written ∙ written_gate version bodies gate settled.place body frame is file settled.records staged rest is_staged in
        record {
          records = records_after version bodies gate settled.place body frame is file settled.records staged rest is_staged after is_written;
          place = omega (arith, is_place, small, ap length written, place_after version bodies gate settled.place body frame is, length-append (front version (bodies ++ body ∷ [])) (closed_gate ∷ rest));
          durable = only;
        }

-- a crash at any moment of the two writes
pub both_writes : {D : Type 0} (reads : D → Option (List ℕ)) (may_leave : D → List ℕ → Type 0) (clock : D → ℕ) (left_since : D → ℕ → List ℕ → Type 0) (old mid new : D)
    (version : ℕ) (bodies : List (List ℕ)) (body frame file : List ℕ) (gate at : ℕ) (settled : IsSettled (may_leave old) version bodies gate file) → IsFrame body frame → at ≡ gate + 1
    → reads mid ≡ Some (written_over at frame file) → IfSome (reads mid) (λ f. Only f (may_leave mid))
    → LeavesOnly clock left_since old mid (IsTornFrom (may_leave old) at (length frame)) → LeavesOnly clock left_since mid new (IsTornFrom (may_leave mid) gate 1)
    → LeavesOnly clock left_since old new (IsBeforeOrAfter version bodies body)
both_writes reads may_leave clock left_since old mid new version bodies body frame file gate at settled is next told durable first second =
    let only : Only (written_over at frame file) (may_leave mid) = at_some (reads mid) (λ f. Only f (may_leave mid)) (written_over at frame file) told durable in
    joined clock left_since old mid new (IsBeforeOrAfter version bodies body)
    (weaker clock left_since old mid (IsTornFrom (may_leave old) at (length frame)) (IsBeforeOrAfter version bodies body) first (λ image torn. inl (first_image (may_leave old) version bodies gate file settled at (length frame) next image torn)))
    (weaker clock left_since mid new (IsTornFrom (may_leave mid) gate 1) (IsBeforeOrAfter version bodies body) second
    (λ image torn. second_image (may_leave old) version bodies gate file settled body frame is at next (may_leave mid) only image torn))
