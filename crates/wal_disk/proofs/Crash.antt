-- What a crash leaves in each of the two writes of an append.
use Rattle.std.proofs.Common.{◌≡◌, ℕ, ◌+◌, ◌<◌, List, [], ◌∷◌, ◌++◌, length, get_or, take, drop, inl, inr, refl, sym, ◌∙◌, ap, subst, arith, append_assoc, length-append, take-append-drop}
use Rattle.std.proofs.lemmas.List.{take_at, drop_at, drop_more}
use Rattle.std.proofs.lemmas.Bool.{cases_eq}
use Rattle.disk_model.specs.Disk.{Torn, written_over}
use Rattle.byte_fields.specs.Frames.{IsFrame, sized, open_gate, closed_gate}
use Rattle.wal_disk.specs.File.{IsFile, IsBeforeOrAfter, front}
use Rattle.wal_disk.proofs.Fronts.{front_push, fit_push}

module _ (version : ℕ) (bodies : List (List ℕ)) (gate : ℕ) (place : gate ≡ length (front version bodies)) where
  -- the front and the gate, in front of whatever stands behind
  split_at_gate : (g : ℕ) (rest : List ℕ) → front version bodies ++ g ∷ rest ≡ (front version bodies ++ g ∷ []) ++ rest
  split_at_gate g rest = sym (append_assoc (front version bodies) (g ∷ []) rest)

  length_gate : (g : ℕ) → length (front version bodies ++ g ∷ []) ≡ gate + 1
  length_gate g = omega (arith, place, length-append (front version bodies) (g ∷ []))

  -- the gate stands in each outcome of a write behind it
  pub torn_behind : (file c : List ℕ) (n : ℕ) → IsFile version bodies file → Torn (gate + 1) n file c → IsFile version bodies c
  torn_behind file c n records torn =
      let g = records.gate in
      let front_of : take (gate + 1) c ≡ front version bodies ++ g ∷ [] =
      torn.before ∙ ap (take (gate + 1)) (records.whole ∙ split_at_gate g records.rest) ∙ take_at (front version bodies ++ g ∷ []) records.rest (gate + 1) (length_gate g) in
      record {
        known = records.known;
        gate = g;
        rest = drop (gate + 1) c;
        closed = records.closed;
        fit = records.fit;
        whole = sym (take-append-drop (gate + 1) c) ∙ ap (λ (l : List ℕ). l ++ drop (gate + 1) c) front_of ∙ sym (split_at_gate g (drop (gate + 1) c));
      }

  -- the frame behind the gate
  pub written_behind : (file frame : List ℕ) (records : IsFile version bodies file) → written_over (gate + 1) frame file ≡ front version bodies ++ records.gate ∷ (frame ++ drop (gate + 1 + length frame) file)
  written_behind file frame records =
      let g = records.gate in
      ap (λ (l : List ℕ). l ++ (frame ++ drop (gate + 1 + length frame) file)) (ap (take (gate + 1)) (records.whole ∙ split_at_gate g records.rest) ∙ take_at (front version bodies ++ g ∷ []) records.rest (gate + 1) (length_gate g))
      ∙ sym (split_at_gate g (frame ++ drop (gate + 1 + length frame) file))

  module _ (body frame : List ℕ) (is : IsFrame body frame) where
    -- the frame behind an open gate is one record more, and a closed gate
    pub one_more : (rest : List ℕ) → front version bodies ++ open_gate ∷ (frame ++ rest) ≡ front version (bodies ++ body ∷ []) ++ closed_gate ∷ rest
    one_more rest =
        ap (λ (l : List ℕ). front version bodies ++ open_gate ∷ (l ++ rest)) is.whole
        ∙ ap (λ (l : List ℕ). front version bodies ++ open_gate ∷ l) (append_assoc (sized body) (closed_gate ∷ []) rest)
        ∙ sym (front_push version bodies body (closed_gate ∷ rest))

    pub place_after : length (front version (bodies ++ body ∷ [])) ≡ gate + length frame
    place_after = omega (arith, place, ap length (one_more []), length-append (front version bodies) (open_gate ∷ (frame ++ [])), length-append frame [], length-append (front version (bodies ++ body ∷ [])) (closed_gate ∷ []))

    module _ (file : List ℕ) (records : IsFile version bodies file) (staged rest : List ℕ) (is_staged : staged ≡ front version bodies ++ records.gate ∷ (frame ++ rest)) where
      front_of_staged : take gate staged ≡ front version bodies
      front_of_staged = ap (take gate) is_staged ∙ take_at (front version bodies) (records.gate ∷ (frame ++ rest)) gate (sym place)

      back_of_staged : drop (gate + 1) staged ≡ frame ++ rest
      back_of_staged = ap (drop (gate + 1)) (is_staged ∙ split_at_gate records.gate (frame ++ rest)) ∙ drop_at (front version bodies ++ records.gate ∷ []) (frame ++ rest) (gate + 1) (length_gate records.gate)

      pub gate_inside : gate < length staged
      gate_inside = omega (arith, place, ap length is_staged, length-append (front version bodies) (records.gate ∷ (frame ++ rest)))

      after_gate : (b : ℕ) → b ≡ open_gate → IsFile version (bodies ++ body ∷ []) (front version bodies ++ b ∷ (frame ++ rest))
      after_gate b is_open = record {
        known = records.known;
        gate = closed_gate;
        rest = rest;
        closed = λ same. absurd (omega (arith, same));
        fit = fit_push bodies body records.fit is.fits;
        whole = ap (λ (k : ℕ). front version bodies ++ k ∷ (frame ++ rest)) is_open ∙ one_more rest;
      }

      any_gate : (b : ℕ) → IsBeforeOrAfter version bodies body (front version bodies ++ b ∷ (frame ++ rest))
      any_gate b = elim (cases_eq b open_gate) [
        | inl is_open ↦ inr (after_gate b is_open)
        | inr shut ↦ inl (record { known = records.known; gate = b; rest = frame ++ rest; closed = shut; fit = records.fit; whole = refl })
      ]

      -- the frame stands whole in each outcome of the write of the gate
      pub torn_gate : (c : List ℕ) → Torn gate 1 staged c → IsBeforeOrAfter version bodies body c
      torn_gate c torn =
          let b = get_or c gate 0 in
          let back : drop gate c ≡ b ∷ (frame ++ rest) = drop_more c gate 0 (omega (arith, torn.no_shorter, gate_inside)) ∙ ap (λ (l : List ℕ). b ∷ l) (torn.behind ∙ back_of_staged) in
          let whole : c ≡ front version bodies ++ b ∷ (frame ++ rest) =
          sym (take-append-drop gate c) ∙ ap (λ (l : List ℕ). l ++ drop gate c) (torn.before ∙ front_of_staged) ∙ ap (λ (l : List ℕ). front version bodies ++ l) back in
          subst (IsBeforeOrAfter version bodies body) (sym whole) (any_gate b)

      pub written_gate : written_over gate (open_gate ∷ []) staged ≡ front version (bodies ++ body ∷ []) ++ closed_gate ∷ rest
      written_gate =
          ap (λ (l : List ℕ). l ++ ((open_gate ∷ []) ++ drop (gate + 1) staged)) front_of_staged
          ∙ ap (λ (l : List ℕ). front version bodies ++ open_gate ∷ l) back_of_staged ∙ one_more rest

      pub records_after : (c : List ℕ) → c ≡ written_over gate (open_gate ∷ []) staged → IsFile version (bodies ++ body ∷ []) c
      records_after c is_written = record {
        known = records.known;
        gate = closed_gate;
        rest = rest;
        closed = λ same. absurd (omega (arith, same));
        fit = fit_push bodies body records.fit is.fits;
        whole = is_written ∙ written_gate;
      }
