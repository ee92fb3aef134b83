-- The entry of a Request is a format: what it begins with tells whether its sender may ask for it.
use Rattle.std.proofs.Common.{◌≡◌, ◌==◌, ℕ, ◌<◌, ◌^◌, List, [], ◌∷◌, ◌++◌, length, Bool, Ok, true, refl, sym, ap, subst, ◌∙◌, append_assoc, arith}
use Rattle.byte_fields.specs.Fields.{number, flag}
use Rattle.byte_fields.specs.Reading.{byte_at, number_at, both_at, such_at}
use Rattle.byte_fields.proofs.Steps.{IsBytes, Takes, bind_ok}
use Rattle.byte_fields.proofs.Within.{IsWithin, within_then}
use Rattle.byte_fields.proofs.FieldLaws.{apart}
use Rattle.byte_fields.proofs.Numbers.{wide4, wide8}
use Rattle.byte_fields.proofs.Formats.{IsFormat, byte_format, number_format, both_format, such_format}
use Rattle.std.specs.Cmp.Derive.{both_true}
use Rattle.graph_bytes.proofs.Once.{and_true}
use Rattle.graph_bytes.specs.declared.id_form.IdForm.TheVariants.{Tagged}
use Rattle.graph_bytes.specs.Spelling.{call, halves, query}
use Rattle.graph_bytes.specs.Fits.{FitsCall}
use Rattle.graph_model.specs.declared.call_id.CallId.{CallId}
use Rattle.part_keys.specs.EntryKinds.{prime_entry, vertex_entry, read_entry}
use Rattle.part_keys.specs.Spelling.{entry, change}
use Rattle.part_keys.specs.Fits as part_entry
use Rattle.part_keys.specs.declared.entry.PartEntry.{PartEntry}
use Rattle.part_keys.specs.declared.entry.PartEntry.TheVariants.{Prime, Local, Double, Close, Abort, Remote, Fence, Vertex, Read}
use Rattle.part_keys.specs.Reading.{entry_at}
use Rattle.part_keys.proofs.EntryFormats.{entry_format}
use Rattle.replica_model.specs.declared.packet.Place.{Place}
use Rattle.packet_codec.specs.Fits.{is_sender, is_call, may_ask}
use Rattle.packet_codec.specs.Reading.{is_asked_kind, asked_front_at, asked_at}

-- kind, client, number
abbrev Front : Type 0
Front = (ℕ × ℕ) × ℕ

abbrev front_bytes : Front → List ℕ
front_bytes x = ((x.0.0 ∷ []) ++ number 4 x.0.1) ++ number 8 x.1

abbrev FitsFront : Front → Type 0
FitsFront x = ((x.0.0 < 256) × (x.0.1 < 2 ^ 32)) × (x.1 < 2 ^ 64)

abbrev FitsAsked : Place → ℕ → Front → Type 0
FitsAsked from n x = (((x.0.0 < 256) × (is_asked_kind x.0.0 ≡ true)) × ((x.0.1 < 2 ^ 32) × (is_sender from x.0.1 ≡ true))) × ((x.1 < 2 ^ 64) × ((x.1 == n) ≡ true))

-- these fields, whatever they say
plain_format : IsFormat (both_at (both_at byte_at (number_at 4)) (number_at 8)) front_bytes FitsFront
plain_format = both_format (both_format byte_format (number_format 4 wide4)) (number_format 8 wide8)

front_format : (from : Place) (n : ℕ) → IsFormat (asked_front_at from n) front_bytes (FitsAsked from n)
unfolding asked_front_at
front_format from n =
    both_format (both_format (such_format is_asked_kind byte_format) (such_format (is_sender from) (number_format 4 wide4)))
    (such_format (λ m. m == n) (number_format 8 wide8))

-- what a call's entry begins with
begins : (kind : ℕ) (id : CallId) (tail rest : List ℕ) → (kind ∷ (call id ++ tail)) ++ rest ≡ front_bytes ((kind, id.client), id.number) ++ (tail ++ rest)
begins kind id tail rest = ap (λ (b : List ℕ). kind ∷ b) (append_assoc (call id) tail rest)

begins_flagged : (kind : ℕ) (id : CallId) (b : Bool) (tail rest : List ℕ) → (kind ∷ ((call id ++ flag b) ++ tail)) ++ rest ≡ front_bytes ((kind, id.client), id.number) ++ (flag b ++ (tail ++ rest))
begins_flagged kind id b tail rest = ap (λ (l : List ℕ). kind ∷ l) (append_assoc (call id ++ flag b) tail rest ∙ append_assoc (call id) (flag b) (tail ++ rest))

-- where it was read so, it is a call of the sender and of that number
is_called : (from : Place) (n kind : ℕ) (id : CallId) (bytes tail : List ℕ) (x : Front) (more : List ℕ) → bytes ≡ front_bytes ((kind, id.client), id.number) ++ tail → kind < 256 → FitsCall id → IsBytes bytes
    → asked_front_at from n bytes ≡ Ok (x, more) → is_call from n id ≡ true
is_called from n kind id bytes tail x more begin small fits are e =
    let t = (front_format from n).takes bytes x more are e in
    let same = sym t.0.parts ∙ begin in
    let read : FitsFront x = ((t.1.0.0.0, t.1.0.1.0), t.1.1.0) in
    let spelled : FitsFront ((kind, id.client), id.number) = ((small, omega (arith, fits.client.1)), fits.count) in
    let is = (apart (both_at (both_at byte_at (number_at 4)) (number_at 8)) front_bytes FitsFront plain_format.again x ((kind, id.client), id.number) more tail read spelled same).0 in
    both_true
    (subst (λ (y : Front). is_sender from y.0.1 ≡ true) is t.1.0.1.1)
    (subst (λ (y : Front). (y.1 == n) ≡ true) is t.1.1.1)

-- where it is one, it is read so
called_again : (from : Place) (n kind : ℕ) (id : CallId) (bytes tail : List ℕ) → bytes ≡ front_bytes ((kind, id.client), id.number) ++ tail → kind < 256 → is_asked_kind kind ≡ true → FitsCall id → is_call from n id ≡ true
    → asked_front_at from n bytes ≡ Ok (((kind, id.client), id.number), tail)
called_again from n kind id bytes tail begin small asked fits is =
    let both = and_true (is_sender from id.client) (id.number == n) is in
    ap (asked_front_at from n) begin
    ∙ (front_format from n).again ((kind, id.client), id.number) tail (((small, asked), (omega (arith, fits.client.1), both.0)), (fits.count, both.1))

-- the same of each entry
is_asked : (from : Place) (n : ℕ) (made : PartEntry) (rest : List ℕ) (x : Front) (more : List ℕ) → part_entry.Fits Tagged made → IsBytes (entry Tagged made ++ rest)
    → asked_front_at from n (entry Tagged made ++ rest) ≡ Ok (x, more) → may_ask from n made ≡ true
unfolding asked_front_at both_at such_at byte_at
is_asked from n (Prime id list absent) rest x more fits are e = is_called from n prime_entry id (entry Tagged (Prime id list absent) ++ rest) _ x more (begins_flagged prime_entry id absent (halves Tagged list) rest) (omega arith) fits.0 are e
is_asked from n (Vertex id made) rest x more fits are e = is_called from n vertex_entry id (entry Tagged (Vertex id made) ++ rest) _ x more (begins vertex_entry id (change Tagged made) rest) (omega arith) fits.0 are e
is_asked from n (Read id q) rest x more fits are e = is_called from n read_entry id (entry Tagged (Read id q) ++ rest) _ x more (begins read_entry id (query Tagged q) rest) (omega arith) fits.0 are e
is_asked from n (Local v) rest x more fits are e = absurd cc
is_asked from n (Double v) rest x more fits are e = absurd cc
is_asked from n (Close v) rest x more fits are e = absurd cc
is_asked from n (Abort v) rest x more fits are e = absurd cc
is_asked from n (Remote source term v list) rest x more fits are e = absurd cc
is_asked from n (Fence source term v list) rest x more fits are e = absurd cc

asked_front : (from : Place) (n : ℕ) (made : PartEntry) (rest : List ℕ) → part_entry.Fits Tagged made → may_ask from n made ≡ true → (x : Front × List ℕ) × (asked_front_at from n (entry Tagged made ++ rest) ≡ Ok x)
asked_front from n (Prime id list absent) rest fits is = (_, called_again from n prime_entry id (entry Tagged (Prime id list absent) ++ rest) _ (begins_flagged prime_entry id absent (halves Tagged list) rest) (omega arith) refl fits.0 is)
asked_front from n (Vertex id made) rest fits is = (_, called_again from n vertex_entry id (entry Tagged (Vertex id made) ++ rest) _ (begins vertex_entry id (change Tagged made) rest) (omega arith) refl fits.0 is)
asked_front from n (Read id q) rest fits is = (_, called_again from n read_entry id (entry Tagged (Read id q) ++ rest) _ (begins read_entry id (query Tagged q) rest) (omega arith) refl fits.0 is)
asked_front from n (Local v) rest fits is = absurd cc
asked_front from n (Double v) rest fits is = absurd cc
asked_front from n (Close v) rest fits is = absurd cc
asked_front from n (Abort v) rest fits is = absurd cc
asked_front from n (Remote source term v list) rest fits is = absurd cc
asked_front from n (Fence source term v list) rest fits is = absurd cc

abbrev IsAskedFor : Place → ℕ → PartEntry → Type 0
IsAskedFor from n made = part_entry.Fits Tagged made × (may_ask from n made ≡ true)

asked_takes : (from : Place) (n : ℕ) (bytes : List ℕ) (x : PartEntry) (rest : List ℕ) → IsBytes bytes → asked_at from n bytes ≡ Ok (x, rest) → Takes bytes (entry Tagged x) rest × IsAskedFor from n x
unfolding asked_at
asked_takes from n bytes x rest fits e =
    let a = bind_ok (asked_front_at from n bytes) (λ front. entry_at Tagged bytes) (x, rest) e in
    let u = (entry_format Tagged).takes bytes x rest fits a.2 in
    (u.0, (u.1, is_asked from n x rest a.0.0 a.0.1 u.1 (subst IsBytes u.0.parts fits) (subst (λ (b : List ℕ). asked_front_at from n b ≡ Ok a.0) u.0.parts a.1)))

asked_again : (from : Place) (n : ℕ) (x : PartEntry) (rest : List ℕ) → IsAskedFor from n x → asked_at from n (entry Tagged x ++ rest) ≡ Ok (x, rest)
unfolding asked_at
asked_again from n x rest is =
    let front = asked_front from n x rest is.0 is.1 in
    rw (front.1) ((entry_format Tagged).again x rest is.0)

asked_within : (from : Place) (n : ℕ) (bytes : List ℕ) → IsWithin (length bytes) (asked_at from n bytes)
unfolding asked_at
asked_within from n bytes =
    within_then (length bytes) (asked_front_at from n bytes) (λ front. entry_at Tagged bytes) ((front_format from n).within bytes)
    (λ front le. (entry_format Tagged).within bytes)

-- the entry that is asked for
pub asked_format : (from : Place) (n : ℕ) → IsFormat (asked_at from n) (entry Tagged) (IsAskedFor from n)
asked_format from n = record { takes = asked_takes from n; again = asked_again from n; within = asked_within from n }
