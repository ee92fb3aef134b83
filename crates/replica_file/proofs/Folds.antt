-- What bodies leave.
use Rattle.std.proofs.Common.{◌≡◌, ℕ, ◌+◌, ◌≤◌, List, [], ◌∷◌, ◌++◌, map, length, Result, Ok, Err, refl, sym, ap, subst, ◌∙◌, arith}
use Rattle.std.specs.List.{AllByRecursion}
use Rattle.byte_fields.specs.declared.misfit.Misfit.{Misfit}
use Rattle.byte_fields.proofs.Steps.{IsBytes}
use Rattle.raft_log.specs.declared.record.Record.{Record}
use Rattle.replica_file.specs.Durable.{Durable, kept_by}
use Rattle.wal_frames.specs.Spelling.{body}
use Rattle.replica_file.specs.Grammar.{Allowed, record_in, IsRecord}
use Rattle.replica_file.specs.Folded.{kept_in, next_gate, place_in, then_left, left_by}
use Rattle.replica_file.specs.Seen.{last_gate}
use Rattle.replica_file.proofs.Records.{body_is, body_again}

-- the same state
abbrev left_ok : Durable → Result Durable ℕ
left_ok d = Ok d

pub state_is : (d e : Durable) → left_ok d ≡ left_ok e → d ≡ e
state_is d e same = cc

pub no_state : (d : Durable) (at : ℕ) → left_ok d ≡ Err at → ⊥
no_state d at same = absurd cc

-- the records that were folded
pub record Folds (allowed : Allowed) (before d : Durable) (bodies : List (List ℕ)) : Type 0 where
  pub records : List Record
  pub own : AllByRecursion (IsRecord allowed) records
  pub spelled : bodies ≡ map body records
  pub state : d ≡ kept_in before records

-- where all others are folded behind it
one_more : (allowed : Allowed) (gate : ℕ) (before d : Durable) (b : List ℕ) (bodies : List (List ℕ)) → IsBytes b → ((behind : Durable) → left_by allowed (next_gate gate b) behind bodies ≡ Ok d → Folds allowed behind d bodies)
    → (r : Result Record Misfit) → record_in allowed b ≡ r → then_left (λ behind. left_by allowed (next_gate gate b) behind bodies) before gate b r ≡ Ok d → Folds allowed before d (b ∷ bodies)
one_more allowed gate before d b bodies fits others (Err m) read e = absurd (no_state d (place_in gate b m) (sym e))
one_more allowed gate before d b bodies fits others (Ok r) read e =
    let is = body_is allowed b r fits read in
    let more = others (kept_by before r) e in
    record {
      records = r ∷ more.records;
      own = (is.1, more.own);
      spelled = rw (is.0, more.spelled) refl;
      state = more.state;
    }

pub are_folded : (allowed : Allowed) (gate : ℕ) (before d : Durable) (bodies : List (List ℕ)) → AllByRecursion IsBytes bodies → left_by allowed gate before bodies ≡ Ok d → Folds allowed before d bodies
are_folded allowed gate before d [] fit e = record { records = []; own = tt; spelled = refl; state = sym (state_is before d e) }
are_folded allowed gate before d (b ∷ bodies) fit e = one_more allowed gate before d b bodies fit.0 (λ behind. are_folded allowed (next_gate gate b) behind d bodies fit.1) (record_in allowed b) refl e

-- bodies of records are folded
pub folds_again : (allowed : Allowed) (gate : ℕ) (before : Durable) (records : List Record) → AllByRecursion (IsRecord allowed) records → left_by allowed gate before (map body records) ≡ Ok (kept_in before records)
folds_again allowed gate before [] own = refl
folds_again allowed gate before (r ∷ records) own = rw (body_again allowed r own.0) (folds_again allowed (next_gate gate (body r)) (kept_by before r) records own.1)

-- what further bodies leave
behind_one : (allowed : Allowed) (gate : ℕ) (before d : Durable) (b : List ℕ) (bodies more : List (List ℕ))
    → ((behind : Durable) → left_by allowed (next_gate gate b) behind bodies ≡ Ok d → left_by allowed (next_gate gate b) behind (bodies ++ more) ≡ left_by allowed (last_gate (next_gate gate b) bodies) d more)
    → (r : Result Record Misfit) → then_left (λ behind. left_by allowed (next_gate gate b) behind bodies) before gate b r ≡ Ok d
    → then_left (λ behind. left_by allowed (next_gate gate b) behind (bodies ++ more)) before gate b r ≡ left_by allowed (last_gate (next_gate gate b) bodies) d more
behind_one allowed gate before d b bodies more others (Err m) e = absurd (no_state d (place_in gate b m) (sym e))
behind_one allowed gate before d b bodies more others (Ok r) e = others (kept_by before r) e

pub left_behind : (allowed : Allowed) (gate : ℕ) (before d : Durable) (bodies more : List (List ℕ)) → left_by allowed gate before bodies ≡ Ok d → left_by allowed gate before (bodies ++ more) ≡ left_by allowed (last_gate gate bodies) d more
left_behind allowed gate before d [] more e = ap (λ (x : Durable). left_by allowed gate x more) (state_is before d e)
left_behind allowed gate before d (b ∷ bodies) more e = behind_one allowed gate before d b bodies more (λ behind. left_behind allowed (next_gate gate b) behind d bodies more) (record_in allowed b) e

-- one record more
pub left_more : (allowed : Allowed) (gate : ℕ) (before d : Durable) (bodies : List (List ℕ)) (r : Record) → IsRecord allowed r → left_by allowed gate before bodies ≡ Ok d → left_by allowed gate before (bodies ++ body r ∷ []) ≡ Ok (kept_by d r)
left_more allowed gate before d bodies r own e =
    left_behind allowed gate before d bodies (body r ∷ []) e ∙ folds_again allowed (last_gate gate bodies) d (r ∷ []) (own, tt)

-- the last gate stands behind the first
pub gates_rise : (gate : ℕ) (bodies : List (List ℕ)) → gate ≤ last_gate gate bodies
gates_rise gate [] = omega arith
gates_rise gate (b ∷ bodies) = omega (arith, gates_rise (next_gate gate b) bodies)

-- one body of those that are left: it is one record more, or it ends the fold
pub goes_on : (allowed : Allowed) (gate : ℕ) (before : Durable) (b : List ℕ) (bodies : List (List ℕ)) (r : Record) (all : Result Durable ℕ) → record_in allowed b ≡ Ok r → left_by allowed gate before (b ∷ bodies) ≡ all → left_by allowed (next_gate gate b) (kept_by before r) bodies ≡ all
goes_on allowed gate before b bodies r all read so_far = sym (rw read refl) ∙ so_far

pub ends : (allowed : Allowed) (gate : ℕ) (before : Durable) (b : List ℕ) (bodies : List (List ℕ)) (m : Misfit) (all : Result Durable ℕ) → record_in allowed b ≡ Err m → left_by allowed gate before (b ∷ bodies) ≡ all → all ≡ Err (place_in gate b m)
ends allowed gate before b bodies m all read so_far = sym so_far ∙ rw read refl

-- the same, in the words of the loop
pub preserved : (allowed : Allowed) (gate len : ℕ) (before behind : Durable) (b slice : List ℕ) (left rest : List (List ℕ)) (r : Record) (all : Result Durable ℕ) → left ≡ b ∷ rest → slice ≡ b → len ≡ length b → record_in allowed slice ≡ Ok r → behind ≡ kept_by before r
    → left_by allowed gate before left ≡ all → left_by allowed (gate + 5 + len) behind rest ≡ all
preserved allowed gate len before behind b slice left rest r all e is long read kept so_far =
    rw (long, kept) (goes_on allowed gate before b rest r all (subst (λ (s : List ℕ). record_in allowed s ≡ Ok r) is read) (subst (λ (l : List (List ℕ)). left_by allowed gate before l ≡ all) e so_far))
