-- What is spelled at a key is read back from it.
use Rattle.std.proofs.Common.{◌≡◌, ℕ, ◌<◌, ◌^◌, List, [], ◌++◌, Some, Ok, refl, ap, sym, ◌∙◌, append_assoc}
use Rattle.std.proofs.lemmas.List.{append-nil}
use Rattle.byte_fields.specs.Fields.{number}
use Rattle.byte_fields.specs.Reading.{number_at, byte_at, both_at, made_at}
use Rattle.byte_fields.proofs.Numbers.{wide8, number_again}
use Rattle.byte_fields.proofs.Formats.{number_format, both_format, made_again}
use Rattle.graph_bytes.specs.Fits.{FitsCall}
use Rattle.graph_bytes.specs.Reading.{call_at}
use Rattle.graph_bytes.specs.Spelling.{call, half}
use Rattle.graph_bytes.proofs.EdgeFormats.{call_format}
use Rattle.graph_model.specs.declared.call_id.CallId.{CallId}
use Rattle.graph_model.specs.declared.half.Half.{Half}
use Rattle.part_rules.specs.declared.kept.Kept.{Kept}
use Rattle.part_rules.specs.declared.kept.Outcome.{Outcome}
use Rattle.part_rules.specs.declared.kept.Outcome.TheVariants.{Open, Fine, Skipped, Pending, Cancelled, Conflict}
use Rattle.part_store.specs.Keeps.{FitsOutcome}
use Rattle.part_store.specs.Reads.{read_of, outcome_at, last_at, number_of_value, chain_of_value, last_of_value}
use Rattle.part_store.specs.Values.{prime_value, guard_value, outcome, client_value}

-- a number at the front
pub number_back : (n : ℕ) (rest : List ℕ) → n < 2 ^ 64 → number_of_value (Some (number 8 n ++ rest)) ≡ n
number_back n rest small = rw (number_again 8 n rest small) refl

-- a number alone
pub guard_back : (term : ℕ) → term < 2 ^ 64 → number_of_value (Some (guard_value term)) ≡ term
guard_back term small = ap (λ (bytes : List ℕ). number_of_value (Some bytes)) (sym (append-nil (number 8 term))) ∙ number_back term [] small

-- a chain
chain_read : (v : ℕ) (id : CallId) (made : Half) → v < 2 ^ 64 → FitsCall id → both_at (number_at 8) call_at (prime_value v id made) ≡ Ok ((v, id), half made)
chain_read v id made small fits =
    ap (both_at (number_at 8) call_at) (sym (append_assoc (number 8 v) (call id) (half made)))
    ∙ (both_format (number_format 8 wide8) call_format).again (v, id) (half made) (small, fits)

pub chain_back : (v : ℕ) (id : CallId) (made : Half) → v < 2 ^ 64 → FitsCall id → chain_of_value (Some (prime_value v id made)) ≡ Some (v, id)
chain_back v id made small fits = ap read_of (chain_read v id made small fits)

-- an outcome
outcome_again : (o : Outcome) (rest : List ℕ) → FitsOutcome o → outcome_at (outcome o ++ rest) ≡ Ok (o, rest)
unfolding outcome_at byte_at
outcome_again Open rest fits = refl
outcome_again Fine rest fits = refl
outcome_again Skipped rest fits = refl
outcome_again Pending rest fits = refl
outcome_again Cancelled rest fits = refl
outcome_again (Conflict id) rest fits = made_again (λ id. Conflict id) call_format id rest fits

last_read : (last : Kept) (rest : List ℕ) → last.number < 2 ^ 64 → FitsOutcome last.outcome → last_at (number 8 last.number ++ (outcome last.outcome ++ rest)) ≡ Ok (last, rest)
unfolding last_at made_at both_at
last_read last rest small fits = rw (number_again 8 last.number (outcome last.outcome ++ rest) small, outcome_again last.outcome rest fits) refl

-- a client's last call
pub last_back : (last : Kept) → last.number < 2 ^ 64 → FitsOutcome last.outcome → last_of_value (Some (client_value last)) ≡ Some last
last_back last small fits =
    ap (λ (bytes : List ℕ). read_of (last_at (number 8 last.number ++ bytes))) (sym (append-nil (outcome last.outcome)))
    ∙ ap read_of (last_read last [] small fits)
