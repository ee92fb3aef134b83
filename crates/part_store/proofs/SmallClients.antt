-- The client of a call that is read is 1 to 64.
use Rattle.std.proofs.Common.{◌≡◌, ℕ, List, Ok, subst}
use Rattle.byte_fields.specs.Reading.{◌>>=◌, number_at, both_at, made_at}
use Rattle.byte_fields.proofs.FieldLaws.{id_above}
use Rattle.byte_fields.proofs.Steps.{bind_ok, ok_is}
use Rattle.graph_bytes.specs.Fits.{IsSmall}
use Rattle.graph_bytes.specs.Reading.{small_at, call_of, call_at}
use Rattle.graph_model.specs.declared.call_id.CallId.{CallId}

pub call_small : (bytes : List ℕ) (id : CallId) (rest : List ℕ) → call_at bytes ≡ Ok (id, rest) → IsSmall id.client
unfolding call_at made_at both_at
call_small bytes id rest e =
    let a = bind_ok (both_at small_at (number_at 8) bytes) (λ x. Ok (call_of x.0, x.1)) (id, rest) e in
    let b = bind_ok (small_at bytes) (λ y. number_at 8 y.1 >>= λ z. Ok ((y.0, z.0), z.1)) a.0 a.1 in
    let c = bind_ok (number_at 8 b.0.1) (λ z. Ok ((b.0.0, z.0), z.1)) a.0 b.2 in
    let made : (ℕ × ℕ) × List ℕ = ((b.0.0, c.0.0), c.0.1) in
    let read : CallId × List ℕ = (call_of a.0.0, a.0.1) in
    subst (λ (q : CallId × List ℕ). IsSmall q.0.client) {x = read} (ok_is read (id, rest) a.2)
    (subst (λ (q : (ℕ × ℕ) × List ℕ). IsSmall q.0.0) {x = made} (ok_is made a.0 c.2) (id_above 64 0 bytes b.0.0 b.0.1 b.1))
