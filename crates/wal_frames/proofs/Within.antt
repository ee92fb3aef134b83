-- A field that doesn't fit stands inside the body.
use Rattle.std.proofs.Common.{ℕ, zero, suc, ◌-◌, ◌≤◌, Bool, true, false, cond, ltb, eqb, ◌==◌, List, [], ◌∷◌, length, Result, Ok, Err, arith}
use Rattle.std.specs.List.{list_any}
use Rattle.byte_fields.specs.declared.misfit.Misfit.{Misfit}
use Rattle.byte_fields.specs.Reading.{◌>>=◌, misfit, byte_at, number_at, id_at, rising_at, many_at, whole, inside}
use Rattle.byte_fields.proofs.Within.{IsWithin, guard_within, FaultIsWithin, within_less, within_then, byte_within, number_within, id_within, rising_within, many_within, whole_within, inside_within}
use Rattle.raft_log.specs.declared.config.Config.{Config}
use Rattle.raft_log.specs.declared.entry.Item.TheVariants.{NoOp, Members}
use Rattle.wal_frames.proofs.OtherKinds.{no_item}
use Rattle.wal_frames.specs.Reading.{peer_at, peers_at, config_at, item_of, entry_at, entries_at, body_at}

-- a peer
pub peer_within : (others : List ℕ) (low : ℕ) (bytes : List ℕ) → IsWithin (length bytes) (peer_at others low bytes)
unfolding peer_at
peer_within others low bytes =
    within_then (length bytes) (id_at 4294967295 low bytes) (λ id. cond (list_any (λ peer. peer == id.0) others) (Err (misfit bytes)) (Ok id)) (id_within 4294967295 low bytes)
    (λ id le. guard_within (list_any (λ peer. peer == id.0) others) bytes (length bytes) (Ok id) (omega arith) le)

-- peers behind their count
pub peers_within : (others : List ℕ) (room : ℕ) (bytes : List ℕ) → IsWithin (length bytes) (peers_at others room bytes)
unfolding peers_at
peers_within others room bytes =
    within_then (length bytes) (byte_at bytes) (λ count. cond (ltb room count.0) (Err (misfit bytes)) (rising_at (peer_at others) count.0 0 count.1)) (byte_within bytes)
    (λ count le. guard_within (ltb room count.0) bytes (length bytes) (rising_at (peer_at others) count.0 0 count.1) (omega arith)
    (within_less (length count.1) (length bytes) (rising_at (peer_at others) count.0 0 count.1) le (rising_within (peer_at others) (peer_within others) count.0 0 count.1)))

-- voters and learners
pub config_within : (bytes : List ℕ) → IsWithin (length bytes) (config_at bytes)
unfolding config_at
config_within bytes =
    within_then (length bytes) (peers_at [] 8 bytes) (λ voters. peers_at voters.0 (8 - length voters.0) voters.1 >>= λ learners. Ok (record { voters = voters.0; learners = learners.0 }, learners.1)) (peers_within [] 8 bytes)
    (λ voters le. within_then (length bytes) (peers_at voters.0 (8 - length voters.0) voters.1) (λ learners. Ok (record { voters = voters.0; learners = learners.0 }, learners.1))
    (within_less (length voters.1) (length bytes) (peers_at voters.0 (8 - length voters.0) voters.1) le (peers_within voters.0 (8 - length voters.0) voters.1)) (λ learners h. h))

ended_within : {X : Type 0} (b : Bool) (bytes : List ℕ) (n : ℕ) (x : X) → length bytes ≤ n → FaultIsWithin n (cond b (Ok x) (Err (misfit bytes)))
ended_within true bytes n x le = tt
ended_within false bytes n x le = le

members_within : (n k : ℕ) (r : Result Config Misfit) → k ≤ n → FaultIsWithin k r → FaultIsWithin n (r >>= λ c. Ok (Members c))
members_within n k (Ok c) le h = tt
members_within n k (Err m) le h = omega (arith, h)

-- an item
pub item_within : (bytes : List ℕ) → FaultIsWithin (length bytes) (item_of bytes)
unfolding item_of byte_at
item_within [] = omega arith
item_within (zero ∷ rest) = ended_within (eqb (length rest) 0) rest (length (0 ∷ rest)) NoOp (omega arith)
item_within (suc zero ∷ rest) = members_within (length (1 ∷ rest)) (length rest) (whole config_at rest) (omega arith) (whole_within config_at config_within rest)
item_within (suc (suc zero) ∷ rest) = tt
item_within (suc (suc (suc kind)) ∷ rest) = rw (no_item (suc (suc (suc kind))) rest (omega arith)) (omega arith)

-- an entry
pub entry_within : (bytes : List ℕ) → IsWithin (length bytes) (entry_at bytes)
unfolding entry_at
entry_within bytes =
    within_then (length bytes) (number_at 8 bytes) (λ term. number_at 4 term.1 >>= λ len. inside len.0 item_of len.1 >>= λ item. Ok (record { term = term.0; item = item.0 }, item.1)) (number_within 8 bytes)
    (λ term le. within_then (length bytes) (number_at 4 term.1) (λ len. inside len.0 item_of len.1 >>= λ item. Ok (record { term = term.0; item = item.0 }, item.1)) (within_less (length term.1) (length bytes) (number_at 4 term.1) le (number_within 4 term.1))
    (λ len le'. within_then (length bytes) (inside len.0 item_of len.1) (λ item. Ok (record { term = term.0; item = item.0 }, item.1)) (within_less (length len.1) (length bytes) (inside len.0 item_of len.1) le' (inside_within item_of item_within len.0 len.1)) (λ item h. h)))

-- entries behind their count
pub entries_within : (bytes : List ℕ) → IsWithin (length bytes) (entries_at bytes)
unfolding entries_at
entries_within bytes =
    within_then (length bytes) (number_at 4 bytes) (λ count. many_at entry_at count.0 count.1) (number_within 4 bytes)
    (λ count le. within_less (length count.1) (length bytes) (many_at entry_at count.0 count.1) le (many_within entry_at entry_within count.0 count.1))

-- a record's body
pub body_within : (bytes : List ℕ) → IsWithin (length bytes) (body_at bytes)
unfolding body_at
body_within bytes =
    within_then (length bytes) (number_at 8 bytes) (λ term. number_at 4 term.1 >>= λ vote. number_at 8 vote.1 >>= λ keep. entries_at keep.1 >>= λ entries. Ok (record { term = term.0; vote = vote.0; keep = keep.0; entries = entries.0 }, entries.1)) (number_within 8 bytes)
    (λ term a. within_then (length bytes) (number_at 4 term.1) (λ vote. number_at 8 vote.1 >>= λ keep. entries_at keep.1 >>= λ entries. Ok (record { term = term.0; vote = vote.0; keep = keep.0; entries = entries.0 }, entries.1)) (within_less (length term.1) (length bytes) (number_at 4 term.1) a (number_within 4 term.1))
    (λ vote b. within_then (length bytes) (number_at 8 vote.1) (λ keep. entries_at keep.1 >>= λ entries. Ok (record { term = term.0; vote = vote.0; keep = keep.0; entries = entries.0 }, entries.1)) (within_less (length vote.1) (length bytes) (number_at 8 vote.1) b (number_within 8 vote.1))
    (λ keep c. within_then (length bytes) (entries_at keep.1) (λ entries. Ok (record { term = term.0; vote = vote.0; keep = keep.0; entries = entries.0 }, entries.1)) (within_less (length keep.1) (length bytes) (entries_at keep.1) c (entries_within keep.1)) (λ entries h. h))))
