-- Peers that are read one after the other.
use Rattle.std.proofs.Common.{◌≡◌, ℕ, ◌^◌, ◌<◌, false, cond, ◌==◌, List, [], ◌∷◌, ◌++◌, Ok, Err, subst, arith}
use Rattle.std.specs.List.{list_any}
use Rattle.byte_fields.specs.Reading.{misfit, id_at}
use Rattle.byte_fields.proofs.Steps.{bind_ok, guard_ok}
use Rattle.byte_fields.proofs.FieldLaws.{id_above}
use Rattle.raft_log.specs.Peers.{IsRisingAbove}
use Rattle.wal_frames.specs.Reading.{peer_at}

-- what a peer that was read is
pub record IsAbove (others : List ℕ) (low id : ℕ) : Type 0 where
  pub above : low < id
  pub fits : id < 2 ^ 32
  pub apart : list_any (λ peer. peer == id) others ≡ false

-- a peer that is read is one
pub peer_above : (others : List ℕ) (low : ℕ) (bytes : List ℕ) (id : ℕ) (rest : List ℕ) → peer_at others low bytes ≡ Ok (id, rest) → IsAbove others low id
unfolding peer_at
peer_above others low bytes id rest e =
    let b = bind_ok (id_at 4294967295 low bytes) (λ x. cond (list_any (λ peer. peer == x.0) others) (Err (misfit bytes)) (Ok x)) (id, rest) e in
    let g = guard_ok (list_any (λ peer. peer == b.0.0) others) (misfit bytes) b.0 (id, rest) b.2 in
    let t = id_above 4294967295 low bytes b.0.0 b.0.1 b.1 in
    subst (λ (p : ℕ × List ℕ). IsAbove others low p.0) g.1 (record { above = t.0; fits = omega (arith, t.1); apart = g.0 })

-- an id above the last one may stand behind it
pub rising_push : (low : ℕ) (ids : List ℕ) (last id : ℕ) → IsRisingAbove low (ids ++ last ∷ []) → last < id → id < 2 ^ 32 → IsRisingAbove low ((ids ++ last ∷ []) ++ id ∷ [])
rising_push low [] last id rising above fits = (rising.0, rising.1, (above, fits, tt))
rising_push low (first ∷ ids) last id rising above fits = (rising.0, rising.1, rising_push first ids last id rising.2 above fits)
