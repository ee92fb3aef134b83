use Rattle.std.proofs.Common.{◌≡◌, ℕ, ◌-◌, ◌<◌, ◌^◌, ◌++◌, ◌∷◌, [], length}
use Rattle.byte_fields.specs.Reading.{rising_at}
use Rattle.byte_fields.proofs.Loops.{with_front}
use Rattle.raft_log.specs.Peers.{IsRisingAbove}
use Rattle.wal_frames.specs.Reading.{peer_at}
use Rattle.wal_frames.proofs.reading.read_rising.Given as goal

-- an id above the last one may follow; what was read, with what is still to be read, is all
abbrev pub invariant-loop : goal.invariant-loop
invariant-loop l = record {
  next : (id : ℕ) → l.last < id → id < 2 ^ 32 → IsRisingAbove 0 (l.peers ++ id ∷ []);
  len : length l.peers ≡ l.counter;
  read : with_front l.peers (rising_at (peer_at l.others) (l.count - l.counter) l.last l.rest) ≡ rising_at (peer_at l.others) l.count 0 l.bytes;
}
