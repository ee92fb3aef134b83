use Rattle.std.proofs.Common.{List, ℕ, length, subst, arith}
use Rattle.byte_fields.specs.Reading.{whole, ReadsAll}
use Rattle.byte_fields.proofs.Answered.{is_found, is_only}
use Rattle.wal_frames.specs.Reading.{body_at, place}
use Rattle.wal_frames.proofs.Decoding.{body_format}
use Rattle.wal_frames.proofs.reading.decode.Goals as goal

pub returns-clause-found : goal.returns-clause-found
returns-clause-found c = is_found place body_format c.args.bytes.now c.decoded.result (λ i. omega (arith, c.type_inv.bytes i)) c.decoded.ensures

pub returns-clause-only : goal.returns-clause-only
returns-clause-only c = λ r fits same. is_only place body_format r c.decoded.result fits (subst (λ (bytes : List ℕ). ReadsAll place (length bytes) c.decoded.result (whole body_at bytes)) same c.decoded.ensures)
