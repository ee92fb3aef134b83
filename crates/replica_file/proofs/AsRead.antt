-- What holds of each record that is read.
use Rattle.std.proofs.Common.{◌≡◌, ℕ, true, List, Result, Ok, Err}
use Rattle.std.specs.Prelude.{IfOk}
use Rattle.byte_fields.specs.declared.refused.ReadRefused.{ReadRefused}
use Rattle.byte_fields.specs.Reading.{Gives}
use Rattle.byte_fields.proofs.Steps.{IsBytes}
use Rattle.raft_log.specs.Config.{AreEntries}
use Rattle.replica_file.specs.Grammar.{Allowed, record_in, all_may}
use Rattle.replica_file.specs.Seen.{record_of}
use Rattle.replica_file.specs.declared.reading.LogRecord.{LogRecord}
use Rattle.replica_file.proofs.Records.{items_are, body_is}
use Rattle.replica_file.proofs.Own.{are_all}

pub items_of : (allowed : Allowed) (body : List ℕ) (result : Result LogRecord ReadRefused) → IsBytes body → Gives record_of result (record_in allowed body) → IfOk result (λ r. AreEntries r.entries.items)
items_of allowed body (Ok r) fits read = let is = body_is allowed body (record_of r) fits read in items_are r.entries.items is.1.fits.entries_fit.each
items_of allowed body (Err refused) fits read = tt

pub own_of : (allowed : Allowed) (body : List ℕ) (result : Result LogRecord ReadRefused) → IsBytes body → Gives record_of result (record_in allowed body) → IfOk result (λ r. all_may allowed r.entries.items ≡ true)
own_of allowed body (Ok r) fits read = let is = body_is allowed body (record_of r) fits read in are_all allowed r.entries.items is.1.own
own_of allowed body (Err refused) fits read = tt
