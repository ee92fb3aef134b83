use Rattle.std.proofs.Common.{◌≡◌, ◌++◌, length}
use Rattle.std.specs.List.{AllByRecursion}
use Rattle.byte_fields.specs.Versions.{IsVersion}
use Rattle.byte_fields.specs.Frames.{HasFrame}
use Rattle.wal_disk.specs.File.{front}
use Rattle.wal_disk.proofs.reading.read_records.Given as goal

abbrev pub invariant-loop-rest : goal.invariant-loop-rest
invariant-loop-rest l = record { known : IsVersion l.version; fit : AllByRecursion HasFrame l.bodies; whole : l.file ≡ front l.version l.bodies ++ l.rest }

abbrev pub decreases-loop-rest : goal.decreases-loop-rest
decreases-loop-rest l = length l.rest
