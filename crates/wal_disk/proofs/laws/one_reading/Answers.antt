use Rattle.wal_disk.proofs.Readings.{same_records}
use Rattle.wal_disk.proofs.laws.one_reading.Goals as goal

pub returns : goal.returns
returns c = same_records
