use Rattle.wal_disk.proofs.Readings.{one_broken_place}
use Rattle.wal_disk.proofs.laws.one_place.Goals as goal

pub returns : goal.returns
returns c = one_broken_place
