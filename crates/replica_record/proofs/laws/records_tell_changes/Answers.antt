use Rattle.replica_record.proofs.Changed.{none_where_same, same_where_none}
use Rattle.replica_record.proofs.laws.records_tell_changes.Goals as goal

pub returns : goal.returns
returns c home r i peer = (same_where_none home r i peer, none_where_same home r i peer)
