-- Three replicas in memory.
use Rattle.disk_model.specs.Memory.{reads_of, LeftOf}
use Rattle.disk_model.specs.declared.mem_disk.MemDisk.{MemDisk}
use Rattle.replica_core.specs.declared.replica.Replica.{Replica}
use Rattle.replica_core.specs.Replica.{IsSound}

-- each of them is sound
pub record AreSound (one two three : Replica MemDisk) : Type 0 where
  pub first : IsSound reads_of LeftOf one
  pub second : IsSound reads_of LeftOf two
  pub third : IsSound reads_of LeftOf three
