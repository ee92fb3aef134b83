-- A refusal of a file's bodies, as one of its file.
use Rattle.replica_file.specs.declared.refused.FoldRefused.{FoldRefused}
use Rattle.replica_file.specs.declared.refused.FoldRefused.TheVariants as refusals
use Rattle.wal_disk.specs.declared.refused.OpenWhy.{OpenWhy}
use Rattle.wal_disk.specs.declared.refused.OpenWhy.TheVariants as why

abbrev pub why_of : FoldRefused → OpenWhy
why_of (refusals.BadFile at) = why.BadFile at
why_of refusals.NoMemory = why.NoMemory
