-- Which entries may stand in the log of a part, and so in the file of its replica.
use Rattle.replica_file.specs.Grammar.{Allowed}
use Rattle.replica_model.specs.Asks.{is_entry}
use Rattle.replica_model.specs.Replica.{Home}
use Rattle.replica_model.specs.Spelling.{made_of}

-- the payloads that are entries of the part
abbrev pub allowed_in : Home → Allowed
allowed_in home bytes = is_entry home (made_of (home.spelling.read bytes))
