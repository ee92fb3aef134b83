-- What the program says that an input asks, as what it asks.
use Rattle.std.specs.Prelude.{◌≡◌, [], ◌∷◌, Option, None, Some, true}
use Rattle.graph_bytes.specs.declared.id_form.IdForm.TheVariants.{Tagged}
use Rattle.maps.specs.Maps.{altered}
use Rattle.part_keys.specs.Fits.{HasSpelling}
use Rattle.part_keys.specs.Routing.{belongs}
use Rattle.part_keys.specs.declared.entry.PartEntry.{PartEntry}
use Rattle.part_keys.specs.declared.entry.PartEntry.TheVariants.{Read}
use Rattle.raft_core.specs.Ahead.{IsInput}
use Rattle.chain_leader.specs.Rules.{Table}
use Rattle.chain_leader.specs.Table.{with_asked, with_double}
use Rattle.chain_leader.specs.Leading.{Leading, Taken, still, resuming, standing_behind}
use Rattle.replica_model.specs.Asks.{Asks, Nothing, Refuses, Points, Leads, Raft, Reads}
use Rattle.replica_model.specs.Replica.{Home, Replica, machine_of}
use Rattle.replica_state.specs.declared.asked.Rule.{Rule}
use Rattle.replica_state.specs.declared.asked.Rule.TheVariants.{Stays, Asks as AsksFor, Doubles}
use Rattle.replica_state.specs.declared.asked.Asked.{Asked}
use Rattle.replica_state.specs.declared.asked.Asked.TheVariants as asked
use Rattle.replica_state.specs.declared.whose.Whose.{Whose}

-- the table behind a rule that proposes
abbrev pub ruled_table : Rule → Table → Table
ruled_table Stays t = t
ruled_table (AsksFor v) t = altered t v with_asked
ruled_table (Doubles v) t = altered t v with_double

abbrev pub ruled : Rule → Leading → Leading
ruled rule l = record l { table = ruled_table rule l.table }

-- the table behind a rule that may propose, and what it proposes
abbrev pub offered_by : Table → Option (PartEntry × Rule) → Table × Option PartEntry
offered_by t None = (t, None)
offered_by t (Some made) = (ruled_table made.1 t, Some made.0)

-- what a leader makes by a rule that may propose
abbrev pub offered : Leading → Option (PartEntry × Rule) → Taken
offered l None = still l
offered l (Some made) = record { leading = ruled made.1 l; proposals = made.0 ∷ []; letters = [] }

-- what is asked
abbrev pub asked_of : Home → Replica → Asked → Asks
asked_of home r asked.Nothing = Nothing
asked_of home r (asked.Refuses from other) = Refuses from other
asked_of home r (asked.Points v peer) = Points v peer
asked_of home r asked.Quiet = Leads (still r.lead)
asked_of home r (asked.Resumes after) = Leads (resuming r.core.term r.lead (standing_behind (machine_of home r) after))
asked_of home r (asked.Raft input rule sender) = Raft input (ruled rule r.lead) sender
asked_of home r (asked.Reads id query) = Reads id query

-- What is asked of the Raft peer is an input that it takes; a read belongs to the part, and has a spelling.
abbrev pub IsSound : Whose → Asked → Type 0
IsSound s (asked.Raft input rule sender) = IsInput input
IsSound s (asked.Reads id query) = (belongs s.ids s.parts s.part (Read id query) ≡ true) × HasSpelling Tagged (Read id query)
IsSound s other = Unit {0}
