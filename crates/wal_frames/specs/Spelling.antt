-- The one spelling of each record.
use Rattle.std.specs.Prelude.{ℕ, ◌<◌, ◌^◌, List, [], ◌∷◌, ◌++◌, length}
use Rattle.std.specs.List.{flat_map, AllByRecursion}
use Rattle.byte_fields.specs.Fields.{number, ids}
use Rattle.raft_log.specs.Config.{IsConfig}
use Rattle.raft_log.specs.Peers.{IsPeers}
use Rattle.raft_log.specs.declared.config.Config.{Config}
use Rattle.raft_log.specs.declared.entry.Entry.{Entry}
use Rattle.raft_log.specs.declared.entry.Item.{Item}
use Rattle.raft_log.specs.declared.entry.Item.TheVariants.{NoOp, Members, Payload}
use Rattle.raft_log.specs.declared.record.Record.{Record}
use Rattle.wal_frames.specs.Kinds.{no_op_item, members_item, payload_item}

-- the voters behind their count, the learners behind theirs
abbrev pub config : Config → List ℕ
config c = length c.voters ∷ ids c.voters ++ length c.learners ∷ ids c.learners

-- the kind of the item, and what it holds
abbrev pub item : Item → List ℕ
item NoOp = no_op_item ∷ []
item (Members c) = members_item ∷ config c
item (Payload bytes) = payload_item ∷ bytes

-- term, length of the item, item
abbrev pub entry : Entry → List ℕ
entry e = number 8 e.term ++ number 4 (length (item e.item)) ++ item e.item

-- the entries behind their count
abbrev pub entries : List Entry → List ℕ
entries es = number 4 (length es) ++ flat_map entry es

-- term, vote, keep, entries
abbrev pub body : Record → List ℕ
body r = number 8 r.term ++ number 4 r.vote ++ number 8 r.keep ++ entries r.entries

-- ---- what has a spelling

-- voters and learners that rise, of which none is both
pub record FitsConfig (c : Config) : Type 0 where
  pub voters : IsPeers c.voters
  pub learners : IsPeers c.learners
  pub is : IsConfig c

-- an item: nothing of a no-op or a payload, and of members that they are ones
abbrev pub FitsItem : Item → Type 0
FitsItem NoOp = Unit {0}
FitsItem (Members c) = FitsConfig c
FitsItem (Payload bytes) = Unit {0}

-- an entry whose term and whose item's length fit their bytes
pub record FitsEntry (e : Entry) : Type 0 where
  pub term : e.term < 2 ^ 64
  pub len : length (item e.item) < 2 ^ 32
  pub item_fits : FitsItem e.item

-- entries whose number fits its bytes, each of which fits
pub record FitEntries (es : List Entry) : Type 0 where
  pub count : length es < 2 ^ 32
  pub each : AllByRecursion FitsEntry es

-- a record whose numbers fit their bytes, and whose entries fit
pub record FitsRecord (r : Record) : Type 0 where
  pub term : r.term < 2 ^ 64
  pub vote : r.vote < 2 ^ 32
  pub keep : r.keep < 2 ^ 64
  pub entries_fit : FitEntries r.entries
