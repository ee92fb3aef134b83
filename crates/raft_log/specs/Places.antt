-- The places of configurations in a log, and what stands there.
use Rattle.std.specs.Prelude.{ℕ, suc, ◌-◌, List, [], ◌∷◌, length, take, Option, None, Some, if◌then◌else◌}
use Rattle.raft_log.specs.declared.config.Config.{Config}
use Rattle.raft_log.specs.declared.entry.Entry.{Entry}
use Rattle.raft_log.specs.declared.entry.Item.{Item}
use Rattle.raft_log.specs.Log.{config_behind, no_members, is_members}

-- the place of an item among those of configurations, where it holds one
abbrev pub noted : Item → ℕ → List ℕ
noted item place = if is_members item then place ∷ [] else []

-- the places before the last item
abbrev pub forgotten : Item → List ℕ → List ℕ
forgotten item places = if is_members item then take (length places - 1) places else places

-- the indices of the entries that hold configurations, in a log whose first entry has the index behind this one
abbrev pub places_from : ℕ → List Entry → List ℕ
places_from n [] = []
places_from n (entry ∷ log) = if is_members entry.item then suc n ∷ places_from (suc n) log else places_from (suc n) log

abbrev pub config_places : List Entry → List ℕ
config_places log = places_from 0 log

-- the configuration in an entry, nobody where it holds none
abbrev pub members_in : Option Entry → Config
members_in None = no_members
members_in (Some entry) = config_behind no_members entry.item
