-- Who a replica is.
use Rattle.std.specs.Prelude.{◌≤◌, ◌<◌}
use Rattle.part_keys.specs.Keys.{IsKind}
use Rattle.part_store.specs.declared.setting.Setting.{Setting}
use Rattle.replica_model.specs.Replica.{Home}
use Rattle.replica_peer.specs.Peer.{home_in}
use Rattle.replica_core.specs.declared.who.Who.{Who}

-- one of 1 to 64 parts, and a peer from 1 on; ids that are texts have 1 to 32 bytes
pub record IsWho (who : Who) : Type 0 where
  pub kind : IsKind who.ids
  pub some : 0 < who.parts
  pub few : who.parts ≤ 64
  pub one : 0 < who.part
  pub within : who.part ≤ who.parts
  pub peer : 0 < who.peer

-- its part of the space, and where it belongs
abbrev pub setting_of : Who → Setting
setting_of who = record { ids = who.ids; parts = who.parts; part = who.part }

abbrev pub home_of : Who → Home
home_of who = home_in (setting_of who)
