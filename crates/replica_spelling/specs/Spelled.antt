-- When all that a replica holds has a spelling, as far as it may send it.
use Rattle.std.specs.Prelude.{◌≡◌, ℕ, ◌<◌, ◌≤◌, List, Some}
use Rattle.std.specs.List.{AllByRecursion}
use Rattle.byte_fields.proofs.Steps.{IsBytes}
use Rattle.raft_log.specs.declared.entry.Entry.{Entry}
use Rattle.raft_log.specs.declared.entry.Item.{Item}
use Rattle.raft_log.specs.declared.entry.Item.TheVariants.{Payload}
use Rattle.raft_log.specs.declared.message.RaftMsg.{RaftMsg}
use Rattle.raft_log.specs.declared.message.RaftMsg.TheVariants.{Append}
use Rattle.raft_log.specs.Config.{AreEntries}
use Rattle.raft_core.specs.Laws.{IsPeer}
use Rattle.graph_bytes.specs.declared.id_form.IdForm.TheVariants.{Tagged}
use Rattle.graph_bytes.specs.Fits.{IsSmall, most_small, HasSpellingWhole}
use Rattle.part_keys.specs.declared.chain.ChainState.{ChainState}
use Rattle.chain_leader.specs.Rules.{Table}
use Rattle.replica_model.specs.declared.packet.Place.{Place}
use Rattle.replica_model.specs.declared.packet.Body.{Body}
use Rattle.replica_model.specs.declared.packet.Body.TheVariants as body
use Rattle.replica_model.specs.declared.input.Input.{Input}
use Rattle.replica_model.specs.declared.input.Input.TheVariants as input
use Rattle.replica_model.specs.Bytes.{spelling_of}
use Rattle.replica_model.specs.Replica.{Home, Row, Replica}
use Rattle.replica_model.specs.Spelling.{value_of}
use Rattle.replica_model.specs.Stepped.{Leaving}
use Rattle.packet_codec.specs.Fits.{HasSpellingAnswer, HasSpellingPlace, HasSpelling}
use Rattle.replica_spelling.specs.Held.{AllHeld}
use Rattle.replica_spelling.specs.Parts.{FitsValue}

-- one of at most 64 parts, whose entries are spelled in the second version
pub record IsHome (home : Home) : Type 0 where
  pub part : IsSmall home.part
  pub some : 0 < home.parts
  pub few : home.parts ≤ most_small
  pub spelling : home.spelling ≡ spelling_of 2

-- ---- what a replica holds

abbrev pub AreFitting : Home → List Entry → Type 0
AreFitting home entries = AllByRecursion (λ (e : Entry). FitsValue (value_of home.spelling e.item)) entries

-- a chain of a leader's table
pub record IsSpelledState (chain : ChainState) : Type 0 where
  pub remote : IsSmall chain.remote
  pub list : AllByRecursion (HasSpellingWhole Tagged) chain.list

abbrev pub IsSpelledTable : Table → Type 0
IsSpelledTable table = AllHeld (λ v chain. IsSpelledState chain) table

-- a read that waits
abbrev pub IsSpelledRow : Row → Type 0
IsSpelledRow row = IsSmall row.id.client × HasSpellingAnswer row.answer

-- A replica: its log has configurations that are ones and entries that fit; and the chains of its table, the senders that it
-- keeps and the answers of the reads that wait have spellings.
pub record IsSpelled (home : Home) (r : Replica) : Type 0 where
  pub peer : IsPeer r.core
  pub items : AreEntries r.core.log
  pub entries : AreFitting home r.core.log
  pub table : IsSpelledTable r.lead.table
  pub senders : (index : ℕ) (sender : Place) → r.senders index ≡ Some sender → HasSpellingPlace sender
  pub rows : AllByRecursion IsSpelledRow r.rows

-- bytes, as the numbers of a payload are
abbrev pub HasBytes : Item → Type 0
HasBytes (Payload bytes) = IsBytes bytes
HasBytes other = Unit {0}

abbrev pub AreBytes : List Entry → Type 0
AreBytes entries = AllByRecursion (λ (e : Entry). HasBytes e.item) entries

-- ---- what comes, and what leaves

-- the entries of an Append fit
abbrev pub IsFittingMessage : Home → RaftMsg → Type 0
IsFittingMessage home (Append term previous commit round entries) = AreFitting home entries
IsFittingMessage home other = Unit {0}

abbrev pub IsFittingBody : Home → Body → Type 0
IsFittingBody home (body.Raft message) = IsFittingMessage home message
IsFittingBody home (body.Chain said) = Unit {0}

-- a packet that has a spelling, and entries that fit
abbrev pub IsSpelledInput : Home → Input → Type 0
IsSpelledInput home (input.Sent packet) = HasSpelling packet × IsFittingBody home packet.body
IsSpelledInput home (input.Tick tick) = Unit {0}

-- each packet that leaves has a spelling
abbrev pub AreSpelled : List Leaving → Type 0
AreSpelled leaves = AllByRecursion (λ (l : Leaving). HasSpelling l.packet) leaves
