-- Items of a log, for the machine and for a leader.
use Rattle.std.specs.Prelude.{◌≡◌, ℕ, suc, ◌==◌, Bool, true, List, [], ◌∷◌, Option, None, Some, if◌then◌else◌}
use Rattle.std.specs.List.{AllByRecursion}
use Rattle.graph_bytes.specs.declared.id_form.IdForm.TheVariants.{Tagged}
use Rattle.part_keys.specs.Fits.{HasSpelling}
use Rattle.part_keys.specs.Routing.{is_payload}
use Rattle.part_keys.specs.declared.entry.PartEntry.{PartEntry}
use Rattle.part_keys.specs.declared.proposal.Proposal.{Proposal}
use Rattle.part_keys.specs.declared.proposal.Proposal.TheVariants.{Start, Made}
use Rattle.part_store.specs.declared.setting.Setting.{Setting}
use Rattle.part_machine.specs.Laws.{HasEdges}
use Rattle.replica_model.specs.declared.packet.Place.{Place}
use Rattle.replica_peer.specs.declared.placing.Kind.{Kind}
use Rattle.replica_peer.specs.declared.placing.Kind.TheVariants as kind

-- an entry may stand in the part's log, and has a spelling
pub record IsWritten (s : Setting) (x : PartEntry) : Type 0 where
  pub payload : is_payload s.ids s.parts s.part x ≡ true
  pub spelled : HasSpelling Tagged x
  pub edges : HasEdges x

abbrev pub IsWrittenItem : Setting → Proposal → Type 0
IsWrittenItem s (Made x) = IsWritten s x
IsWrittenItem s other = Unit {0}

-- each entry among items does
abbrev pub AreWritten : Setting → List (ℕ × Proposal) → Type 0
AreWritten s items = AllByRecursion (λ (d : ℕ × Proposal). IsWrittenItem s d.1) items

-- the sender of an entry behind a step: none where the leader doesn't lead on, the one that the step appends, else the one kept
abbrev pub sender_by : Option (ℕ × Place) → (ℕ → Option Place) → ℕ → Option Place
sender_by None kept index = kept index
sender_by (Some appended) kept index = if index == appended.0 then Some appended.1 else kept index

abbrev pub senders_behind : Bool → Option (ℕ × Place) → (ℕ → Option Place) → ℕ → Option Place
senders_behind on appended kept index = if on then sender_by appended kept index else None

-- what an item is to a leader, but for its entry
abbrev pub kind_of : Option Place → ℕ → Proposal → Kind
kind_of sender term Start = kind.Start term
kind_of sender term (Made x) = kind.Entry term sender
kind_of sender term other = kind.Quiet

-- the kinds of items, the first at this index
abbrev pub kinds_at : (ℕ → Option Place) → ℕ → List (ℕ × Proposal) → List Kind
kinds_at senders index [] = []
kinds_at senders index (d ∷ items) = kind_of (senders index) d.0 d.1 ∷ kinds_at senders (suc index) items
