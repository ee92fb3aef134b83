-- What a leader makes of items is what they send ahead, and what becomes of its table.
use Rattle.std.proofs.Common.{◌≡◌, ℕ, suc, Bool, true, false, List, [], ◌∷◌, Option, None, Some, refl, ap, sym, ◌∙◌}
use Rattle.std.specs.Prelude.{◌==◌}
use Rattle.part_keys.specs.declared.entry.PartEntry.{PartEntry}
use Rattle.part_keys.specs.declared.proposal.Proposal.{Proposal}
use Rattle.part_keys.specs.declared.proposal.Proposal.TheVariants.{Start, Members, Made, Blank}
use Rattle.part_rules.specs.declared.applied.Applied.{Applied}
use Rattle.part_rules.specs.declared.applied.Applied.TheVariants.{Begun}
use Rattle.part_rules.specs.Part.{Part}
use Rattle.part_rules.specs.Machine.{applied}
use Rattle.part_rules.specs.Folded.{item_applied}
use Rattle.part_machine.specs.Ahead.{begun_behind}
use Rattle.chain_leader.specs.declared.letter.Letter.{Letter}
use Rattle.chain_leader.specs.declared.new_chain.NewChain.{NewChain}
use Rattle.chain_leader.specs.Rules.{Table}
use Rattle.chain_leader.specs.Leader.{BeganBehind}
use Rattle.chain_leader.specs.Leading.{Leading, Applies, answers_of, chain_in, forgetting, on_entry, on_item_by}
use Rattle.chain_leader.specs.Applying.{beginning_by, begun_with, entry_by}
use Rattle.chain_leader.proofs.Applying.{entry_at}
use Rattle.replica_model.specs.declared.packet.Place.{Place}
use Rattle.replica_model.specs.declared.packet.Packet.{Packet}
use Rattle.replica_model.specs.Replica.{Home}
use Rattle.replica_model.specs.Letters.{packets_of, works, then_works}
use Rattle.replica_peer.specs.Worked.{entries_at, by_ready, row_in, row_begun, Sent, sent, with_row, worked_by}

-- the record of the chain that begins is the one that stands behind
began : (behind : Part) (said : Applied) → BeganBehind behind said (begun_behind behind said)
began behind (Begun v) = refl
began behind other = tt

-- a chain that begins is one row more, and the letter doesn't hang on the table
row_added : (ready : Bool) (t : Table) (made : Option NewChain) → (begun_with ready t made).table ≡ with_row t (row_in ready made)
row_added true t None = refl
row_added true t (Some made) = refl
row_added false t None = refl
row_added false t (Some made) = refl

pub same_letters : (ready : Bool) (t u : Table) (made : Option NewChain) → (begun_with ready t made).letters ≡ (begun_with ready u made).letters
same_letters true t u None = refl
same_letters true t u (Some made) = refl
same_letters false t u None = refl
same_letters false t u (Some made) = refl

module _ (parts term : ℕ) (machine : Part) (l : Leading) (index : ℕ) where
  -- what is left of the leader: it is ready as the one with no chain, and its table follows
  abbrev left_by : Applies → Table → Applies
  left_by alone table = record { leading = record { ready = alone.leading.ready; policy = l.policy; table = table }; answers = alone.answers; rules = alone.rules }

  -- an entry, by its answer and the chain that begins
  pub entry_is : (m : Leading) (own : Bool) (x : PartEntry) (behind : Part × Applied) → on_entry term m own x behind ≡ entry_by m own x behind.1 (beginning_by term behind.1 (begun_behind behind.0 behind.1)) behind.0
  entry_is m own x behind = sym (entry_at term m m own x behind.0 behind.1 _ (begun_behind behind.0 behind.1) refl refl (began behind.0 behind.1))

  abbrev table_at : PartEntry → Part × Applied → Table
  table_at x behind = with_row (forgetting l.table behind.0 (chain_in x)) (row_begun l.ready term behind)

  entry_left : (own : Bool) (x : PartEntry) (behind : Part × Applied) → on_entry term l own x behind ≡ left_by (on_entry term (by_ready l.ready) own x behind) (table_at x behind)
  entry_left own x behind =
      let made : Option NewChain = beginning_by term behind.1 (begun_behind behind.0 behind.1) in
      let t : Table = forgetting l.table behind.0 (chain_in x) in
      let u : Table = forgetting (by_ready l.ready).table behind.0 (chain_in x) in
      let table : (begun_with l.ready t made).table ≡ with_row t (row_in l.ready made) = row_added l.ready t made in
      let rules : (begun_with l.ready t made).letters ≡ (begun_with l.ready u made).letters = same_letters l.ready t u made in
      let alone : (on_entry term (by_ready l.ready) own x behind).rules ≡ (begun_with l.ready u made).letters = ap (λ (a : Applies). a.rules) (entry_is (by_ready l.ready) own x behind) in
      entry_is l own x behind ∙ (λ i. record { leading = record { ready = l.ready; policy = l.policy; table = table i }; answers = answers_of own x behind.1; rules = (rules ∙ sym alone) i })

  -- what becomes of the table at an item
  abbrev table_behind : Proposal → Table
  table_behind (Made x) = table_at x (applied parts index x machine)
  table_behind other = l.table

  item_left : (own : Bool) (x : Proposal) → on_item_by parts term machine l index own x ≡ left_by (on_item_by parts term machine (by_ready l.ready) index own x) (table_behind x)
  item_left true Start = refl
  item_left false Start = refl
  item_left own (Members config) = refl
  item_left own (Made x) = entry_left own x (applied parts index x machine)
  item_left own Blank = refl

module _ (home : Home) (me term : ℕ) (senders : ℕ → Option Place) where
  abbrev address : ℕ → List Letter → List Packet
  address index = packets_of home.part me term (λ v. 0) (senders index)

  -- what items send, from an index on
  abbrev sent_from : Part → Bool → ℕ → List (ℕ × Proposal) → Sent
  sent_from machine ready index items = sent home me term senders machine ready index items

  -- items are worked off as what they send says, from any machine and leader
  abbrev AreWorked : ℕ → List (ℕ × Proposal) → Type 0
  AreWorked index items = (machine : Part) (l : Leading) → works home me term senders machine l index items ≡ worked_by home.parts machine l (entries_at index items) (sent_from machine l.ready index items)

  -- an item, before the others
  one_more : (index of : ℕ) (x : Proposal) (items : List (ℕ × Proposal)) (machine : Part) (l : Leading)
      → then_works (address index) (left_by home.parts term machine l index (on_item_by home.parts term machine (by_ready l.ready) index (of == term) x) (table_behind home.parts term machine l index x))
      (worked_by home.parts (item_applied home.parts index x machine).0
      (record l { ready = (on_item_by home.parts term machine (by_ready l.ready) index (of == term) x).leading.ready; table = table_behind home.parts term machine l index x })
      (entries_at (suc index) items)
      (sent_from (item_applied home.parts index x machine).0 (on_item_by home.parts term machine (by_ready l.ready) index (of == term) x).leading.ready (suc index) items))
      ≡ worked_by home.parts machine l (entries_at index ((of, x) ∷ items)) (sent_from machine l.ready index ((of, x) ∷ items))
  one_more index of Start items machine l = refl
  one_more index of (Members config) items machine l = refl
  one_more index of (Made x) items machine l = refl
  one_more index of Blank items machine l = refl

  pub works_is : (index : ℕ) (items : List (ℕ × Proposal)) → AreWorked index items
  works_is index [] machine l = refl
  works_is index (d ∷ items) machine l =
      let p : Part = (item_applied home.parts index d.1 machine).0 in
      let alone : Applies = on_item_by home.parts term machine (by_ready l.ready) index (d.0 == term) d.1 in
      let t : Table = table_behind home.parts term machine l index d.1 in
      ap (λ (a : Applies). then_works (address index) a (works home me term senders p a.leading (suc index) items)) (item_left home.parts term machine l index (d.0 == term) d.1)
      ∙ ap (then_works (address index) (left_by home.parts term machine l index alone t)) (works_is (suc index) items p (record l { ready = alone.leading.ready; table = t }))
      ∙ one_more index d.0 d.1 items machine l
