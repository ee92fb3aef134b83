-- The entries among items, for the machine.
use Rattle.std.proofs.Common.{◌≡◌, ℕ, suc, ◌+◌, ◌≤◌, ◌<◌, ◌-◌, ◌^◌, List, [], ◌∷◌, length, refl, ◌∙◌, arith}
use Rattle.part_keys.specs.declared.proposal.Proposal.{Proposal}
use Rattle.part_keys.specs.declared.proposal.Proposal.TheVariants.{Start, Members, Made, Blank}
use Rattle.part_rules.specs.Part.{Part}
use Rattle.part_rules.specs.Folded.{item_applied, folded_from}
use Rattle.part_store.specs.declared.setting.Setting.{Setting}
use Rattle.part_machine.specs.Laws.{PayloadsAreTaken}
use Rattle.part_machine.specs.Playing.{behind, AreTaken}
use Rattle.replica_peer.specs.Placed.{IsWrittenItem, AreWritten}
use Rattle.replica_peer.specs.Worked.{and_entry, entries_at}

module _ (s : Setting) where
  -- the part behind items is the one behind their entries
  item_behind : (index : ℕ) (x : Proposal) (items : List (ℕ × Proposal)) (p : Part) → behind s (item_applied s.parts index x p).0 (entries_at (suc index) items) ≡ behind s p (and_entry index x (entries_at (suc index) items))
  item_behind index Start items p = refl
  item_behind index (Members config) items p = refl
  item_behind index (Made x) items p = refl
  item_behind index Blank items p = refl

  pub folded_entries : (index : ℕ) (p : Part) (items : List (ℕ × Proposal)) → folded_from s.parts index p items ≡ behind s p (entries_at index items)
  folded_entries index p [] = refl
  folded_entries index p (d ∷ items) = folded_entries (suc index) (item_applied s.parts index d.1 p).0 items ∙ item_behind index d.1 items p

  -- entries that are taken from an index are taken from a smaller one
  taken_before : (next index : ℕ) → next ≤ index → (items : List (ℕ × Proposal)) (x : Proposal) → PayloadsAreTaken → IsWrittenItem s x → index < 2 ^ 64 - 1
      → ((first : ℕ) → first ≤ suc index → AreTaken s first (entries_at (suc index) items)) → AreTaken s next (and_entry index x (entries_at (suc index) items))
  taken_before next index risen items Start law is small rest = rest next (omega arith)
  taken_before next index risen items (Members config) law is small rest = rest next (omega arith)
  taken_before next index risen items (Made x) law is small rest = (record { risen = risen; small = small }, law s x is.payload is.spelled is.edges, rest (suc index) (omega arith))
  taken_before next index risen items Blank law is small rest = rest next (omega arith)

  -- the entries among items are taken by the machine, from an index on that isn't behind the first one's
  pub taken_entries : PayloadsAreTaken → (items : List (ℕ × Proposal)) (index : ℕ) → AreWritten s items → index + length items < 2 ^ 64 → (next : ℕ) → next ≤ index → AreTaken s next (entries_at index items)
  taken_entries law [] index are small next risen = tt
  taken_entries law (d ∷ items) index are small next risen =
      let less : suc index + length items < 2 ^ 64 = omega arith in
      taken_before next index risen items d.1 law are.0 (omega arith) (λ first after. taken_entries law items (suc index) are.1 less first after)
