-- What is committed is what the machine takes.
use Rattle.std.proofs.Common.{◌≡◌, ℕ, suc, ◌+◌, ◌<◌, ◌^◌, true, Bool, List, length, refl, ap, sym, subst, ◌∙◌, arith}
use Rattle.std.specs.List.{AllByRecursion}
use Rattle.std.proofs.lemmas.List.{length-map}
use Rattle.kv_part.specs.Store.{Contents}
use Rattle.part_keys.specs.declared.proposal.Proposal.{Proposal}
use Rattle.part_machine.specs.Laws.{PayloadsAreTaken}
use Rattle.part_machine.specs.Playing.{AreTaken}
use Rattle.part_store.specs.declared.setting.Setting.{Setting}
use Rattle.raft_log.specs.declared.entry.Entry.{Entry}
use Rattle.replica_model.specs.Asks.{are_entries}
use Rattle.replica_model.specs.Spelling.{valued, values_of}
use Rattle.replica_state.specs.Written.{IsWritten}
use Rattle.replica_peer.specs.Peer.{home_of, replica_of, setting_of, IsReplica}
use Rattle.replica_peer.specs.Worked.{entries_at}
use Rattle.replica_peer.specs.declared.peer.Peer.{Peer}
use Rattle.replica_peer.proofs.EntriesAt.{taken_entries}
use Rattle.replica_peer.proofs.Written.{are_written}

module _ {S : Type 0} (meaning : S → Contents) (has_at : S → List ℕ → Bool) (a : Peer S) (sound : IsReplica meaning has_at a) (log : List Entry) where
  abbrev items : List (ℕ × Proposal)
  items = values_of (home_of a).spelling log

  abbrev first : ℕ
  first = suc (replica_of a).core.commit

  pub not_far : (list : List (ℕ × Proposal)) → list ≡ items → first + length log < 2 ^ 64 → first + length list < 2 ^ 64
  not_far list is small = let count : length list ≡ length log = ap (λ (ds : List (ℕ × Proposal)). length ds) is ∙ length-map log (valued (home_of a).spelling) in omega arith

  pub reserved : PayloadsAreTaken → are_entries (home_of a) log ≡ true → (list : List (ℕ × Proposal)) → list ≡ items → AllByRecursion (λ (value : ℕ × Proposal). IsWritten value.1) list → first + length log < 2 ^ 64
      → AreTaken a.machine.setting a.machine.next (entries_at first list)
  reserved law are list is written small =
      let all = subst (AllByRecursion (λ (value : ℕ × Proposal). IsWritten value.1)) is written in
      subst (λ (s : Setting). AreTaken s a.machine.next (entries_at first list)) (sym sound.setting)
      (subst (λ (ds : List (ℕ × Proposal)). AreTaken (setting_of a.state.whose) a.machine.next (entries_at first ds)) (sym is)
      (taken_entries (setting_of a.state.whose) law items first (are_written (setting_of a.state.whose) log are all) (not_far items refl small) a.machine.next sound.next))
