-- What a peer shows behind what becomes of it.
use Rattle.std.proofs.Common.{◌≡◌, ℕ, suc, ◌≤◌, Bool, List, [], refl, sym, subst, ap, ◌∙◌}
use Rattle.kv_part.specs.Store.{Contents}
use Rattle.part_keys.specs.declared.entry.PartEntry.{PartEntry}
use Rattle.part_rules.specs.Part.{Part}
use Rattle.part_machine.specs.Machine.{IsMachine}
use Rattle.part_machine.specs.declared.machine.Machine.{Machine}
use Rattle.replica_model.specs.Replica.{Replica, machine_of}
use Rattle.replica_peer.specs.Next.{goes_to, ShowsNext}
use Rattle.replica_peer.specs.Peer.{home_of, replica_of}
use Rattle.replica_peer.specs.Room.{GoesWithMachine}
use Rattle.replica_peer.specs.declared.next.Next.{Next}
use Rattle.replica_peer.specs.declared.next.Next.TheVariants as next
use Rattle.replica_peer.specs.declared.peer.Peer.{Peer}

module _ {S : Type 0} (meaning : S → Contents) (has_at : S → List ℕ → Bool) (a : Peer S) (reserved : List (ℕ × PartEntry)) (machine : Machine S) (behind : Replica) where
  -- the machine of a replica, with some entries reserved, that hasn't come too far
  pub record ShowsReplica : Type 0 where
    pub left : List (ℕ × PartEntry)
    pub shows : IsMachine meaning has_at (machine_of (home_of a) behind) left machine
    pub next : machine.next ≤ suc behind.core.commit

  stays : (r : Replica) → machine_of (home_of a) r ≡ machine_of (home_of a) (replica_of a) → r.core.commit ≡ (replica_of a).core.commit → r ≡ behind → a.machine.next ≤ suc (replica_of a).core.commit
      → IsMachine meaning has_at (machine_of (home_of a) (replica_of a)) reserved machine × (machine.next ≡ a.machine.next) → ShowsReplica
  stays r same commit goes upto shown = record {
    left = reserved;
    shows = subst (λ (p : Part). IsMachine meaning has_at p reserved machine) (sym same ∙ ap (machine_of (home_of a)) goes) shown.0;
    next = subst (λ n. n ≤ suc behind.core.commit) (sym shown.1) (subst (λ n. a.machine.next ≤ suc n) (sym commit ∙ ap (λ (x : Replica). x.core.commit) goes) upto);
  }

  pub shown_by : (n : Next) → goes_to (home_of a) (replica_of a) n ≡ behind → GoesWithMachine a n behind → a.machine.next ≤ suc (replica_of a).core.commit
      → ShowsNext meaning has_at a n reserved machine → ShowsReplica
  shown_by next.Stays goes fits upto shown = stays (replica_of a) refl refl goes upto shown
  shown_by (next.Points v peer) goes fits upto shown = stays (goes_to (home_of a) (replica_of a) (next.Points v peer)) refl refl goes upto shown
  shown_by (next.Resumes made told) goes fits upto shown = stays (goes_to (home_of a) (replica_of a) (next.Resumes made told)) refl refl goes upto shown
  shown_by (next.Steps s) goes fits upto shown = record {
    left = [];
    shows = subst (λ (p : Part). IsMachine meaning has_at p [] machine) (sym fits.0) shown.0;
    next = subst (λ n. n ≤ suc behind.core.commit) (sym shown.1) fits.1;
  }
