-- Steps that are made ahead without the Raft peer.
use Rattle.std.proofs.Common.{◌≡◌, ℕ, suc, ◌≤◌, Bool, true, false, List, [], map, None, refl, ap, sym, subst, ◌∙◌}
use Rattle.std.specs.Prelude.{not, if◌then◌else◌, ◌||◌}
use Rattle.std.specs.FinMap.{contains_key}
use Rattle.kv_part.specs.Store.{Contents}
use Rattle.part_rules.specs.Part.{Part}
use Rattle.part_store.specs.declared.setting.Setting.{Setting}
use Rattle.part_machine.specs.Machine.{IsMachine}
use Rattle.part_machine.specs.declared.machine.Machine.{Machine}
use Rattle.raft_core.specs.Core.{Core}
use Rattle.raft_core.specs.Durable.{durable}
use Rattle.raft_core.specs.Peer.{Peer as RaftPeer, core_of}
use Rattle.chain_leader.specs.Leading.{still}
use Rattle.replica_model.specs.Asks.{are_entries, Nothing, Leads}
use Rattle.replica_model.specs.Laws.{HintsStand}
use Rattle.replica_model.specs.Letters.{used}
use Rattle.replica_model.specs.Replica.{Home, Replica, machine_of}
use Rattle.replica_model.specs.Stepped.{Stepped, does}
use Rattle.replica_model.specs.declared.input.Input.{Input}
use Rattle.replica_state.specs.Leaving.{leaving_of}
use Rattle.replica_state.specs.declared.leaving.Leaving.{Leaving}
use Rattle.replica_peer.specs.Next.{goes_to, FitsNext}
use Rattle.replica_peer.specs.Peer.{home_of, replica_of, IsReplica}
use Rattle.replica_peer.specs.Room.{GoesWithMachine, IsRoomOf, IsSame}
use Rattle.replica_peer.specs.declared.next.Next.{Next}
use Rattle.replica_peer.specs.declared.peer.Peer.{Peer}

module _ {S : Type 0} (meaning : S → Contents) (has_at : S → List ℕ → Bool) where
  -- a room of a step that changes nothing of the Raft peer
  pub room_beside : (a : Peer S) → IsReplica meaning has_at a → (st : Stepped) (leaves : List Leaving) (n : Next)
      → st.kept ≡ None → st.change ≡ None → map leaving_of leaves ≡ st.leaves → goes_to (home_of a) (replica_of a) n ≡ st.replica
      → st.replica.core ≡ (replica_of a).core → FitsNext meaning has_at a n → GoesWithMachine a n st.replica
      → IsRoomOf meaning has_at a st (record { kept = None; leaves = leaves; change = None; next = n })
  room_beside a sound st leaves n kept change left goes core fits machine = record {
    kept = sym kept;
    leaves = left;
    change = sym change;
    items = tt;
    durable = ap durable core;
    next = goes;
    fits = fits;
    machine = machine;
    entries = ap (λ (c : Core). are_entries (home_of a) c.log) core ∙ sound.entries;
  }

  -- what stays the same is sound
  abbrev setting_at : Home → Setting
  setting_at h = record { ids = h.ids; parts = h.parts; part = h.part }

  pub same_sound : (a b : Peer S) → IsReplica meaning has_at a → IsSame meaning has_at a b → IsReplica meaning has_at b
  same_sound a b was same =
      let shown = same.shows (machine_of (home_of a) (replica_of a)) was.reserved was.shows in
      record {
        setting = same.setting ∙ was.setting ∙ sym (ap setting_at same.home);
        reserved = shown.0;
        shows = subst (λ (p : Part). IsMachine meaning has_at p shown.0 b.machine) (sym (λ i. machine_of (same.home i) (same.replica i))) shown.1;
        next = subst (λ n. n ≤ suc (replica_of b).core.commit) (sym same.next) (subst (λ (r : Replica). a.machine.next ≤ suc r.core.commit) (sym same.replica) was.next);
        entries = (λ i. are_entries (same.home i) (same.replica i).core.log) ∙ was.entries;
        hints = subst HintsStand (sym same.replica) was.hints;
      }

  -- what stays the same but for its machine's room, and then but for the room beside it
  pub same_beside : (a b c : Peer S) → IsSame meaning has_at a b → c.machine ≡ b.machine → replica_of c ≡ replica_of b → home_of c ≡ home_of b → IsSame meaning has_at a c
  same_beside a b c same machine replica home = record {
    replica = replica ∙ same.replica;
    home = home ∙ same.home;
    setting = ap (λ (m : Machine S). m.setting) machine ∙ same.setting;
    next = ap (λ (m : Machine S). m.next) machine ∙ same.next;
    shows = λ p entries is. let shown = same.shows p entries is in (shown.0, subst (IsMachine meaning has_at p shown.0) (sym machine) shown.1);
  }

  pub same_then : (a b c : Peer S) → IsSame meaning has_at a b → IsSame meaning has_at b c → IsSame meaning has_at a c
  same_then a b c first second = record {
    replica = second.replica ∙ first.replica;
    home = second.home ∙ first.home;
    setting = second.setting ∙ first.setting;
    next = second.next ∙ first.next;
    shows = λ p entries is. let shown = first.shows p entries is in second.shows p shown.0 shown.1;
  }

  -- a Raft peer that is the same, with other room
  pub core_same : (a : Peer S) (core : RaftPeer) → core_of core ≡ core_of a.state.core → IsSame meaning has_at a (record a { state = record a.state { core = core } })
  core_same a core same = record {
    replica = λ j. record (replica_of a) { core = same j };
    home = refl;
    setting = refl;
    next = refl;
    shows = λ p entries is. (entries, is);
  }

-- no letter, and no chain that leaves: no hint is used up
quiet_hint : (r : Replica) → HintsStand r → (v : ℕ) → used r.hints r.lead.table [] v ≡ r.hints v
quiet_hint r stand v = by (contains_key r.lead.table v) refl
  where
    by : (b : Bool) → contains_key r.lead.table v ≡ b → (if false || not b then 0 else r.hints v) ≡ r.hints v
    by true there = refl
    by false gone = sym (stand v gone)

pub quiet_is_nothing : (home : Home) (r : Replica) (i : Input) → HintsStand r → does home r i (Leads (still r.lead)) ≡ does home r i Nothing
quiet_is_nothing home r i stand = λ j. record {
  replica = record r { hints = λ v. quiet_by v j };
  kept = None;
  leaves = [];
  change = None;
}
  where
    quiet_by : (v : ℕ) → used r.hints r.lead.table [] v ≡ r.hints v
    quiet_by v = quiet_hint r stand v
