-- A replica that leads behind a Raft step: what it is, and what it sends, has its counterpart.
use Rattle.std.proofs.Common.{◌≡◌, ◌≢◌, ◌⊎◌, inl, inr, ℕ, suc, List, ◌++◌, take, drop, map, Option, None, Bool, true, false, sym, subst}
use Rattle.std.specs.Prelude.{not}
use Rattle.std.specs.List.{AllByRecursion, filter}
use Rattle.std.proofs.lemmas.Bool.{both_ways}
use Rattle.raft_log.specs.declared.entry.Entry.{Entry}
use Rattle.raft_core.specs.declared.input.RaftInput.{RaftInput}
use Rattle.raft_core.specs.Core.{Core, is_leading}
use Rattle.raft_core.specs.Step.{stepped as raft_stepped}
use Rattle.raft_core.proofs.Lists.{all_both, all_of-map, all_through-map, all_of-filter}
use Rattle.raft_group.specs.Group.{Group, Round, rounds_after}
use Rattle.raft_group.specs.Facts.{ConfirmsWell}
use Rattle.part_rules.specs.Part.{Part}
use Rattle.chain_leader.specs.declared.letter.Letter.{Letter}
use Rattle.chain_leader.specs.Leading.{Leading}
use Rattle.chain_world.specs.declared.event.ChainEvent.{ChainEvent}
use Rattle.chain_world.specs.State.{Chains, Post as ChainPost}
use Rattle.chain_world.specs.World.{is_part, run_from}
use Rattle.replica_model.specs.declared.packet.Place.{Place}
use Rattle.replica_model.specs.declared.packet.Packet.{Packet}
use Rattle.replica_model.specs.Spelling.{values_of}
use Rattle.replica_model.specs.Replica.{Row}
use Rattle.replica_model.specs.Letters.{Worked, works, packets_of}
use Rattle.replica_model.specs.Stepped.{Leaving, leaving, Stepped, Led, message_of, answer_row, is_confirmed, leaves_of, raft_behind}
use Rattle.replica_model.specs.declared.input.Tick.{Tick}
use Rattle.world_model.specs.State.{Space, home_of, moment_in}
use Rattle.world_model.specs.After.{ledger_behind}
use Rattle.world_model.specs.Grouped.{Has}
use Rattle.world_model.specs.Chained.{HasLike, HasMade, HasLeaders, HasNoOther, HasOwn, IsRow, IsLeader, IsReplica}
use Rattle.world_model.proofs.Sending.{Like, IsSentThere, rules_like}
use Rattle.world_model.proofs.Heading.{Finished}
use Rattle.world_model.proofs.Ready.{works_ready, own_new}
use Rattle.world_model.proofs.Rows.{rows_answered}
use Rattle.world_model.proofs.Backed.{Backed}

-- What a step of a replica leaves, in the world of chains.
pub record Followed (sp : Space) (told : ℕ → Tick → Type 0) (p : ℕ) (c : Chains) (h : Group) (asked_at : ℕ → ℕ → ℕ) (st : Stepped) : Type 0 where
  pub events : List ChainEvent
  pub chains : Chains
  pub is : run_from sp.ids sp.parts c events ≡ chains
  pub backed : AllByRecursion (Backed told) events
  pub ledger : chains.ledger ≡ ledger_behind sp c.ledger p st.replica.core
  pub founded : chains.founded ≡ c.founded
  pub clients : chains.clients ≡ c.clients
  pub others : (q u : ℕ) → (q ≢ p) ⊎ ((u ≢ st.replica.core.term) ⊎ (is_leading st.replica.core.role ≡ false)) → chains.leaders q u ≡ c.leaders q u
  pub posts : (x : ChainPost) → Has c.posts x → Has chains.posts x
  pub made : HasMade sp chains p h.leaders
  pub led : HasLeaders chains p h.leaders
  pub unled : HasNoOther chains p h.leaders
  pub replica : IsReplica sp chains h.rounds asked_at p st.replica
  pub mail : AllByRecursion (λ (l : Leaving). HasLike chains.posts l.packet.from l.packet.to l.packet.body (moment_in (asked_at st.replica.core.term) l.round)) st.leaves

module _ (sp : Space) (told : ℕ → Tick → Type 0) (p : ℕ) (part : is_part sp.parts p ≡ true) (c : Chains) (h : Group) (core : Core) (asked : RaftInput) (leading : is_leading (raft_stepped core asked).core.role ≡ true)
    (old_rounds : List Round) (decided : List Entry) (rounds_are : h.rounds ≡ rounds_after old_rounds decided core (raft_stepped core asked).core) (well : ConfirmsWell (rounds_after old_rounds decided core (raft_stepped core asked).core) (raft_stepped core asked).core)
    (ours : ℕ → Option Place) (hints : ℕ → ℕ) (rows : List Row) (lead : Leading) (ready : lead.ready ≡ true → HasOwn (raft_stepped core asked).core) (again : List Letter) (machine : Part) (on : Bool) (me : ℕ) (asked_at : ℕ → ℕ → ℕ) where
  abbrev behind : Core
  behind = (raft_stepped core asked).core

  abbrev worked : Worked
  worked = works (home_of sp p) me behind.term ours machine lead (suc core.commit) (values_of sp.spelling (drop core.commit (take behind.commit behind.log)))

  abbrev pub the_led : Led
  the_led = record { on = on; senders = ours; hints = hints; rows = rows; worked = worked; again = again }

  module _ (f : Finished sp told p part c h behind lead ours core.commit again worked)
      (are : AllByRecursion (IsRow f.chains.posts (rounds_after old_rounds decided core behind) (asked_at behind.term) behind) rows) where
    abbrev HasIt : Leaving → Type 0
    HasIt l = HasLike f.chains.posts l.packet.from l.packet.to l.packet.body (moment_in (asked_at behind.term) l.round)

    left : (packets : List Packet) → AllByRecursion (Like f.chains.posts p behind.term) packets → AllByRecursion HasIt (map leaving packets)
    left packets all = all_through-map (Like f.chains.posts p behind.term) HasIt leaving (λ packet is. is) packets all

    step_mail : AllByRecursion HasIt (leaves_of (home_of sp p) me (raft_stepped core asked) the_led)
    step_mail =
        let a = map leaving (map (message_of p me) (raft_stepped core asked).sends) in
        let b = map leaving worked.answers in
        let r = map (answer_row p me) (filter (is_confirmed (raft_stepped core asked).confirmed) rows) in
        let d = map leaving (packets_of p me behind.term hints None (worked.rules ++ again)) in
        let P : Leaving → Type 0 = HasIt in
        all_both P ((a ++ b) ++ r) d
        (all_both P (a ++ b) r
        (all_both P a b
        (left (map (message_of p me) (raft_stepped core asked).sends) (all_of-map (Like f.chains.posts p behind.term) (message_of p me) (λ send. tt) (raft_stepped core asked).sends))
        (left worked.answers f.answers))
        (rows_answered old_rounds decided core behind leading f.chains.posts (asked_at behind.term) p me well rows are))
        (left (packets_of p me behind.term hints None (worked.rules ++ again))
        (rules_like f.chains.posts p behind.term me hints (worked.rules ++ again) (all_both (IsSentThere f.chains.posts p behind.term) worked.rules again f.rules f.sent)))

    is_leader : IsLeader sp f.chains h.rounds asked_at p (raft_behind (home_of sp p) me (raft_stepped core asked) the_led).replica
    is_leader = record {
      leader = f.leader;
      is = f.here;
      lead = f.lead_is;
      applied = f.applied_is;
      senders = f.kept;
      ready = λ is. elim (works_ready (home_of sp p) me behind.term ours machine lead (suc core.commit) (values_of sp.spelling (drop core.commit (take behind.commit behind.log))) is) [
        | inl old ↦ ready old
        | inr new ↦ own_new sp behind core.commit new.0 new.1 new.2 new.3
      ];
      rows = subst (λ xs. AllByRecursion (IsRow f.chains.posts xs (asked_at behind.term) behind) (filter (λ (row : Row). not (is_confirmed (raft_stepped core asked).confirmed row)) rows)) (sym rounds_are)
          (all_of-filter (IsRow f.chains.posts (rounds_after old_rounds decided core behind) (asked_at behind.term) behind) (λ (row : Row). not (is_confirmed (raft_stepped core asked).confirmed row)) rows are);
    }

    pub followed : Followed sp told p c h asked_at (raft_behind (home_of sp p) me (raft_stepped core asked) the_led)
    followed = record {
      events = f.events;
      chains = f.chains;
      is = f.is;
      backed = f.backed;
      ledger = f.ledger;
      founded = f.founded;
      clients = f.clients;
      others = λ q u other. elim other [
        | inl q_off ↦ f.others q u (inl q_off)
        | inr rest ↦ elim rest [ inl u_off ↦ f.others q u (inr u_off) | inr off ↦ absurd (both_ways (is_leading behind.role) off leading) ]
      ];
      posts = f.posts;
      made = f.made;
      led = f.led;
      unled = f.unled;
      replica = record { part = part; leads = λ l. is_leader; follows = λ off. absurd (both_ways (is_leading behind.role) off leading) };
      mail = step_mail;
    }
