-- A step that is none of the peer's: the chains stand still, or take one event of a leader.
use Rattle.std.proofs.Common.{◌≡◌, inl, inr, ℕ, ◌≤◌, List, [], length, None, true, refl, ap, sym, subst, ◌∙◌, arith, append-nil}
use Rattle.std.specs.List.{AllByRecursion}
use Rattle.std.proofs.lemmas.Bool.{both_ways}
use Rattle.std.proofs.lemmas.List.{length-map}
use Rattle.raft_log.specs.Decided.{Leadership, count_term}
use Rattle.raft_log.specs.declared.entry.Item.{Item}
use Rattle.raft_core.specs.Core.{Core, is_leading}
use Rattle.raft_core.proofs.Lists.{all_weaker, all_through-map}
use Rattle.raft_group.specs.Group.{Group}
use Rattle.raft_group.specs.Facts.{GroupFacts, LeadsBy, StandsAt, pairs_of}
use Rattle.chain_leader.specs.Leading.{Leading, Taken}
use Rattle.chain_world.specs.State.{Chains, made_by}
use Rattle.chain_world.specs.World.{is_part}
use Rattle.replica_model.specs.Spelling.{value_of, valued, values_of}
use Rattle.replica_model.specs.Replica.{Replica}
use Rattle.replica_model.specs.Letters.{packets_of}
use Rattle.replica_model.specs.Stepped.{Leaving, leaving, still, rules_behind}
use Rattle.replica_model.specs.declared.input.Tick.{Tick}
use Rattle.world_model.specs.State.{Space, home_of, moment_in}
use Rattle.world_model.specs.After.{ledger_behind}
use Rattle.world_model.specs.Chained.{HasLike, HasMade, HasLeaders, HasNoOther, IsRow, IsLeader, IsReplica}
use Rattle.world_model.proofs.Sending.{Like, rules_like}
use Rattle.world_model.proofs.Preparing.{Prepared}
use Rattle.world_model.proofs.Making.{made_here, made_stays, led_stays, unled_stays}
use Rattle.world_model.proofs.Calling.{row_on, replica_on}
use Rattle.world_model.proofs.Keeping.{count_log, kept_on}
use Rattle.world_model.proofs.Resting.{stays_if, low_passes}
use Rattle.world_model.proofs.Following.{Followed}

module _ (sp : Space) (told : ℕ → Tick → Type 0) (p y : ℕ) (part : is_part sp.parts p ≡ true) (g : Group) (facts : GroupFacts g) (c : Chains) (was asked_at : ℕ → ℕ → ℕ) (same : (t round : ℕ) → asked_at t round ≡ was t round) (r : Replica) (core_is : g.core y ≡ r.core) (listed : c.ledger.decided p ≡ values_of sp.spelling g.decided)
    (made : HasMade sp c p g.leaders) (led : HasLeaders c p g.leaders) (unled : HasNoOther c p g.leaders) (replica : IsReplica sp c g.rounds was p r) where
  low : r.core.commit ≤ length (c.ledger.decided p)
  low = (let a = (facts.agrees y).within in
      let b = ap (λ (x : Core). x.commit) core_is in
      let d = ap length listed ∙ length-map g.decided (valued sp.spelling) in
      omega arith)

  ledger_stays : c.ledger ≡ ledger_behind sp c.ledger p r.core
  ledger_stays = sym (stays_if sp c.ledger p r.core (low_passes c.ledger p r.core low))

  -- nothing but hints changes, and what leaves has its counterpart
  pub follow_still : (hints : ℕ → ℕ) (leaves : List Leaving) → AllByRecursion (λ (l : Leaving). HasLike c.posts l.packet.from l.packet.to l.packet.body (moment_in (asked_at r.core.term) l.round)) leaves
      → Followed sp told p c g asked_at (still (record r { hints = hints }) leaves)
  follow_still hints leaves mail = record {
    events = [];
    chains = c;
    is = refl;
    backed = tt;
    ledger = ledger_stays;
    founded = refl;
    clients = refl;
    others = λ q u other. refl;
    posts = λ x has. has;
    made = made;
    led = led;
    unled = unled;
    replica = record {
      part = part;
      leads = λ is. (let old = (replica_on sp c c g.rounds g.rounds p r was asked_at (λ x has. has) (λ x has. has) (λ led. refl) (λ led. same r.core.term) replica).leads is in
          record { leader = old.leader; is = old.is; lead = old.lead; applied = old.applied; senders = old.senders; ready = old.ready; rows = old.rows });
      follows = λ off. record { rows = (replica.follows off).rows };
    };
    mail = mail;
  }

  -- the leader's rules alone
  module _ (is : is_leading r.core.role ≡ true) (tk : Taken) (pre : Prepared sp told p r.core.term part c (replica.leads is).leader (replica.leads is).is tk.leading [] None tk.letters) where
    old_leader : IsLeader sp c g.rounds was p r
    old_leader = replica.leads is

    its : (k : ℕ) × (l : Leadership Item) × StandsAt g.leaders k l × LeadsBy r.core l
    its = (let x = facts.leads y (ap (λ (w : Core). is_leading w.role) core_is ∙ is) in (x.0, x.1, x.2, subst (λ (w : Core). LeadsBy w x.1) core_is x.3))

    counted : count_term (pairs_of r.core.log) r.core.term ≡ length (replica.leads is).leader.made
    counted =
        count_log r.core its.1 its.3 ∙ sym (length-map its.1.made (value_of sp.spelling))
        ∙ ap length (made its.0 its.1 its.2 ∙ ap (made_by c p) its.3.term ∙ made_here c p r.core.term (replica.leads is).leader its.3.above (replica.leads is).is)

    same_made : pre.leader.made ≡ (replica.leads is).leader.made
    same_made = pre.made ∙ append-nil (replica.leads is).leader.made

    pub follow_rules : Followed sp told p c g asked_at (rules_behind (home_of sp p) r tk)
    follow_rules = record {
      events = pre.events;
      chains = pre.behind;
      is = pre.is;
      backed = pre.backed;
      ledger = pre.moves.ledger ∙ ledger_stays;
      founded = pre.moves.founded;
      clients = pre.moves.clients;
      others = λ q u other. elim other [
        | inl q_off ↦ pre.moves.others q u (inl q_off)
        | inr rest ↦ elim rest [ inl u_off ↦ pre.moves.others q u (inr u_off) | inr off ↦ absurd (both_ways (is_leading r.core.role) off is) ]
      ];
      posts = pre.moves.posts;
      made = λ k l at. made k l at ∙ sym (made_stays c pre.behind p r.core.term (replica.leads is).leader pre.leader (replica.leads is).is pre.moves same_made l.term);
      led = λ k l at above. led_stays c pre.behind p r.core.term (replica.leads is).leader pre.leader (replica.leads is).is pre.moves same_made l.term (led k l at above);
      unled = λ t none. unled_stays c pre.behind p r.core.term (replica.leads is).leader pre.leader (replica.leads is).is pre.moves same_made t (unled t none);
      replica = record {
        part = part;
        leads = λ again. record {
          leader = pre.leader;
          is = pre.moves.here;
          lead = pre.lead_is;
          applied = pre.applied_is ∙ (replica.leads is).applied;
          senders = λ n s given. kept_on sp r.core r.core refl [] (sym (append-nil r.core.log)) (replica.leads is).leader.senders pre.leader.senders (length (replica.leads is).leader.made) counted pre.others n s ((replica.leads is).senders n s given);
          ready = λ e. (replica.leads is).ready (sym (pre.ready ∙ ap (λ (l : Leading). l.ready) (replica.leads is).lead) ∙ e);
          rows = all_weaker (IsRow c.posts g.rounds (was r.core.term) r.core) (IsRow pre.behind.posts g.rounds (asked_at r.core.term) r.core)
              (row_on sp c pre.behind g.rounds g.rounds p r was asked_at pre.moves.posts (λ x has. has) (same r.core.term)) r.rows (replica.leads is).rows;
        };
        follows = λ off. absurd (both_ways (is_leading r.core.role) off is);
      };
      mail = all_through-map (Like pre.behind.posts p r.core.term) (λ (l : Leaving). HasLike pre.behind.posts l.packet.from l.packet.to l.packet.body (moment_in (asked_at r.core.term) l.round)) leaving (λ packet like. like)
          (packets_of p r.core.me r.core.term r.hints None tk.letters) (rules_like pre.behind.posts p r.core.term r.core.me r.hints tk.letters pre.sent);
    }
