-- Two facts for the joining: a part never has two replicas that lead one term, and a replica that doesn't lead is asked for
-- no rule of a leader.
use Rattle.std.proofs.Common.{◌≡◌, ◌≢◌, ◌⊎◌, inl, inr, ℕ, Option, Some, None, Bool, true, false, refl, ap, sym, subst, ◌∙◌}
use Rattle.std.specs.Prelude.{◌==◌, ◌&&◌, nat_lt, slice_get}
use Rattle.std.proofs.lemmas.Bool.{cond_both, cond-false}
use Rattle.std.proofs.lemmas.Option.{same_Some}
use Rattle.member_change.specs.Permit.{member_in}
use Rattle.raft_log.specs.declared.message.RaftMsg.{RaftMsg}
use Rattle.raft_core.specs.declared.input.RaftInput.TheVariants as raft
use Rattle.raft_core.specs.Core.{Core, is_leading}
use Rattle.raft_group.specs.Group.{Group}
use Rattle.raft_group.specs.Facts.{GroupFacts}
use Rattle.chain_leader.specs.declared.body.About.{About}
use Rattle.chain_leader.specs.Leading.{given_up}
use Rattle.replica_model.specs.declared.packet.Place.{Place}
use Rattle.replica_model.specs.declared.packet.Place.TheVariants as place
use Rattle.replica_model.specs.declared.packet.Body.{Body}
use Rattle.replica_model.specs.declared.packet.Body.TheVariants as body
use Rattle.replica_model.specs.declared.input.Tick.{Tick}
use Rattle.replica_model.specs.declared.input.Tick.TheVariants as tick
use Rattle.replica_model.specs.declared.input.Input.{Input}
use Rattle.replica_model.specs.declared.input.Input.TheVariants as input
use Rattle.replica_model.specs.Replica.{Home, Replica, leads}
use Rattle.replica_model.specs.Asks.{Asks, Nothing, Refuses, Points, Leads, Raft, Reads, asks, asks_tick, asks_message, asks_body, asks_leader, hint_in, read_in, may_hear, offers, refuses, about_in}

-- peers that lead one term are one
pub leads_once : (g : Group) → GroupFacts g → (y z : ℕ) → is_leading (g.core y).role ≡ true → is_leading (g.core z).role ≡ true → (g.core y).term ≡ (g.core z).term → y ≡ z
leads_once g facts y z a b same =
    let l = facts.leads y a in
    let m = facts.leads z b in
    let place = facts.one_a_term l.0 m.0 l.1 m.1 l.2 m.2 (l.3.term ∙ same ∙ sym m.3.term) in
    let one = same_Some l.1 m.1 (sym l.2 ∙ ap (slice_get g.leaders) place ∙ m.2) in
    sym (facts.named y) ∙ sym l.3.peer ∙ ap (λ x. x.peer) one ∙ m.3.peer ∙ facts.named z

-- so another peer that leads is of another term
pub leads_apart : (g : Group) → GroupFacts g → (y z : ℕ) → z ≢ y → (core behind : Core) → g.core z ≡ core → g.core y ≡ behind → is_leading core.role ≡ true
    → (core.term ≢ behind.term) ⊎ (is_leading behind.role ≡ false)
leads_apart g facts y z other core behind at_z at_y led = go (is_leading behind.role) refl
  where
    go : (b : Bool) → is_leading behind.role ≡ b → (core.term ≢ behind.term) ⊎ (is_leading behind.role ≡ false)
    go false e = inr e
    go true e = inl (λ same. other (leads_once g facts z y (ap (λ (x : Core). is_leading x.role) at_z ∙ led) (ap (λ (x : Core). is_leading x.role) at_y ∙ e)
        (ap (λ (x : Core). x.term) at_z ∙ same ∙ sym (ap (λ (x : Core). x.term) at_y))))

-- at a replica that doesn't lead
abbrev pub IsNoRule : Asks → Type 0
IsNoRule Nothing = Unit {0}
IsNoRule (Refuses from other) = Unit {0}
IsNoRule (Raft asked lead sender) = Unit {0}
IsNoRule (Points v hint) = ⊥
IsNoRule (Leads tk) = ⊥
IsNoRule (Reads id query) = ⊥

module _ (home : Home) (r : Replica) (off : leads r ≡ false) where
  no_refusal : (from : Place) (other : Option About) → IsNoRule (refuses from other)
  no_refusal from None = tt
  no_refusal from (Some other) = tt

  no_tick : (t : Tick) → IsNoRule (asks_tick home r t)
  no_tick (tick.Elect policy) = tt
  no_tick tick.Pulse = tt
  no_tick (tick.GiveUp id) = subst IsNoRule (sym (cond-false (leads r) (offers home.spelling (given_up r.lead id) None) Nothing off)) tt
  no_tick (tick.Transfer peer) = tt
  no_tick (tick.Change change) = cond_both (nat_lt 0 (member_in change)) (Raft (raft.Change change) r.lead None) Nothing IsNoRule (λ named. tt) (λ unnamed. tt)

  no_message : (from : Place) (m : RaftMsg) → IsNoRule (asks_message home r from m)
  no_message (place.Client n) m = tt
  no_message (place.Peer q a) m = cond_both ((q == home.part) && may_hear home m) (Raft (raft.Msg a m) r.lead None) Nothing IsNoRule (λ own. tt) (λ not_own. tt)

  no_body : (from : Place) (b : Body) → IsNoRule (asks_body home r from b)
  no_body from (body.Raft m) = no_message from m
  no_body from (body.Chain said) = subst IsNoRule (sym (cond-false (leads r) (asks_leader home r from said (hint_in said) (read_in said)) (refuses from (about_in home from said)) off)) (no_refusal from (about_in home from said))

  pub no_rule : (i : Input) → IsNoRule (asks home r i)
  no_rule (input.Sent packet) = no_body packet.from packet.body
  no_rule (input.Tick t) = no_tick t
