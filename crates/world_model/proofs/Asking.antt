-- What an input asks of a replica is a step of its peer, or none.
use Rattle.std.proofs.Common.{◌≡◌, ℕ, List, [], ◌∷◌, Option, Some, None, refl, ap, ◌∙◌, eqb-true}
use Rattle.std.specs.Prelude.{◌==◌, ◌&&◌, nat_lt}
use Rattle.std.specs.FinMap.{contains_key}
use Rattle.std.proofs.lemmas.Bool.{cond_both, cond-true, and_parts, eq-eqb}
use Rattle.raft_log.specs.declared.message.RaftMsg.{RaftMsg}
use Rattle.member_change.specs.Permit.{member_in}
use Rattle.raft_core.specs.declared.input.RaftInput.{RaftInput}
use Rattle.raft_core.specs.declared.input.RaftInput.TheVariants as raft
use Rattle.raft_group.specs.declared.event.Spur.{Spur}
use Rattle.raft_group.specs.declared.event.Spur.TheVariants as spur
use Rattle.raft_group.specs.Group.{Group, input_of, sent_to}
use Rattle.part_keys.specs.declared.entry.PartEntry.{PartEntry}
use Rattle.chain_leader.specs.declared.body.About.{About}
use Rattle.chain_leader.specs.declared.body.ChainBody.{ChainBody}
use Rattle.chain_leader.specs.Leading.{Taken, given_up, taken}
use Rattle.replica_model.specs.declared.packet.Place.{Place}
use Rattle.replica_model.specs.declared.packet.Place.TheVariants as place
use Rattle.replica_model.specs.declared.packet.Body.{Body}
use Rattle.replica_model.specs.declared.packet.Body.TheVariants as body
use Rattle.replica_model.specs.declared.input.Tick.{Tick}
use Rattle.replica_model.specs.declared.input.Tick.TheVariants as tick
use Rattle.replica_model.specs.declared.input.Input.{Input}
use Rattle.replica_model.specs.declared.input.Input.TheVariants as input
use Rattle.part_keys.specs.Spelled.{Spelling}
use Rattle.replica_model.specs.Replica.{Home, Replica, leads, machine_of}
use Rattle.replica_model.specs.Asks.{Asks, Nothing, Refuses, Points, Leads, Raft, Reads, asks, asks_tick, asks_message, asks_body, asks_leader, offers_all, proposes, may_hear, refuses, may_read, Hint, Reading, about_in, hint_in, read_in, part_from, kept_sender, is_sender, offers}
use Rattle.world_model.specs.Grouped.{Has, message_from, IsComing, IsInput}

-- a step of the peer that is asked for is one that its group may take
abbrev pub HasSpur : Group → ℕ → RaftInput → Type 0
HasSpur g y i = (s : Spur) × (input_of g y s ≡ Some i)

abbrev pub MayAsk : Group → ℕ → Asks → Type 0
MayAsk g y Nothing = Unit {0}
MayAsk g y (Refuses from other) = Unit {0}
MayAsk g y (Points v hint) = Unit {0}
MayAsk g y (Leads tk) = Unit {0}
MayAsk g y (Raft i lead sender) = HasSpur g y i
MayAsk g y (Reads id query) = HasSpur g y raft.Confirm

module _ (home : Home) (g : Group) (y : ℕ) (r : Replica) where
  abbrev May : Asks → Type 0
  May a = MayAsk g y a

  may_propose : (tk : Taken) (sender : Option Place) (bytes : Option (List ℕ)) → May (proposes tk sender bytes)
  may_propose tk sender None = tt
  may_propose tk sender (Some bytes) = (spur.Propose bytes, refl)

  may_offer : (s : Spelling) (tk : Taken) (sender : Option Place) (xs : List PartEntry) → May (offers_all s tk sender xs)
  may_offer s tk sender [] = tt
  may_offer s tk sender (x ∷ []) = may_propose tk sender (s.spell x)
  may_offer s tk sender (x ∷ z ∷ more) = tt

  may_tick : (t : Tick) → May (asks_tick home r t)
  may_tick (tick.Elect policy) = (spur.Elect, refl)
  may_tick tick.Pulse = (spur.Pulse, refl)
  may_tick (tick.GiveUp id) = cond_both (leads r) _ _ May (λ yes. may_offer home.spelling (given_up r.lead id) None (given_up r.lead id).proposals) (λ no. tt)
  may_tick (tick.Transfer peer) = (spur.Transfer peer, refl)
  may_tick (tick.Change change) = cond_both (nat_lt 0 (member_in change)) _ _ May
      (λ yes. (spur.Change change, cond-true (nat_lt 0 (member_in change)) (Some (raft.Change change)) None yes))
      (λ no. tt)

  sent_spur : (a : ℕ) (m : RaftMsg) → Has g.sent (message_from a y m) → HasSpur g y (raft.Msg a m)
  sent_spur a m h = (spur.Sent h.0, ap (sent_to y) h.1 ∙ cond-true (y == y) (Some (raft.Msg a m)) None (eq-eqb y y refl))

  may_message : (from : Place) (m : RaftMsg) → IsComing g home.part y from (body.Raft m) → May (asks_message home r from m)
  may_message (place.Client c) m coming = tt
  may_message (place.Peer q a) m coming = cond_both ((q == home.part) && may_hear home m) _ _ May
      (λ yes. sent_spur a m (coming a (ap (λ p. place.Peer p a) (eqb-true q home.part (and_parts (q == home.part) (may_hear home m) yes).0))))
      (λ no. tt)

  may_refuse : (from : Place) (other : Option About) → May (refuses from other)
  may_refuse from None = tt
  may_refuse from (Some other) = tt

  may_lead : (from : Place) (said : ChainBody) (hint : Option Hint) (read : Option Reading) → May (asks_leader home r from said hint read)
  may_lead from said (Some hint) read = cond_both (contains_key r.lead.table hint.chain) (Points hint.chain hint.peer) Nothing May (λ yes. tt) (λ no. tt)
  may_lead from said None (Some read) = cond_both (may_read home r read) _ _ May (λ yes. (spur.Confirm, refl)) (λ no. tt)
  may_lead from said None None = (let tk = taken home.ids home.parts home.part r.core.term (machine_of home r) r.lead said (part_from from) in
      cond_both (is_sender said from) (offers home.spelling tk (kept_sender from said)) Nothing May (λ well. may_offer home.spelling tk (kept_sender from said) tk.proposals) (λ not_so. tt))

  may_body : (from : Place) (b : Body) → IsComing g home.part y from b → May (asks_body home r from b)
  may_body from (body.Raft m) coming = may_message from m coming
  may_body from (body.Chain said) coming = cond_both (leads r) _ _ May (λ yes. may_lead from said (hint_in said) (read_in said)) (λ no. may_refuse from (about_in home from said))

  pub may_ask : (i : Input) → IsInput g home.part y i → May (asks home r i)
  may_ask (input.Sent packet) coming = may_body packet.from packet.body coming
  may_ask (input.Tick t) coming = may_tick t
