-- What an input may ask: the letters of the leader's rules alone are the rules', and a hint is of a chain of the table.
use Rattle.std.proofs.Common.{◌≡◌, ℕ, List, [], ◌∷◌, Option, Some, None, true}
use Rattle.std.specs.Prelude.{◌==◌, ◌&&◌, nat_lt}
use Rattle.std.specs.FinMap.{contains_key}
use Rattle.std.proofs.lemmas.Bool.{cond_both}
use Rattle.raft_log.specs.declared.message.RaftMsg.{RaftMsg}
use Rattle.member_change.specs.Permit.{member_in}
use Rattle.part_keys.specs.declared.entry.PartEntry.{PartEntry}
use Rattle.chain_leader.specs.declared.body.About.{About}
use Rattle.chain_leader.specs.declared.body.ChainBody.{ChainBody}
use Rattle.chain_leader.specs.Leading.{Taken, taken, given_up}
use Rattle.replica_model.specs.declared.packet.Place.{Place}
use Rattle.replica_model.specs.declared.packet.Place.TheVariants as place
use Rattle.replica_model.specs.declared.packet.Body.{Body}
use Rattle.replica_model.specs.declared.packet.Body.TheVariants as body
use Rattle.replica_model.specs.declared.input.Tick.{Tick}
use Rattle.replica_model.specs.declared.input.Tick.TheVariants as tick
use Rattle.replica_model.specs.declared.input.Input.{Input}
use Rattle.replica_model.specs.declared.input.Input.TheVariants as input
use Rattle.replica_model.specs.Replica.{Home, Replica, machine_of, leads}
use Rattle.replica_model.specs.Asks.{Asks, Nothing, Refuses, Points, Leads, Raft, Reads, Hint, Reading, proposes, offers_all, asks_tick, may_hear, asks_message, is_sender, part_from, about_in, refuses, hint_in, read_in, may_read, kept_sender, takes, asks_leader, asks_body, asks}
use Rattle.replica_model.proofs.Letters.{OfRules, of_taken, of_given_up}

abbrev pub Founded : Replica → Asks → Type 0
Founded r (Leads tk) = OfRules tk.letters
Founded r (Points v peer) = contains_key r.lead.table v ≡ true
Founded r Nothing = Unit {0}
Founded r (Refuses from other) = Unit {0}
Founded r (Raft asked lead sender) = Unit {0}
Founded r (Reads id query) = Unit {0}

module _ (home : Home) (r : Replica) where
  of_proposes : (tk : Taken) (sender : Option Place) (bytes : Option (List ℕ)) → Founded r (proposes tk sender bytes)
  of_proposes tk sender None = tt
  of_proposes tk sender (Some bytes) = tt

  of_offers : (tk : Taken) (sender : Option Place) (xs : List PartEntry) → OfRules tk.letters → Founded r (offers_all home.spelling tk sender xs)
  of_offers tk sender [] of = of
  of_offers tk sender (x ∷ []) of = of_proposes tk sender (home.spelling.spell x)
  of_offers tk sender (x ∷ y ∷ more) of = tt

  of_tick : (t : Tick) → Founded r (asks_tick home r t)
  of_tick (tick.Elect policy) = tt
  of_tick tick.Pulse = tt
  of_tick (tick.GiveUp id) = cond_both (leads r) _ _ (Founded r) (λ _. of_offers (given_up r.lead id) None (given_up r.lead id).proposals (of_given_up r.lead id)) (λ _. tt)
  of_tick (tick.Transfer peer) = tt
  of_tick (tick.Change change) = cond_both (nat_lt 0 (member_in change)) _ _ (Founded r) (λ _. tt) (λ _. tt)

  of_message : (from : Place) (message : RaftMsg) → Founded r (asks_message home r from message)
  of_message (place.Client c) message = tt
  of_message (place.Peer q y) message = cond_both ((q == home.part) && may_hear home message) _ _ (Founded r) (λ _. tt) (λ _. tt)

  of_refuses : (from : Place) (o : Option About) → Founded r (refuses from o)
  of_refuses from None = tt
  of_refuses from (Some other) = tt

  of_takes : (from : Place) (said : ChainBody) → Founded r (takes home r from said)
  of_takes from said =
      let tk = taken home.ids home.parts home.part r.core.term (machine_of home r) r.lead said (part_from from) in
      cond_both (is_sender said from) _ _ (Founded r)
      (λ _. of_offers tk (kept_sender from said) tk.proposals (of_taken home.ids home.parts home.part r.core.term (machine_of home r) r.lead said (part_from from)))
      (λ _. tt)

  of_leader : (from : Place) (said : ChainBody) (hint : Option Hint) (read : Option Reading) → Founded r (asks_leader home r from said hint read)
  of_leader from said (Some hint) read = cond_both (contains_key r.lead.table hint.chain) _ _ (Founded r) (λ yes. yes) (λ _. tt)
  of_leader from said None (Some read) = cond_both (may_read home r read) _ _ (Founded r) (λ _. tt) (λ _. tt)
  of_leader from said None None = of_takes from said

  of_body : (from : Place) (b : Body) → Founded r (asks_body home r from b)
  of_body from (body.Raft message) = of_message from message
  of_body from (body.Chain said) =
      cond_both (leads r) _ _ (Founded r) (λ _. of_leader from said (hint_in said) (read_in said)) (λ _. of_refuses from (about_in home from said))

  pub founded : (i : Input) → Founded r (asks home r i)
  founded (input.Sent packet) = of_body packet.from packet.body
  founded (input.Tick t) = of_tick t
