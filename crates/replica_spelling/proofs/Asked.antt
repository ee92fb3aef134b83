-- What an input that has a spelling asks of a replica that has spellings.
use Rattle.std.proofs.Common.{◌≡◌, ℕ, List, [], ◌∷◌, take, Option, None, Some, refl, sym, subst}
use Rattle.std.specs.Prelude.{◌==◌, nat_lt, ◌&&◌}
use Rattle.std.specs.FinMap.{contains_key}
use Rattle.std.proofs.lemmas.Bool.{cond_both, ltb-true}
use Rattle.raft_log.specs.declared.message.RaftMsg.{RaftMsg}
use Rattle.raft_log.specs.declared.message.RaftMsg.TheVariants.{Append, Appended, Vote, Voted, TimeoutNow}
use Rattle.raft_log.specs.declared.entry.Entry.{Entry}
use Rattle.raft_log.proofs.PlaceLemmas.{all_of-take}
use Rattle.member_change.specs.Permit.{member_in}
use Rattle.raft_core.specs.declared.input.RaftInput.{RaftInput}
use Rattle.raft_core.specs.declared.input.RaftInput.TheVariants as raft
use Rattle.raft_core.specs.Ahead.{IsMessage, IsInput}
use Rattle.graph_bytes.specs.Fits.{IsSmall}
use Rattle.part_keys.specs.declared.entry.PartEntry.{PartEntry}
use Rattle.part_keys.specs.declared.entry.PartEntry.TheVariants as entry
use Rattle.chain_leader.specs.declared.body.About.{About}
use Rattle.chain_leader.specs.declared.body.ChainBody.{ChainBody}
use Rattle.chain_leader.specs.declared.body.ChainBody.TheVariants as says
use Rattle.chain_leader.specs.Leading.{Leading, Taken, taken, given_up}
use Rattle.replica_model.specs.declared.packet.Place.{Place}
use Rattle.replica_model.specs.declared.packet.Place.TheVariants as place
use Rattle.replica_model.specs.declared.packet.Body.{Body}
use Rattle.replica_model.specs.declared.packet.Body.TheVariants as body
use Rattle.replica_model.specs.declared.input.Tick.{Tick}
use Rattle.replica_model.specs.declared.input.Tick.TheVariants as tick
use Rattle.replica_model.specs.declared.input.Input.{Input}
use Rattle.replica_model.specs.declared.input.Input.TheVariants as input
use Rattle.replica_model.specs.Replica.{Home, Replica, machine_of, leads}
use Rattle.replica_model.specs.Spelling.{made_of as spelled_of, value_of, values_of}
use Rattle.replica_model.specs.Asks.{Asks, Nothing, Refuses, Points, Leads, Raft, Reads, proposes, offers_all, may_hear, asks_message, is_sender, part_from, kept_sender, takes, Hint, hint_in, Reading, query_of, read_in, may_read, asks_leader, asks_body, about_in, refuses, asks_tick, asks}
use Rattle.packet_codec.specs.Fits.{HasSpellingPlace, HasSpellingMessage, HasSpellingSaid, HasSpellingBody}
use Rattle.replica_spelling.specs.Parts.{IsSpelledPart, FitsValue}
use Rattle.replica_spelling.specs.Spelled.{IsHome, IsSpelledTable, IsSpelled, IsFittingMessage, IsFittingBody, IsSpelledInput}
use Rattle.replica_spelling.proofs.Entries.{spelled_fits, values_fit, IsFittingInput}
use Rattle.replica_spelling.proofs.Letters.{IsSpelledSender}
use Rattle.replica_spelling.proofs.Parts.{folded_spelled}
use Rattle.replica_spelling.proofs.Rules.{IsSpelledTaken, given_up_spelled, taken_spelled}

-- what a step of the Raft peer is asked for
pub record IsSpelledRaft (home : Home) (asked : RaftInput) (lead : Leading) (sender : Option Place) : Type 0 where
  pub input : IsInput asked
  pub fits : IsFittingInput home asked
  pub table : IsSpelledTable lead.table
  pub from : IsSpelledSender sender

abbrev pub IsSpelledAsks : Home → Replica → Asks → Type 0
IsSpelledAsks home r Nothing = Unit {0}
IsSpelledAsks home r (Refuses from other) = HasSpellingPlace from
IsSpelledAsks home r (Points v peer) = Unit {0}
IsSpelledAsks home r (Leads tk) = IsSpelledTaken home.part r.core.me tk
IsSpelledAsks home r (Raft asked lead sender) = IsSpelledRaft home asked lead sender
IsSpelledAsks home r (Reads id query) = IsSmall id.client

module _ (home : Home) (at : IsHome home) (r : Replica) (is : IsSpelled home r) where
  pub machine_spelled : IsSpelledPart (machine_of home r)
  machine_spelled =
      let decided = take r.core.commit r.core.log in
      folded_spelled home.parts at.some at.few (values_of home.spelling decided) (values_fit home decided (all_of-take (λ (e : Entry). FitsValue (value_of home.spelling e.item)) r.core.commit r.core.log is.entries))

  -- a step with the leader as it is, which keeps no sender
  plain : (asked : RaftInput) → IsInput asked → IsFittingInput home asked → IsSpelledRaft home asked r.lead None
  plain asked input fits = record { input = input; fits = fits; table = is.table; from = tt }

  -- ---- what a leader proposes

  asks_proposed : (tk : Taken) (sender : Option Place) (x : PartEntry) (spelled : Option (List ℕ)) → home.spelling.spell x ≡ spelled → IsSpelledTable tk.leading.table → IsSpelledSender sender → IsSpelledAsks home r (proposes tk sender spelled)
  asks_proposed tk sender x None e table from = tt
  asks_proposed tk sender x (Some bytes) e table from =
      let fits = spelled_fits home.spelling at.spelling x bytes e in
      record { input = tt; fits = subst (λ (o : Option PartEntry). FitsValue (spelled_of o)) (sym (home.spelling.back x bytes e)) fits; table = table; from = from }

  asks_offered : (tk : Taken) (sender : Option Place) (proposals : List PartEntry) → IsSpelledTaken home.part r.core.me tk → IsSpelledSender sender → IsSpelledAsks home r (offers_all home.spelling tk sender proposals)
  asks_offered tk sender [] made from = made
  asks_offered tk sender (x ∷ []) made from = asks_proposed tk sender x (home.spelling.spell x) refl made.0 from
  asks_offered tk sender (x ∷ y ∷ more) made from = tt

  -- ---- a message of the group

  message_is : (message : RaftMsg) → HasSpellingMessage message → IsMessage message
  message_is (Append term previous commit round entries) few = few.1
  message_is (Appended term ok index round) few = tt
  message_is (Vote term last) few = tt
  message_is (Voted term granted) few = tt
  message_is (TimeoutNow term) few = tt

  asks_heard : (from : Place) (message : RaftMsg) → HasSpellingMessage message → IsFittingMessage home message → IsSpelledAsks home r (asks_message home r from message)
  asks_heard (place.Client c) message spelled fits = tt
  asks_heard (place.Peer q from) message spelled fits = cond_both ((q == home.part) && may_hear home message) _ _ (IsSpelledAsks home r)
      (λ _. plain (raft.Msg from message) (message_is message spelled) fits) (λ _. tt)

  -- ---- calls and chains

  sender_kept : (from : Place) (said : ChainBody) → HasSpellingPlace from → IsSpelledSender (kept_sender from said)
  sender_kept from (says.Remote term v list) place = place
  sender_kept from (says.Fence term v edges) place = place
  sender_kept from other place = tt

  asks_taken : (from : Place) (said : ChainBody) → HasSpellingPlace from → IsSpelledAsks home r (takes home r from said)
  asks_taken from said place =
      let tk = taken home.ids home.parts home.part r.core.term (machine_of home r) r.lead said (part_from from) in
      cond_both (is_sender said from) _ _ (IsSpelledAsks home r)
      (λ _. asks_offered tk (kept_sender from said) tk.proposals (taken_spelled home.part r.core.me home.ids home.parts home.part r.core.term (machine_of home r) r.lead said (part_from from) machine_spelled is.table) (sender_kept from said place))
      (λ _. tt)

  abbrev IsSpelledReading : Option Reading → Type 0
  IsSpelledReading None = Unit {0}
  IsSpelledReading (Some read) = IsSmall read.id.client

  asked_query : (from : Place) (number : ℕ) (x : PartEntry) → HasSpellingSaid from (says.Request number x) → IsSpelledReading (query_of x)
  asked_query from number (entry.Read id query) spelled = spelled.1.0
  asked_query from number other spelled = tt

  asked_read : (from : Place) (said : ChainBody) → HasSpellingSaid from said → IsSpelledReading (read_in said)
  asked_read from (says.Request number x) spelled = asked_query from number x spelled
  asked_read from other spelled = tt

  asks_led : (from : Place) (said : ChainBody) (hint : Option Hint) (read : Option Reading) → HasSpellingPlace from → IsSpelledReading read → IsSpelledAsks home r (asks_leader home r from said hint read)
  asks_led from said (Some hint) read place small = cond_both (contains_key r.lead.table hint.chain) _ _ (IsSpelledAsks home r) (λ _. tt) (λ _. tt)
  asks_led from said None (Some read) place small = cond_both (may_read home r read) _ _ (IsSpelledAsks home r) (λ _. small) (λ _. tt)
  asks_led from said None None place small = asks_taken from said place

  asks_refused : (from : Place) (other : Option About) → HasSpellingPlace from → IsSpelledAsks home r (refuses from other)
  asks_refused from None place = tt
  asks_refused from (Some other) place = place

  asks_said : (from : Place) (b : Body) → HasSpellingPlace from → HasSpellingBody from b → IsFittingBody home b → IsSpelledAsks home r (asks_body home r from b)
  asks_said from (body.Raft message) place spelled fits = asks_heard from message spelled fits
  asks_said from (body.Chain said) place spelled fits = cond_both (leads r) _ _ (IsSpelledAsks home r)
      (λ _. asks_led from said (hint_in said) (read_in said) place (asked_read from said spelled)) (λ _. asks_refused from (about_in home from said) place)

  asks_ticked : (t : Tick) → IsSpelledAsks home r (asks_tick home r t)
  asks_ticked (tick.Elect policy) = plain raft.Elect tt tt
  asks_ticked tick.Pulse = plain raft.Pulse tt tt
  asks_ticked (tick.GiveUp id) = cond_both (leads r) _ _ (IsSpelledAsks home r)
      (λ _. let tk = given_up r.lead id in asks_offered tk None tk.proposals (given_up_spelled home.part r.core.me r.lead id is.table) tt) (λ _. tt)
  asks_ticked (tick.Transfer peer) = plain (raft.Transfer peer) tt tt
  asks_ticked (tick.Change change) = cond_both (nat_lt 0 (member_in change)) _ _ (IsSpelledAsks home r) (λ yes. plain (raft.Change change) (ltb-true 0 (member_in change) yes) tt) (λ _. tt)

  pub asks_spelled : (i : Input) → IsSpelledInput home i → IsSpelledAsks home r (asks home r i)
  asks_spelled (input.Sent packet) heard = asks_said packet.from packet.body heard.0.from heard.0.body heard.1
  asks_spelled (input.Tick t) heard = asks_ticked t
