-- Which entries a step of a replica puts into its log: each of them may stand there.
use Rattle.std.proofs.Common.{◌≡◌, ℕ, List, [], ◌∷◌, drop, Option, None, Some, Ok, Err, Bool, true, false, refl, sym, subst}
use Rattle.std.specs.Prelude.{◌==◌, nat_lt, ◌&&◌}
use Rattle.std.specs.List.{AllByRecursion}
use Rattle.std.specs.FinMap.{get, entries, contains_key}
use Rattle.std.proofs.lemmas.Bool.{cond_both}
use Rattle.raft_log.specs.declared.entry.Entry.{Entry}
use Rattle.raft_log.specs.declared.mark.Mark.{Mark}
use Rattle.raft_log.specs.declared.message.RaftMsg.{RaftMsg}
use Rattle.raft_log.specs.declared.message.RaftMsg.TheVariants.{Append, Appended, Vote, Voted, TimeoutNow}
use Rattle.raft_log.specs.Log.{matches}
use Rattle.member_change.specs.declared.change.Change.{Change}
use Rattle.member_change.specs.Permit.{Answer, member_in}
use Rattle.raft_core.specs.declared.input.RaftInput.{RaftInput}
use Rattle.raft_core.specs.declared.input.RaftInput.TheVariants.{Msg, Elect, Pulse, Propose, Transfer, Change as ChangeInput, Confirm}
use Rattle.raft_core.specs.Core.{Core, Made, Sends, said, is_leading, is_voter}
use Rattle.raft_core.specs.Votes.{term_in, past_terms, with_term, turned_down, grants, has_won, ruled, standing, asking, may_stand as may_ask, stood, with_vote, counts}
use Rattle.raft_core.specs.Appends.{missing, is_out_of_order, taken, led}
use Rattle.raft_core.specs.Members.{may_follow, permitted, changed_by, members_changed}
use Rattle.raft_core.specs.Rounds.{past_rounds}
use Rattle.raft_core.specs.Step.{handled, on_message, pulsed, made_of, is_unchanged, record_of, stepped as raft_stepped}
use Rattle.raft_core.proofs.Keeping.{led_keeps}
use Rattle.graph_model.specs.declared.call_id.CallId.{CallId}
use Rattle.part_keys.specs.declared.entry.PartEntry.{PartEntry}
use Rattle.part_keys.specs.declared.entry.PartEntry.TheVariants as entry
use Rattle.part_keys.specs.Routing.{is_payload}
use Rattle.part_keys.specs.declared.chain.ChainState.{ChainState}
use Rattle.part_keys.specs.declared.chain.Mode.{Mode}
use Rattle.part_keys.specs.declared.chain.Mode.TheVariants.{Put, Doubled, Fence}
use Rattle.part_rules.specs.Part.{Part}
use Rattle.chain_leader.specs.declared.body.ChainBody.{ChainBody}
use Rattle.chain_leader.specs.declared.body.ChainBody.TheVariants as says
use Rattle.chain_leader.specs.Calls.{is_write}
use Rattle.chain_leader.specs.declared.body.About.{About}
use Rattle.chain_leader.specs.Rules.{Table, asks as asked, asks_once, ending_done, ending_fenced, first_to_double, doubles}
use Rattle.chain_leader.specs.Leading.{Leading, Taken, listed, proposing, given_up, taken as taken_by}
use Rattle.replica_model.specs.declared.packet.Place.{Place}
use Rattle.replica_model.specs.declared.packet.Place.TheVariants as place
use Rattle.replica_model.specs.declared.packet.Body.{Body}
use Rattle.replica_model.specs.declared.packet.Body.TheVariants as body
use Rattle.replica_model.specs.declared.input.Tick.{Tick}
use Rattle.replica_model.specs.declared.input.Tick.TheVariants as tick
use Rattle.replica_model.specs.declared.input.Input.{Input}
use Rattle.replica_model.specs.declared.input.Input.TheVariants as input
use Rattle.replica_model.specs.Replica.{Home, Replica, machine_of, leads}
use Rattle.replica_model.specs.Spelling.{made_of as spelled_of}
use Rattle.replica_model.specs.Asks.{Asks, Nothing, Refuses, Points, Leads, Raft, Reads, proposes, offers_all, is_entry, may_hear, asks_message, is_sender, part_from, kept_sender, takes, Hint, hint_in, Reading, read_in, may_read, asks_leader, asks_body, about_in, refuses, asks_tick, asks}
use Rattle.replica_model.specs.Stepped.{stepped, does}
use Rattle.replica_file.specs.Laws.{MayStand}
use Rattle.replica_record.specs.Framed.{MayBeKept}
use Rattle.replica_record.specs.Own.{allowed_in}
use Rattle.replica_record.proofs.Own.{and_true, own_items}

module _ (home : Home) where
  -- what comes to the Raft step: an Append of entries that may stand there, and a payload that may
  abbrev IsOwnMessage : RaftMsg → Type 0
  IsOwnMessage (Append term previous commit round entries) = MayStand (allowed_in home) entries
  IsOwnMessage other = Unit {0}

  abbrev IsOwnInput : RaftInput → Type 0
  IsOwnInput (Msg from message) = IsOwnMessage message
  IsOwnInput (Propose bytes) = is_entry home (spelled_of (home.spelling.read bytes)) ≡ true
  IsOwnInput other = Unit {0}

  abbrev Puts : Made → Type 0
  Puts made = MayStand (allowed_in home) made.entries

  -- ---- the rules of a Raft step

  puts_ruled : (core : Core) (sends : Sends) (began : Bool) → Puts (ruled core sends began)
  puts_ruled core sends began = cond_both (has_won core) _ _ Puts (λ won. (refl, tt)) (λ lost. tt)

  puts_stood : (core : Core) → Puts (stood core)
  puts_stood core = cond_both (may_ask core) _ _ Puts (λ may. puts_ruled (standing core) (asking (standing core)) true) (λ not. tt)

  missing_may : (own new : List Entry) → MayStand (allowed_in home) new → MayStand (allowed_in home) (missing own new)
  missing_may [] new may = may
  missing_may (e ∷ own) [] may = tt
  missing_may (e ∷ own) (other ∷ new) may = cond_both (e.term == other.term) _ _ (MayStand (allowed_in home)) (λ same. missing_may own new may.1) (λ apart. may)

  puts_taken : (core : Core) (from : ℕ) (previous : Mark) (commit round : ℕ) (entries : List Entry) → MayStand (allowed_in home) entries → Puts (taken core from previous commit round entries)
  puts_taken core from previous commit round entries may = cond_both (is_out_of_order core previous entries) _ _ Puts
      (λ out. tt)
      (λ order. cond_both (matches core.log previous.index previous.term) _ _ Puts (λ is. missing_may (drop previous.index core.log) entries may) (λ not. tt))

  puts_handled : (core : Core) (from : ℕ) (message : RaftMsg) → IsOwnMessage message → Puts (handled core from message)
  puts_handled core from (Append term previous commit round entries) is = puts_taken core from previous commit round entries is
  puts_handled core from (Appended term ok index round) is = tt
  puts_handled core from (Vote term last) is = cond_both (grants core from last) _ _ Puts (λ yes. tt) (λ no. tt)
  puts_handled core from (Voted term granted) is = cond_both (counts core from granted) _ _ Puts (λ yes. puts_ruled (with_vote core from) [] false) (λ no. tt)
  puts_handled core from (TimeoutNow term) is = puts_stood core

  puts_turned_down : (core : Core) (from : ℕ) (message : RaftMsg) → Puts (turned_down core from message)
  puts_turned_down core from (Append term previous commit round entries) = tt
  puts_turned_down core from (Appended term ok index round) = tt
  puts_turned_down core from (Vote term last) = tt
  puts_turned_down core from (Voted term granted) = tt
  puts_turned_down core from (TimeoutNow term) = tt

  puts_message : (core : Core) (from : ℕ) (message : RaftMsg) → IsOwnMessage message → Puts (on_message core from message)
  puts_message core from message is = cond_both (term_in message == past_terms) _ _ Puts
      (λ past. tt)
      (λ fits. cond_both (nat_lt (term_in message) core.term) _ _ Puts
      (λ old. puts_turned_down core from message)
      (λ new. cond_both (nat_lt core.term (term_in message)) _ _ (λ c. Puts (handled c from message))
      (λ above. puts_handled (with_term core (term_in message)) from message is)
      (λ own. puts_handled core from message is)))

  puts_pulsed : (core : Core) → Puts (pulsed core)
  puts_pulsed core = cond_both (is_leading core.role) _ _ Puts (λ leads. tt)
      (λ not. cond_both (core.heard && is_voter core) _ _ Puts (λ heard. tt) (λ quiet. puts_stood core))

  puts_changed : (core : Core) (change : Change) → Puts (members_changed core change)
  puts_changed core change = cond_both (is_leading core.role) _ _ Puts (λ leads. answered (permitted core change)) (λ not. tt)
    where
      answered : (answer : Answer) → Puts (changed_by core change answer)
      answered (Ok config) = (refl, tt)
      answered (Err refusal) = tt

  puts_rules : (core : Core) (i : RaftInput) → IsOwnInput i → Puts (made_of core i)
  puts_rules core (Msg from message) is = puts_message core from message is
  puts_rules core Elect is = puts_stood core
  puts_rules core Pulse is = puts_pulsed core
  puts_rules core (Propose bytes) is = cond_both (is_leading core.role) _ _ Puts (λ leads. (is, tt)) (λ not. tt)
  puts_rules core (Transfer peer) is = cond_both (is_leading core.role && may_follow core peer) _ _ Puts (λ may. tt) (λ not. tt)
  puts_rules core (ChangeInput change) is = puts_changed core change
  puts_rules core Confirm is = cond_both (is_leading core.role && nat_lt core.round past_rounds) _ _ Puts (λ may. tt) (λ not. tt)

  keeps_recorded : (core : Core) (made : Made) → Puts made → MayBeKept (allowed_in home) (record_of core made)
  keeps_recorded core made puts = cond_both (is_unchanged core made) _ _ (MayBeKept (allowed_in home)) (λ same. tt) (λ other. puts)

  keeps_raft : (core : Core) (i : RaftInput) → IsOwnInput i → MayBeKept (allowed_in home) (raft_stepped core i).kept
  keeps_raft core i is = keeps_recorded core (led (made_of core i)) (subst (MayStand (allowed_in home)) (sym (led_keeps (made_of core i)).1) (puts_rules core i is))

  -- ---- what is asked

  abbrev AsksOwn : Asks → Type 0
  AsksOwn (Raft i lead sender) = IsOwnInput i
  AsksOwn other = Unit {0}

  abbrev MayPropose : List PartEntry → Type 0
  MayPropose proposals = AllByRecursion (λ (x : PartEntry). is_payload home.ids home.parts home.part x ≡ true) proposals

  asks_spelled : (tk : Taken) (sender : Option Place) (x : PartEntry) (spelled : Option (List ℕ)) → home.spelling.spell x ≡ spelled → is_payload home.ids home.parts home.part x ≡ true → AsksOwn (proposes tk sender spelled)
  asks_spelled tk sender x None e is = tt
  asks_spelled tk sender x (Some bytes) e is = rw (home.spelling.back x bytes e) is

  asks_offers : (tk : Taken) (sender : Option Place) (proposals : List PartEntry) → MayPropose proposals → AsksOwn (offers_all home.spelling tk sender proposals)
  asks_offers tk sender [] may = tt
  asks_offers tk sender (x ∷ []) may = asks_spelled tk sender x (home.spelling.spell x) refl may.0
  asks_offers tk sender (x ∷ y ∷ more) may = tt

  -- ---- what a leader proposes

  may_asked : (t : Table) (v : ℕ) (chain : ChainState) (found : Option PartEntry) → MayPropose (listed found) → MayPropose (listed (asked t v chain found).1)
  may_asked t v chain None may = tt
  may_asked t v chain (Some x) may = may

  may_once : (t : Table) (v : ℕ) (ending : ChainState → Option PartEntry) → ((chain : ChainState) → MayPropose (listed (ending chain))) → (found : Option ChainState) → MayPropose (listed (asks_once t v ending found).1)
  may_once t v ending may None = tt
  may_once t v ending may (Some chain) = cond_both chain.asked _ _ (λ (made : Table × Option PartEntry). MayPropose (listed made.1)) (λ before. tt) (λ not. may_asked t v chain (ending chain) (may chain))

  may_done : (v : ℕ) (mode : Mode) → MayPropose (listed (ending_done v mode))
  may_done v Put = (refl, tt)
  may_done v Doubled = (refl, tt)
  may_done v Fence = tt

  may_fenced : (v : ℕ) (written : Bool) (mode : Mode) → MayPropose (listed (ending_fenced v written mode))
  may_fenced v true Put = tt
  may_fenced v true Doubled = tt
  may_fenced v true Fence = (refl, tt)
  may_fenced v false Put = tt
  may_fenced v false Doubled = tt
  may_fenced v false Fence = (refl, tt)

  may_double : (t : Table) (found : Option (ℕ × ChainState)) → MayPropose (listed (doubles t found).1)
  may_double t None = tt
  may_double t (Some c) = (refl, tt)

  may_given_up : (l : Leading) (id : CallId) → MayPropose (given_up l id).proposals
  may_given_up l id = cond_both l.ready _ _ (λ (tk : Taken). MayPropose tk.proposals) (λ ready. may_double l.table (first_to_double id (entries l.table))) (λ not. tt)

  may_proposing : (l : Leading) (x : PartEntry) → MayPropose (proposing home.ids home.parts home.part l x).proposals
  may_proposing l x = cond_both (is_payload home.ids home.parts home.part x) _ _ (λ (tk : Taken). MayPropose tk.proposals) (λ is. (is, tt)) (λ not. tt)

  may_taken : (term : ℕ) (machine : Part) (l : Leading) (said : ChainBody) (from : ℕ) → MayPropose (taken_by home.ids home.parts home.part term machine l said from).proposals
  may_taken term machine l (says.Request number x) from = cond_both (is_write x) _ _ (λ (tk : Taken). MayPropose tk.proposals) (λ is. may_proposing l x) (λ not. tt)
  may_taken term machine l (says.Answer number answer) from = tt
  may_taken term machine l (says.NotLeader other part peer) from = tt
  may_taken term machine l (says.Remote t v list) from = may_proposing l (entry.Remote from t v list)
  may_taken term machine l (says.Done t v) from = cond_both (l.ready && (t == term)) _ _ (λ (tk : Taken). MayPropose tk.proposals) (λ is. may_once l.table v (λ chain. ending_done v chain.mode) (λ chain. may_done v chain.mode) (get l.table v)) (λ not. tt)
  may_taken term machine l (says.Stale t v above) from = tt
  may_taken term machine l (says.Fence t v edges) from = may_proposing l (entry.Fence from t v edges)
  may_taken term machine l (says.Fenced t v written) from = cond_both (l.ready && (t == term)) _ _ (λ (tk : Taken). MayPropose tk.proposals) (λ is. may_once l.table v (λ chain. ending_fenced v written chain.mode) (λ chain. may_fenced v written chain.mode) (get l.table v)) (λ not. tt)
  may_taken term machine l (says.Resume t after) from = cond_both (l.ready && (t == term)) _ _ (λ (tk : Taken). MayPropose tk.proposals) (λ is. tt) (λ not. tt)

  -- ---- what an input asks

  own_message : (message : RaftMsg) → may_hear home message ≡ true → IsOwnMessage message
  own_message (Append term previous commit round entries) may = own_items home entries may
  own_message (Appended term ok index round) may = tt
  own_message (Vote term last) may = tt
  own_message (Voted term granted) may = tt
  own_message (TimeoutNow term) may = tt

  asks_own_message : (r : Replica) (from : Place) (message : RaftMsg) → AsksOwn (asks_message home r from message)
  asks_own_message r (place.Client c) message = tt
  asks_own_message r (place.Peer q from) message = cond_both ((q == home.part) && may_hear home message) _ _ AsksOwn
      (λ is. own_message message (and_true (q == home.part) (may_hear home message) is).1) (λ not. tt)

  asks_own_takes : (r : Replica) (from : Place) (said : ChainBody) → AsksOwn (takes home r from said)
  asks_own_takes r from said = cond_both (is_sender said from) _ _ AsksOwn
      (λ is.
      let tk = taken_by home.ids home.parts home.part r.core.term (machine_of home r) r.lead said (part_from from) in
      asks_offers tk (kept_sender from said) tk.proposals (may_taken r.core.term (machine_of home r) r.lead said (part_from from)))
      (λ not. tt)

  asks_own_leader : (r : Replica) (from : Place) (said : ChainBody) (hint : Option Hint) (read : Option Reading) → AsksOwn (asks_leader home r from said hint read)
  asks_own_leader r from said (Some hint) read = cond_both (contains_key r.lead.table hint.chain) _ _ AsksOwn (λ is. tt) (λ not. tt)
  asks_own_leader r from said None (Some read) = cond_both (may_read home r read) _ _ AsksOwn (λ is. tt) (λ not. tt)
  asks_own_leader r from said None None = asks_own_takes r from said

  asks_refused : (from : Place) (other : Option About) → AsksOwn (refuses from other)
  asks_refused from None = tt
  asks_refused from (Some other) = tt

  asks_own_body : (r : Replica) (from : Place) (said : Body) → AsksOwn (asks_body home r from said)
  asks_own_body r from (body.Raft message) = asks_own_message r from message
  asks_own_body r from (body.Chain said) = cond_both (leads r) _ _ AsksOwn (λ is. asks_own_leader r from said (hint_in said) (read_in said)) (λ not. asks_refused from (about_in home from said))

  asks_own_tick : (r : Replica) (t : Tick) → AsksOwn (asks_tick home r t)
  asks_own_tick r (tick.Elect policy) = tt
  asks_own_tick r tick.Pulse = tt
  asks_own_tick r (tick.GiveUp id) = cond_both (leads r) _ _ AsksOwn (λ is. let tk = given_up r.lead id in asks_offers tk None tk.proposals (may_given_up r.lead id)) (λ not. tt)
  asks_own_tick r (tick.Transfer peer) = tt
  asks_own_tick r (tick.Change change) = cond_both (nat_lt 0 (member_in change)) _ _ AsksOwn (λ is. tt) (λ not. tt)

  asks_own : (r : Replica) (i : Input) → AsksOwn (asks home r i)
  asks_own r (input.Sent packet) = asks_own_body r packet.from packet.body
  asks_own r (input.Tick t) = asks_own_tick r t

  keeps_does : (r : Replica) (i : Input) (a : Asks) → AsksOwn a → MayBeKept (allowed_in home) (does home r i a).kept
  keeps_does r i Nothing is = tt
  keeps_does r i (Refuses from other) is = tt
  keeps_does r i (Points v hint) is = tt
  keeps_does r i (Leads tk) is = tt
  keeps_does r i (Raft asked lead sender) is = keeps_raft r.core asked is
  keeps_does r i (Reads id query) is = keeps_raft r.core Confirm tt

  pub keeps_own : (r : Replica) (i : Input) → MayBeKept (allowed_in home) (stepped home r i).kept
  keeps_own r i = keeps_does r i (asks home r i) (asks_own r i)
